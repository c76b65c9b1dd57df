use Rattle.std.proofs.Common.{ℕ, ◌≤◌, ◌<◌, ◌≢◌, slice_get, Some}
use Rattle.uug_packet.specs.Packet.{shown}
use Rattle.uug_packet.specs.Spelling.{canonical}
use Rattle.uug_line.specs.Shown.{lists_in}
use Rattle.uug_line.proofs.sighting.place_of.Given as goal

-- the packet does not stand at the places that were looked at
abbrev pub invariant-loop-i : goal.invariant-loop-i
invariant-loop-i g l = (j : ℕ) → l.passed ≤ j → j < l.i → slice_get (lists_in l.others) j ≢ Some (canonical (shown l.packet))
