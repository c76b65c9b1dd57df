use Rattle.std.proofs.Common.{◌≡◌, ◌+◌, drop}
use Rattle.std.specs.List.{list_any}
use Rattle.uug_transfer.specs.Thinning.{is_sent_again}
use Rattle.uug_transfer.proofs.waiting.goes_out_again.Given as goal

-- among those behind the place there is one where there is one among those that are left
abbrev pub invariant-loop-place : goal.invariant-loop-place
invariant-loop-place g l =
    list_any (is_sent_again l.packet) (drop (l.i + 1) l.outbox.entries) ≡ list_any (is_sent_again l.packet) (drop l.place l.outbox.entries)
