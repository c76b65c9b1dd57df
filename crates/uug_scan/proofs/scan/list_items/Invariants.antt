use Rattle.std.proofs.Common.{length, string_bytes}
use Rattle.uug_scan.specs.Scan.{AddsLines}
use Rattle.uug_scan.proofs.scan.list_items.Given as goal

-- the lines of what is no longer held were added
abbrev pub invariant-loop-found : goal.invariant-loop-found
invariant-loop-found g l = AddsLines l.fn.reader.bytes l.reader.bytes (string_bytes l.fn.lines) (string_bytes l.lines)

abbrev pub decreases-loop-found : goal.decreases-loop-found
decreases-loop-found g l = length l.reader.bytes
