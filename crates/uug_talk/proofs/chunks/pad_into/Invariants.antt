use Rattle.std.proofs.Common.{◌≡◌, ◌++◌, replicate}
use Rattle.uug_talk.proofs.chunks.pad_into.Given as goal

abbrev pub invariant-loop-zero : goal.invariant-loop-zero
invariant-loop-zero l = l.message.items ≡ l.piece ++ replicate l._zero 0
