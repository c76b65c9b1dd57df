use Rattle.std.proofs.Common.{◌≡◌, length}
use Rattle.uug_store.specs.Queueing.{last_part}
use Rattle.uug_store.proofs.queued.last_part.Given as goal

-- what is left has the same last part
abbrev pub invariant-loop-rest : goal.invariant-loop-rest
invariant-loop-rest l = last_part l.rest ≡ last_part l.fn.path

abbrev pub decreases-loop-rest : goal.decreases-loop-rest
decreases-loop-rest l = length l.rest
