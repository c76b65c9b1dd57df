use Rattle.std.proofs.Common.{◌≡◌, drop}
use Rattle.uug_store.specs.Queueing.{is_among}
use Rattle.uug_store.proofs.queued.is_among.Given as goal

-- it is none of the jobs before
abbrev pub invariant-loop-other : goal.invariant-loop-other
invariant-loop-other l = is_among l.job (drop l.other-index l.jobs) ≡ is_among l.job l.jobs
