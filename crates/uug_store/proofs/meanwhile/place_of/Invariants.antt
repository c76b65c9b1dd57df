use Rattle.uug_store.proofs.JobsAfterLemmas.{IsBehind}
use Rattle.uug_store.proofs.meanwhile.place_of.Given as goal

-- the job is none of those in front
abbrev pub invariant-loop-i : goal.invariant-loop-i
invariant-loop-i l = IsBehind l.job l.jobs l.i
