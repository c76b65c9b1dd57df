use Rattle.std.proofs.Common.{◌≡◌, ◌++◌, drop, string_bytes}
use Rattle.uug_store.specs.Notices.{notices}
use Rattle.uug_store.proofs.notices.add_notices.Given as goal

abbrev pub invariant-loop-job : goal.invariant-loop-job
invariant-loop-job g l =
    string_bytes l.text ++ notices (g.S.Spool.holdings l.spool) (drop l.job-index l.jobs)
    ≡ string_bytes l.fn.text ++ notices (g.S.Spool.holdings l.spool) l.jobs
