use Rattle.std.proofs.Common.{◌≡◌, drop}
use Rattle.uug_taylor_queue.specs.Executions.{requestor_at}
use Rattle.uug_taylor_queue.proofs.execution.requestor_at.Given as goal

-- none of those before has the job
abbrev pub invariant-loop-execution : goal.invariant-loop-execution
invariant-loop-execution l = requestor_at (drop l.execution-index l.executions) l.job ≡ requestor_at l.executions l.job
