use Rattle.std.proofs.Common.{◌≡◌, [], ◌++◌, drop}
use Rattle.uug_conversation.specs.Jobs.{at_start}
use Rattle.uug_store.proofs.front.first_jobs.Given as goal

-- those that were added, and those behind them, are all; and all are to be offered
abbrev pub invariant-loop-job : goal.invariant-loop-job
invariant-loop-job g l = record {
  jobs : l.queue.ahead ++ drop l.job-index l.front ≡ l.front;
  fresh : l.queue ≡ at_start l.queue.ahead [] [];
}
