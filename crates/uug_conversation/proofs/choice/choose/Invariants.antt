use Rattle.std.proofs.Common.{◌≡◌, length}
use Rattle.uug_conversation.specs.Choice.{choice}
use Rattle.uug_conversation.specs.Jobs.{moved}
use Rattle.uug_conversation.proofs.choice.choose.Given as goal

-- the choice among the jobs that are still ahead leads to the same end
abbrev pub invariant-loop-job : goal.invariant-loop-job
invariant-loop-job g l = record {
  same : l.spool ≡ l.fn.spool;
  lists : moved (choice (g.S.Spool.holdings l.spool) l.queue.ahead).failing l.queue
      ≡ moved (choice (g.S.Spool.holdings l.spool) l.fn.queue.ahead).failing l.fn.queue;
  next : (choice (g.S.Spool.holdings l.spool) l.queue.ahead).next ≡ (choice (g.S.Spool.holdings l.spool) l.fn.queue.ahead).next;
}

abbrev pub decreases-loop-job : goal.decreases-loop-job
decreases-loop-job g l = length l.queue.ahead
