use Rattle.std.proofs.Common.{◌≡◌, ◌+◌, ◌≤◌, [], length}
use Rattle.uug_conversation.specs.Jobs.{at_start}
use Rattle.uug_talk.specs.Lines.{lines}
use Rattle.uug_store.specs.JobsText.{jobs_from, jobs_of}
use Rattle.uug_store.proofs.jobs_text.read_jobs.Given as goal

-- what is left leads to the same jobs, all of which are still to be offered, and each line has taken a byte
abbrev pub invariant-loop-line : goal.invariant-loop-line
invariant-loop-line g l = record {
  same : jobs_from l.number l.queue.ahead (lines l.rest) ≡ jobs_of l.fn.text;
  fresh : l.queue ≡ at_start l.queue.ahead [] [];
  counted : l.number + length l.rest ≤ length l.fn.text + 1;
}

abbrev pub decreases-loop-line : goal.decreases-loop-line
decreases-loop-line g l = length l.rest
