use Rattle.std.proofs.Common.{◌∙◌, ap, arith}
use Rattle.uug_conversation.specs.Jobs.{Lists, pass, moved_once}
use Rattle.uug_conversation.proofs.QueueLemmas.{one_more_passed}
use Rattle.uug_conversation.proofs.queue.Queue.pass_first.Goals as goal

pub returns-then-self-len : goal.returns-then-self-len
returns-then-self-len g c =
    let q = c.self.inside in
    one_more_passed q.pending.jobs q.struck.items q.failed.items q.passed (omega arith)
    ∙ ap (λ (l : Lists). moved_once pass l) c.self.view_is
