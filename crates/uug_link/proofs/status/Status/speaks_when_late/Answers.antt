use Rattle.uug_link.specs.Reactions.{state_of}
use Rattle.uug_link.proofs.TimeoutLemmas.{up_speaks}
use Rattle.uug_link.proofs.status.Status.speaks_when_late.Goals as goal

pub returns-in_default-Up : goal.returns-in_default-Up
returns-in_default-Up c = λ ms len.
    up_speaks (state_of c.args.self ms) c.args.outstanding c.in_default-Up.is-1 c.in-Some.ensures.1 len
