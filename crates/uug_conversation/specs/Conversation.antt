-- The whole conversation of a session, written down in advance (Taylor UUCP manual, "UUCP Protocol"). Nothing that was
-- offered is offered twice, and holdings don't change: so the roles are exchanged at most once.
use Rattle.std.specs.Prelude.{List, [], ◌∷◌, Option, Some, None}
use Rattle.uug_conversation.specs.declared.job.Job.{Job}
use Rattle.uug_talk.specs.declared.answer.Answer.TheVariants.{HangYes, HangNo}
use Rattle.uug_talk.specs.declared.order.Order.{Order}
use Rattle.uug_talk.specs.declared.order.Order.TheVariants.{HangUp}
use Rattle.uug_conversation.specs.Choice.{choice}
use Rattle.uug_conversation.specs.Exchange.{exchange}
use Rattle.uug_conversation.specs.Holdings.{Holdings}
use Rattle.uug_conversation.specs.Party.{Party}
use Rattle.uug_conversation.specs.Turns.{the_order, the_answer, Turn, plain, moving}
use Rattle.uug_conversation.specs.declared.side.Side.{Side}
use Rattle.uug_conversation.specs.declared.side.Side.TheVariants.{Caller, Called}

-- the turns of a master's jobs, in front of what comes then
abbrev pub exchanges : (master slave : Side) → (own others : Holdings) → List Job → (rest : List Turn) → List Turn
exchanges master slave own others [] rest = rest
exchanges master slave own others (job ∷ jobs) rest =
    exchange master slave own others job (choice own jobs).failing (exchanges master slave own others jobs rest)

-- the slave agrees to hang up, and so does the master: H has its answer
abbrev pub both_agree : (master slave : Side) → List Turn
both_agree master slave = plain slave (the_answer HangYes) ∷ plain master (the_answer HangYes) ∷ []

-- the called end's last turn as master: the caller has no job left that it could offer
abbrev pub last_turns : List Turn
last_turns = plain Called (the_order HangUp None) ∷ both_agree Called Caller

-- how the called end answers the caller's H: where it has a job to offer it says HN, and is master then
abbrev pub after_hang_up : Option Order → (a b : Party) → List Turn
after_hang_up None a b = both_agree Caller Called
after_hang_up (Some order) a b =
    plain Called (the_answer HangNo) ∷ exchanges Called Caller b.holdings a.holdings b.jobs last_turns

-- the caller's last turn as master: the called end makes its choice when it has taken it
abbrev pub hang_up : (a b : Party) → List Turn
hang_up a b =
    moving Caller (the_order HangUp None) (choice b.holdings b.jobs).failing ∷
    after_hang_up (choice b.holdings b.jobs).next a b

-- the conversation of a caller and a called end
abbrev pub conversation : (a b : Party) → List Turn
conversation a b = exchanges Caller Called a.holdings b.holdings a.jobs (hang_up a b)
