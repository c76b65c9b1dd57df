-- What the ends of a conversation ask for, and how they hang up (Taylor UUCP manual, "UUCP Protocol").
use Rattle.std.specs.Prelude.{ℕ, List, [], ◌∷◌, ◌++◌, Option, Some, None}
use Rattle.uug_conversation.specs.declared.job.Job.{Job}
use Rattle.uug_conversation.specs.declared.job.Job.TheVariants as job
use Rattle.uug_talk.specs.declared.answer.Answer.{Answer}
use Rattle.uug_talk.specs.declared.answer.Answer.TheVariants.{HangYes, HangNo}
use Rattle.uug_talk.specs.declared.order.Order.{Order}
use Rattle.uug_talk.specs.declared.order.Order.TheVariants as order
use Rattle.uug_conversation.specs.Choice.{fetched_by}
use Rattle.uug_conversation.specs.Holdings.{File, Holdings, to_give}
use Rattle.uug_conversation.specs.Turns.{Said, the_order, the_answer, the_consent, the_giving, the_file, the_refusal, Turn}
use Rattle.uug_conversation.specs.declared.side.Side.{Side}
use Rattle.uug_conversation.specs.declared.side.Side.TheVariants.{Caller, Called}

-- a Send job's command, by its file: without one that may be sent there is none
abbrev pub send_commands : (source target user : List ℕ) (temp : Option (List ℕ)) → Option File → List Order
send_commands source target user temp None = []
send_commands source target user temp (Some file) = order.Send source target user temp file.mode ∷ []

abbrev pub job_commands : Holdings → Job → List Order
job_commands h (job.Send source target user temp) = send_commands source target user temp (to_give h (fetched_by source temp))
job_commands h (job.Request source target user) = order.Request source target user ∷ []

-- what an end with these holdings has to ask for: a command for each of its jobs that can be offered
abbrev pub offered : Holdings → List Job → List Order
offered h [] = []
offered h (job ∷ jobs) = job_commands h job ++ offered h jobs

-- the first command, if there is one
abbrev pub first_of : List Order → Option Order
first_of [] = None
first_of (order ∷ orders) = Some order

-- what is said, where this side says it
abbrev pub if_spoken : {A : Type 0} → (me speaker : Side) → List A → List A
if_spoken Caller Caller said = said
if_spoken Caller Called said = []
if_spoken Called Caller said = []
if_spoken Called Called said = said

abbrev pub command_of : Said → List Order
command_of (the_order order told) = order ∷ []
command_of (the_answer answer) = []
command_of (the_consent position) = []
command_of (the_giving mode told) = []
command_of (the_file bytes) = []
command_of (the_refusal letter) = []

-- the commands that a side says, in order
abbrev pub commands_of : Side → List Turn → List Order
commands_of me [] = []
commands_of me (t ∷ ts) = if_spoken me t.speaker (command_of t.said) ++ commands_of me ts

-- a called end that has something to ask for hangs up when that is done; one that has nothing is never master
abbrev pub until_hang_up : List Order → List Order
until_hang_up [] = []
until_hang_up (first ∷ orders) = (first ∷ orders) ++ order.HangUp ∷ []

-- an answer to H, and who gives it
pub record HangUpAnswer : Type 0 where
  pub speaker : Side
  pub answer : Answer

abbrev pub hang_up_answer_of : Side → Answer → List HangUpAnswer
hang_up_answer_of speaker HangYes = record { speaker = speaker; answer = HangYes } ∷ []
hang_up_answer_of speaker HangNo = record { speaker = speaker; answer = HangNo } ∷ []
hang_up_answer_of speaker _ = []

abbrev pub hang_up_answers_in : Side → Said → List HangUpAnswer
hang_up_answers_in speaker (the_answer answer) = hang_up_answer_of speaker answer
hang_up_answers_in speaker (the_order order told) = []
hang_up_answers_in speaker (the_consent position) = []
hang_up_answers_in speaker (the_giving mode told) = []
hang_up_answers_in speaker (the_file bytes) = []
hang_up_answers_in speaker (the_refusal letter) = []

-- the answers to H in these turns, in order
abbrev pub hang_up_answers : List Turn → List HangUpAnswer
hang_up_answers [] = []
hang_up_answers (t ∷ ts) = hang_up_answers_in t.speaker t.said ++ hang_up_answers ts

abbrev pub agrees : Side → HangUpAnswer
agrees speaker = record { speaker = speaker; answer = HangYes }

-- the called end says HN where it has something to ask for; in the end one side agrees, and then the other
abbrev pub hanging_up : List Order → List HangUpAnswer
hanging_up [] = agrees Called ∷ agrees Caller ∷ []
hanging_up (order ∷ orders) = record { speaker = Called; answer = HangNo } ∷ agrees Caller ∷ agrees Called ∷ []
