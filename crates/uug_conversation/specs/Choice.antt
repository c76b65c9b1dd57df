-- How a master chooses its next job (this project's profile).
use Rattle.std.specs.Prelude.{ℕ, List, [], ◌∷◌, Option, Some, None}
use Rattle.uug_conversation.specs.declared.job.Job.{Job}
use Rattle.uug_conversation.specs.declared.job.Job.TheVariants as job
use Rattle.uug_talk.specs.declared.order.Order.{Order}
use Rattle.uug_talk.specs.declared.order.Order.TheVariants as order
use Rattle.uug_conversation.specs.Holdings.{File, Holdings, to_give}
use Rattle.uug_conversation.specs.Jobs.{Move, fail}

-- the moves of the jobs in front that can't be offered, and the command for the job behind them, if there is one
pub record Choice : Type 0 where
  pub failing : List Move
  pub next : Option Order

abbrev pub offers : Order → Choice
offers next = record { failing = []; next = Some next }

-- the name by which the file of a Send job is fetched: that of its copy, where there is one
abbrev pub fetched_by : (source : List ℕ) (temp : Option (List ℕ)) → List ℕ
fetched_by source None = source
fetched_by source (Some temp) = temp

-- a Send job whose file isn't there to be sent fails, and the choice is that of the jobs behind it
abbrev pub send_choice : (source target user : List ℕ) (temp : Option (List ℕ)) → Option File → (behind : Choice) → Choice
send_choice source target user temp None behind = record { failing = fail ∷ behind.failing; next = behind.next }
send_choice source target user temp (Some file) behind = offers (order.Send source target user temp file.mode)

-- the choice among these jobs of an end that has these holdings
abbrev pub choice : Holdings → List Job → Choice
choice h [] = record { failing = []; next = None }
choice h (job.Send source target user temp ∷ jobs) =
    send_choice source target user temp (to_give h (fetched_by source temp)) (choice h jobs)
choice h (job.Request source target user ∷ jobs) = offers (order.Request source target user)
