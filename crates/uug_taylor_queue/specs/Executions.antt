-- The commands that lines of C. files run, and who is notified when one is given up (with option R the user in NOTIFY
-- asks for the command, as in Taylor UUCP; the rest is this project's profile).
use Rattle.std.specs.Prelude.{◌&&◌, not, ℕ, Bool, List, [], ◌∷◌, codes, Option, Some, None, Result, Ok, Err, if◌then◌else◌}
use Rattle.std.specs.List.{list_any}
use Rattle.std.specs.Option.{unwrap_or}
use Rattle.uug_conversation.specs.declared.job.Job.{Job}
use Rattle.uug_conversation.specs.declared.job.Job.TheVariants.{Request, Send}
use Rattle.uug_store.specs.Queueing.{is_among}
use Rattle.uug_taylor_text.specs.CommandLines.{Line, command_of, execute, has_option}
use Rattle.uug_taylor_text.specs.SpoolNames.{begins_with}
use Rattle.uug_taylor_text.specs.declared.command.CommandFault.{CommandFault}
use Rattle.uug_talk.specs.Name.{name_of}
use Rattle.uug_taylor_queue.specs.Offers.{offer_of}
use Rattle.uug_taylor_queue.specs.declared.execution.Execution.{Execution}
use Rattle.uug_taylor_queue.specs.declared.offer.NotOffered.{NotOffered}
use Rattle.uug_taylor_queue.specs.declared.offer.Offer.{Offer}

-- ---- the command of a line

-- who asks for a command: with option R, the name in NOTIFY; the mailer would read one that begins with a dash as an
-- option
abbrev pub requestor_of : (options notify : List ℕ) → Option (List ℕ)
requestor_of options notify =
    if has_option 82 options && not (begins_with (codes "-") notify) then name_of notify else None

abbrev pub requestor_in : Result Line CommandFault → Option (List ℕ)
requestor_in (Ok (execute f w command)) = requestor_of f.options w.notify
requestor_in _ = None

abbrev pub execution_with : (first : Job) → (text : Option Job) → (requestor : Option (List ℕ)) → Option Execution
execution_with first None requestor = None
execution_with first (Some text) requestor = Some (record { input = first; text = text; requestor = requestor })

abbrev pub execution_by : Result Offer NotOffered → (requestor : Option (List ℕ)) → Option Execution
execution_by (Ok offer) requestor = execution_with offer.first offer.second requestor
execution_by (Err why) requestor = None

abbrev pub execution_of : (line : List ℕ) → Option Execution
execution_of line = execution_by (offer_of line) (requestor_in (command_of line))

-- ---- when one of their jobs was given up

abbrev pub user_of : Job → List ℕ
user_of (Send source target user temp) = user
user_of (Request source target user) = user

-- who asks for the first command that has this job
abbrev pub requestor_at : List Execution → Job → Option (List ℕ)
requestor_at [] job = None
requestor_at (e ∷ more) job = if is_among job (e.input ∷ e.text ∷ []) then e.requestor else requestor_at more job

-- who is notified: who asks for the command, or else the user of the job
abbrev pub addressee : List Execution → Job → List ℕ
addressee executions job = unwrap_or (requestor_at executions job) (user_of job)

-- the job sends the execution file of a command whose data was given up too: the notice about the data is enough
abbrev pub is_told_with_data : List Execution → (failed : List Job) → Job → Bool
is_told_with_data executions failed job = list_any (λ e. is_among job (e.text ∷ []) && is_among e.input failed) executions
