-- The turns of one job (Taylor UUCP manual, "UUCP Protocol"; what becomes of the job is this project's profile). In
-- each table `next` is what fails when the master then chooses its next job, and `rest` is what comes behind.
use Rattle.std.specs.Prelude.{ℕ, Bool, true, false, List, [], ◌∷◌, length, drop, Option, Some, None}
use Rattle.uug_talk.specs.declared.answer.Answer.TheVariants as answer
use Rattle.uug_talk.specs.declared.order.Order.TheVariants as order
use Rattle.uug_conversation.specs.declared.job.Job.{Job}
use Rattle.uug_conversation.specs.declared.job.Job.TheVariants as job
use Rattle.uug_conversation.specs.declared.verdict.Verdict.{Verdict}
use Rattle.uug_conversation.specs.declared.verdict.Verdict.TheVariants.{Yes, Never, Later}
use Rattle.uug_conversation.specs.Choice.{fetched_by}
use Rattle.uug_conversation.specs.Holdings.{File, Holdings, to_give, kept_as}
use Rattle.uug_conversation.specs.Jobs.{Move, pass, strike, fail}
use Rattle.uug_conversation.specs.Resuming.{front_held}
use Rattle.uug_conversation.specs.Told.{told_of}
use Rattle.uug_conversation.specs.Turns.{the_order, the_answer, the_consent, the_giving, the_file, Turn, plain, moving}
use Rattle.uug_conversation.specs.declared.side.Side.{Side}

-- the hearer keeps the file under this name, of which these bytes come
abbrev pub keeping : Side → (bytes : List ℕ) → (name : List ℕ) → File → List Move → Turn
keeping speaker bytes name file moves =
    record { speaker = speaker; said = the_file bytes; moves = moves; keeps = kept_as name file ∷ [] }

-- ---- Send, by whether the master tells digests, by its file, and by what the slave's spool says: the name under which it keeps
-- the file, the front that it holds of it, its verdict on the name, and whether a file can't be put in its place there

abbrev pub send_exchange : (master slave : Side) → (digests : Bool) → (source target user : List ℕ) (temp : Option (List ℕ))
    → Option File → (name front : List ℕ) → Verdict → (immovable : Bool) → (next : List Move) → (rest : List Turn) → List Turn
-- no file: no turn
send_exchange master slave digests source target user temp None name front verdict immovable next rest = rest
-- S; SN2: failed
send_exchange master slave digests source target user temp (Some file) name front Never immovable next rest =
    plain master (the_order (order.Send source target user temp file.mode) (told_of digests (Some file))) ∷
    moving slave (the_answer answer.SendNever) (fail ∷ next) ∷ rest
-- S; SN4: pending
send_exchange master slave digests source target user temp (Some file) name front Later immovable next rest =
    plain master (the_order (order.Send source target user temp file.mode) (told_of digests (Some file))) ∷
    moving slave (the_answer answer.SendLater) (pass ∷ next) ∷ rest
-- S; SY; the rest of the file; CY: struck
send_exchange master slave digests source target user temp (Some file) name front Yes false next rest =
    plain master (the_order (order.Send source target user temp file.mode) (told_of digests (Some file))) ∷
    plain slave (the_consent (length front)) ∷
    keeping master (drop (length front) file.bytes) name file [] ∷
    moving slave (the_answer answer.DoneYes) (strike ∷ next) ∷ rest
-- S; SY; the rest of the file; CN5: failed
send_exchange master slave digests source target user temp (Some file) name front Yes true next rest =
    plain master (the_order (order.Send source target user temp file.mode) (told_of digests (Some file))) ∷
    plain slave (the_consent (length front)) ∷
    plain master (the_file (drop (length front) file.bytes)) ∷
    moving slave (the_answer answer.DoneNever) (fail ∷ next) ∷ rest

-- ---- Request, by whether the slave tells digests, by its file, by whether it has none only for now, and by what the master's spool says:
-- the name under which it keeps the file, and whether a file can't be put in its place there

abbrev pub request_exchange : (master slave : Side) → (digests : Bool) → (source target user : List ℕ)
    → Option File → (delayed : Bool) → (name : List ℕ) → (immovable : Bool) → (next : List Move) → (rest : List Turn) → List Turn
-- R; RN2: failed
request_exchange master slave digests source target user None false name immovable next rest =
    plain master (the_order (order.Request source target user) None) ∷
    moving slave (the_answer answer.GiveNever) (fail ∷ next) ∷ rest
-- R; RN6: pending
request_exchange master slave digests source target user None true name immovable next rest =
    plain master (the_order (order.Request source target user) None) ∷
    moving slave (the_answer answer.GiveLater) (pass ∷ next) ∷ rest
-- R; RY; file; CY: struck
request_exchange master slave digests source target user (Some file) delayed name false next rest =
    plain master (the_order (order.Request source target user) None) ∷
    plain slave (the_giving file.mode (told_of digests (Some file))) ∷
    keeping slave file.bytes name file (strike ∷ next) ∷
    plain master (the_answer answer.DoneYes) ∷ rest
-- R; RY; file; CN5: failed
request_exchange master slave digests source target user (Some file) delayed name true next rest =
    plain master (the_order (order.Request source target user) None) ∷
    plain slave (the_giving file.mode (told_of digests (Some file))) ∷
    moving slave (the_file file.bytes) (fail ∷ next) ∷
    plain master (the_answer answer.DoneNever) ∷ rest

-- the turns of one job, by what the master holds (`own`) and what the slave holds (`others`)
abbrev pub exchange : (master slave : Side) → (own others : Holdings) → Job → (next : List Move) → (rest : List Turn) → List Turn
exchange master slave own others (job.Send source target user temp) next rest =
    send_exchange master slave own.digests source target user temp
    (to_give own (fetched_by source temp)) (others.landing source target)
    (front_held others own.digests (fetched_by source temp) (to_give own (fetched_by source temp))) (others.verdict (others.landing source target))
    (others.immovable (others.landing source target)) next rest
exchange master slave own others (job.Request source target user) next rest =
    request_exchange master slave others.digests source target user (to_give others source) (others.delayed source) (own.landing source target)
    (own.immovable (own.landing source target)) next rest
