-- What the code of one end's machine answers, as what the end says.
use Rattle.std.specs.Prelude.{◌≡◌, ℕ, ◌≤◌, ◌++◌, List, [], ◌∷◌, drop, Option, Some, None}
use Rattle.uug_talk.specs.declared.file_digest.FileDigest.{FileDigest}
use Rattle.uug_talk.specs.declared.answer.Answer.{Answer}
use Rattle.uug_talk.specs.declared.answer.Answer.TheVariants as answer
use Rattle.uug_talk.specs.declared.mode.TheConstants.{MODE_MAX}
use Rattle.uug_talk.specs.declared.order.Order.{Order}
use Rattle.uug_talk.specs.declared.order.Order.TheVariants as order
use Rattle.uug_conversation.specs.declared.awaits.Awaits.{Awaits}
use Rattle.uug_conversation.specs.declared.awaits.Awaits.TheVariants as awaits
use Rattle.uug_conversation.specs.declared.job.Job.{Job}
use Rattle.uug_conversation.specs.declared.job.Job.TheVariants as job
use Rattle.uug_conversation.specs.declared.reaction.Reaction.{Reaction}
use Rattle.uug_conversation.specs.declared.reaction.Saying.{Saying}
use Rattle.uug_conversation.specs.declared.reaction.Saying.TheVariants as saying
use Rattle.uug_conversation.specs.declared.reaction.Says.{Says}
use Rattle.uug_conversation.specs.declared.reaction.Says.TheVariants.{Nothing, One, Two}
use Rattle.uug_conversation.specs.declared.verdict.Verdict.{Verdict}
use Rattle.uug_conversation.specs.declared.verdict.Verdict.TheVariants.{Yes, Never, Later}
use Rattle.uug_conversation.specs.Choice.{fetched_by}
use Rattle.uug_conversation.specs.Holdings.{File, Kept, Holdings, IsLimit, to_give, kept_file}
use Rattle.uug_conversation.specs.Jobs.{Lists, Move, pass, strike, fail, moved_once}
use Rattle.uug_conversation.specs.Machine.{Reply, between, replies, out_of_turn, goes_on, awaits_answer_to, file_verdict}
use Rattle.uug_conversation.specs.Resuming.{front_of}
use Rattle.uug_conversation.specs.Turns.{Said, the_order, the_answer, the_consent, the_giving, the_file, the_refusal}

-- what is in a file, or nothing
abbrev pub bytes_given : Option File → List ℕ
bytes_given None = []
bytes_given (Some file) = file.bytes

-- a file is known by its name, and said from a position on
abbrev pub said_by : Holdings → Saying → Said
said_by h (saying.Order order told) = the_order order told
said_by h (saying.Answer answer) = the_answer answer
said_by h (saying.Consent position) = the_consent position
said_by h (saying.Giving mode told) = the_giving mode told
said_by h (saying.File name position) = the_file (drop position (bytes_given (to_give h name)))
said_by h (saying.Refusal letter) = the_refusal letter

abbrev pub all_said : Holdings → Says → List Said
all_said h Nothing = []
all_said h (One said) = said_by h said ∷ []
all_said h (Two said next) = said_by h said ∷ said_by h next ∷ []

-- with these lists then, and these files kept
abbrev pub reply_of : Holdings → Lists → Reaction → (keeps : List Kept) → Reply
reply_of h l r keeps = record { state = between l r.awaits; says = all_said h r.says; keeps = keeps }

-- nothing is said; nothing, as what came fitted no turn; an answer; SY; a refusal; a command, behind an answer where there is one
abbrev pub says_nothing : Awaits → Reaction
says_nothing awaited = record { awaits = awaited; says = Nothing }

abbrev pub fits_no_turn : Reaction
fits_no_turn = says_nothing awaits.Bad

abbrev pub gives_answer : Awaits → Answer → Reaction
gives_answer awaited answer = record { awaits = awaited; says = One (saying.Answer answer) }

abbrev pub gives_consent : Awaits → (position : ℕ) → Reaction
gives_consent awaited position = record { awaits = awaited; says = One (saying.Consent position) }

abbrev pub gives_refusal : (letter : ℕ) → Reaction
gives_refusal letter = record { awaits = awaits.Order; says = One (saying.Refusal letter) }

abbrev pub gives_order : Option Answer → Order → (told : Option FileDigest) → Reaction
gives_order None order told = record { awaits = awaits_answer_to order; says = One (saying.Order order told) }
gives_order (Some answer) order told =
    record { awaits = awaits_answer_to order; says = Two (saying.Answer answer) (saying.Order order told) }

-- an answer in front of a command
abbrev pub said_before : Option Answer → List Said
said_before None = []
said_before (Some answer) = the_answer answer ∷ []

-- the command for a job, if it can be offered
abbrev pub send_offer : (source target user : List ℕ) (temp : Option (List ℕ)) → Option File → Option Order
send_offer source target user temp None = None
send_offer source target user temp (Some file) = Some (order.Send source target user temp file.mode)

abbrev pub offer : Holdings → Job → Option Order
offer h (job.Send source target user temp) = send_offer source target user temp (to_give h (fetched_by source temp))
offer h (job.Request source target user) = Some (order.Request source target user)

-- ---- a whole file, in the order in which the code goes about it: what is held of it, the name under which it is to be kept, its mode, and what
-- was told of it; whether it was kept; what is said then

pub record FileAwaited : Type 0 where
  pub front : List ℕ
  pub name : List ℕ
  pub mode : ℕ
  pub told : Option FileDigest

abbrev pub file_of_first : Holdings → List Job → (mode : ℕ) → (told : Option FileDigest) → Option FileAwaited
file_of_first h (job.Request source target user ∷ jobs) mode told =
    Some (record { front = []; name = h.landing source target; mode = mode; told = told })
file_of_first h _ mode told = None

abbrev pub file_awaited : Holdings → Awaits → List Job → Option FileAwaited
file_awaited h (awaits.SentFile source target mode told limit) jobs =
    Some (record { front = front_of h source told; name = target; mode = mode; told = told })
file_awaited h (awaits.AskedFile mode told limit) jobs = file_of_first h jobs mode told
file_awaited h _ jobs = None

-- whether that file is kept, where these bytes come
abbrev pub awaited_verdict : Holdings → FileAwaited → (bytes : List ℕ) → Verdict
awaited_verdict h file bytes = file_verdict h file.name file.told (file.front ++ bytes)

-- a file is awaited, and one of these bytes is kept
abbrev pub MayBeKept : Holdings → Option FileAwaited → (bytes : List ℕ) → Type 0
MayBeKept h None bytes = ⊥
MayBeKept h (Some file) bytes = awaited_verdict h file bytes ≡ Yes

abbrev pub done_answer : Verdict → Answer
done_answer Yes = answer.DoneYes
done_answer Never = answer.DoneNever
done_answer Later = answer.DoneLater

abbrev pub done_move : Verdict → Move
done_move Yes = strike
done_move Never = fail
done_move Later = pass

abbrev pub on_kept : Holdings → Awaits → Verdict → Lists → Reply
on_kept h (awaits.SentFile source target mode told limit) verdict l =
    replies l awaits.Order (the_answer (done_answer verdict) ∷ [])
on_kept h (awaits.AskedFile mode told limit) verdict l =
    goes_on h (moved_once (done_move verdict) l) (the_answer (done_answer verdict) ∷ [])
on_kept h _ verdict l = out_of_turn l

-- where no file is awaited that could be kept
abbrev pub on_none_kept : Holdings → Awaits → Lists → Reply
on_none_kept h (awaits.DroppedSentFile limit) l = replies l awaits.Order (the_answer answer.DoneNever ∷ [])
on_none_kept h (awaits.DroppedAskedFile limit) l = goes_on h (moved_once fail l) (the_answer answer.DoneNever ∷ [])
on_none_kept h _ l = out_of_turn l

abbrev pub kept_on : Verdict → Kept → List Kept
kept_on Yes file = file ∷ []
kept_on _ file = []

-- the file that is awaited was kept, or why it was not; where none is awaited, none is kept
abbrev pub IsKept : Holdings → Option FileAwaited → (bytes : List ℕ) → Option Verdict → (before after : List Kept) → Type 0
IsKept h None bytes None before after = after ≡ before
IsKept h (Some file) bytes (Some verdict) before after =
    (awaited_verdict h file bytes ≡ verdict) × (after ≡ before ++ kept_on verdict (kept_file file.name file.mode (file.front ++ bytes)))
IsKept h _ bytes _ before after = ⊥

-- a file's mode is one that can be kept, and so is its limit
abbrev pub IsInRange : Awaits → Type 0
IsInRange (awaits.SentFile source target mode told limit) = (mode ≤ MODE_MAX) × IsLimit limit
IsInRange (awaits.AskedFile mode told limit) = (mode ≤ MODE_MAX) × IsLimit limit
IsInRange (awaits.DroppedSentFile limit) = IsLimit limit
IsInRange (awaits.DroppedAskedFile limit) = IsLimit limit
IsInRange _ = Unit {0}

abbrev pub HasModeAnswered : Answer → Type 0
HasModeAnswered (answer.GiveYes mode) = mode ≤ MODE_MAX
HasModeAnswered _ = Unit {0}
