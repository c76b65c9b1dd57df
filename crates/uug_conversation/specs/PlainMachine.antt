-- One end of a conversation with every setting off: it is not lenient, tells and hears no digests, and gives each file now or never.
-- This is its whole table, on its own (Taylor UUCP manual, "UUCP Protocol"; what becomes of a job, and what is out of turn, is this project's profile).
use Rattle.std.specs.Prelude.{◌≡◌, ℕ, nat_lt, Bool, true, false, List, [], ◌∷◌, ◌++◌, length, Option, Some, None, Result, Ok, Err}
use Rattle.uug_talk.specs.declared.answer.Answer.{Answer}
use Rattle.uug_talk.specs.declared.answer.Answer.TheVariants as answer
use Rattle.uug_talk.specs.declared.error.BadText.{BadText}
use Rattle.uug_talk.specs.declared.order.Order.{Order}
use Rattle.uug_talk.specs.declared.order.Order.TheVariants as order
use Rattle.uug_talk.specs.Answer.{answer_of}
use Rattle.uug_talk.specs.Gathering.{Kind, OfCommand, OfFile, Gathering, limit_of}
use Rattle.uug_talk.specs.Order.{order_of}
use Rattle.uug_conversation.specs.declared.awaits.Awaits.{Awaits}
use Rattle.uug_conversation.specs.declared.awaits.Awaits.TheVariants as awaits
use Rattle.uug_conversation.specs.declared.job.Job.{Job}
use Rattle.uug_conversation.specs.declared.job.Job.TheVariants as job
use Rattle.uug_conversation.specs.Choice.{Choice, choice, fetched_by}
use Rattle.uug_conversation.specs.Holdings.{File, Kept, Holdings, to_give}
use Rattle.uug_conversation.specs.Jobs.{Lists, pass, strike, fail, moved, moved_once}
use Rattle.uug_conversation.specs.Machine.{State, Reply, awaits_answer_to, comes_early, gathered_with, keeps, on_given_file_done, on_hang_up_answer, on_last_hang_up, on_nothing_more, on_send, order_or_hang_up, out_of_turn, replies, sends_file}
use Rattle.uug_conversation.specs.Turns.{Said, the_order, the_answer, the_giving, the_file}
use Rattle.uug_conversation.specs.declared.side.Side.{Side}
use Rattle.uug_conversation.specs.declared.side.Side.TheVariants.{Caller, Called}

pub record AreOff (h : Holdings) : Type 0 where
  pub strict : h.lenient ≡ false
  pub untold : h.digests ≡ false
  pub prompt : (name : List ℕ) → h.delayed name ≡ false

-- nothing was told of the file that is awaited, and it is not the rest of one past its limit
abbrev pub awaits_plainly : Awaits → Bool
awaits_plainly (awaits.SentFile source target mode (Some told) limit) = false
awaits_plainly (awaits.AskedFile mode (Some told) limit) = false
awaits_plainly (awaits.DroppedSentFile limit) = false
awaits_plainly (awaits.DroppedAskedFile limit) = false
awaits_plainly _ = true

-- ---- the master's next command

abbrev pub commands : Lists → (before : List Said) → Order → Reply
commands l before next = replies l (awaits_answer_to next) (before ++ the_order next None ∷ [])

abbrev pub chooses : Choice → Lists → (before : List Said) → Reply
chooses c l before = commands (moved c.failing l) before (order_or_hang_up c.next)

abbrev pub goes_on : Holdings → Lists → (before : List Said) → Reply
goes_on h l before = chooses (choice h l.ahead) l before

-- ---- a slave takes a command

-- R, by the file that it asks for
abbrev pub on_request : Option File → Lists → Reply
on_request None l = replies l awaits.Order (the_answer answer.GiveNever ∷ [])
on_request (Some file) l = replies l awaits.GivenFileDone (the_giving file.mode None ∷ the_file file.bytes ∷ [])

-- H, by the choice of a job: where there is one, the roles are exchanged
abbrev pub on_hang_up : Option Order → Lists → Reply
on_hang_up None l = replies l awaits.LastHangUp (the_answer answer.HangYes ∷ [])
on_hang_up (Some next) l = commands l (the_answer answer.HangNo ∷ []) next

abbrev pub on_choice : Choice → Lists → Reply
on_choice c l = on_hang_up c.next (moved c.failing l)

abbrev pub on_order : Holdings → Result Order BadText → Lists → Reply
on_order h (Ok (order.Send source target user temp mode)) l =
    on_send h.limit (h.verdict (h.landing source target)) [] (fetched_by source temp) (h.landing source target) mode None l
on_order h (Ok (order.Request source target user)) l = on_request (to_give h source) l
on_order h (Ok order.HangUp) l = on_choice (choice h l.ahead) l
on_order h (Err fault) l = out_of_turn l

-- ---- a master takes an answer

-- SY, by the job in front: its file goes out
abbrev pub on_send_yes : Holdings → List Job → Lists → Reply
on_send_yes h (job.Send source target user temp ∷ jobs) l = sends_file (to_give h (fetched_by source temp)) l
on_send_yes h _ l = out_of_turn l

abbrev pub on_send_answer : Holdings → Result Answer BadText → Lists → Reply
on_send_answer h (Ok answer.SendYes) l = on_send_yes h l.ahead l
on_send_answer h (Ok answer.SendNever) l = goes_on h (moved_once fail l) []
on_send_answer h (Ok answer.SendLater) l = goes_on h (moved_once pass l) []
on_send_answer h _ l = out_of_turn l

-- what became of the file that it sent
abbrev pub on_sent_file_done : Holdings → Result Answer BadText → Lists → Reply
on_sent_file_done h (Ok answer.DoneYes) l = goes_on h (moved_once strike l) []
on_sent_file_done h (Ok answer.DoneYesMaster) l = commands (moved_once strike l) [] order.HangUp
on_sent_file_done h (Ok answer.DoneNever) l = goes_on h (moved_once fail l) []
on_sent_file_done h (Ok answer.DoneLater) l = goes_on h (moved_once pass l) []
on_sent_file_done h _ l = out_of_turn l

abbrev pub on_sent_job_done : Holdings → List Job → Result Answer BadText → Lists → Reply
on_sent_job_done h (job.Send source target user temp ∷ jobs) read l = on_sent_file_done h read l
on_sent_job_done h _ read l = out_of_turn l

abbrev pub on_request_answer : Holdings → Result Answer BadText → Lists → Reply
on_request_answer h (Ok (answer.GiveYes mode)) l = replies l (awaits.AskedFile mode None h.limit) []
on_request_answer h (Ok answer.GiveNever) l = goes_on h (moved_once fail l) []
on_request_answer h (Ok answer.GiveLater) l = goes_on h (moved_once pass l) []
on_request_answer h _ l = out_of_turn l

-- ---- a whole text

abbrev pub on_text : Holdings → Awaits → List ℕ → Lists → Reply
on_text h awaits.Order text l = on_order h (order_of text) l
on_text h awaits.GivenFileDone text l = on_given_file_done (answer_of text) l
on_text h awaits.LastHangUp text l = on_last_hang_up (answer_of text) l
on_text h awaits.SendAnswer text l = on_send_answer h (answer_of text) l
on_text h awaits.SentFileDone text l = on_sent_job_done h l.ahead (answer_of text) l
on_text h awaits.RequestAnswer text l = on_request_answer h (answer_of text) l
on_text h awaits.HangUpAnswer text l = on_hang_up_answer (answer_of text) l
on_text h awaits.NothingMore text l = on_nothing_more (answer_of text) l
on_text h _ text l = out_of_turn l

-- ---- a whole file, by whether it can't be put in its place

-- the file that was sent to a slave
abbrev pub on_sent_file : (immovable : Bool) → Kept → Lists → Reply
on_sent_file false file l = keeps file (replies l awaits.Order (the_answer answer.DoneYes ∷ []))
on_sent_file true file l = replies l awaits.Order (the_answer answer.DoneNever ∷ [])

-- the file that a master asked for
abbrev pub on_asked_file : Holdings → (immovable : Bool) → Kept → Lists → Reply
on_asked_file h false file l = keeps file (goes_on h (moved_once strike l) (the_answer answer.DoneYes ∷ []))
on_asked_file h true file l = goes_on h (moved_once fail l) (the_answer answer.DoneNever ∷ [])

-- it is that of the job in front, and is kept where that lands
abbrev pub on_file_of : Holdings → List Job → (mode : ℕ) → (bytes : List ℕ) → Lists → Reply
on_file_of h (job.Request source target user ∷ jobs) mode bytes l =
    on_asked_file h (h.immovable (h.landing source target))
    (record { name = h.landing source target; mode = mode; bytes = bytes }) l
on_file_of h _ mode bytes l = out_of_turn l

abbrev pub on_file : Holdings → Awaits → List ℕ → Lists → Reply
on_file h (awaits.SentFile source target mode told limit) bytes l =
    on_sent_file (h.immovable target) (record { name = target; mode = mode; bytes = bytes }) l
on_file h (awaits.AskedFile mode told limit) bytes l = on_file_of h l.ahead mode bytes l
on_file h _ bytes l = out_of_turn l

-- ---- one message

abbrev pub on_whole : Kind → Holdings → Awaits → List ℕ → Lists → Reply
on_whole OfCommand h awaited text l = on_text h awaited text l
on_whole (OfFile limit) h awaited bytes l = on_file h awaited bytes l

-- by whether the text or file is whole
abbrev pub on_gathered : (whole : Bool) → Kind → Holdings → State → List ℕ → Reply
on_gathered false kind h s bytes =
    record { state = record { lists = s.lists; awaits = s.awaits; gathered = bytes }; says = []; keeps = [] }
on_gathered true kind h s bytes = on_whole kind h s.awaits bytes s.lists

-- by whether it is past its limit with this message
abbrev pub on_part : (too_long : Bool) → Gathering → Holdings → State → Reply
on_part true g h s = out_of_turn s.lists
on_part false g h s = on_gathered g.whole g.kind h s g.bytes

abbrev pub on_gathering : Gathering → Holdings → State → Reply
on_gathering g h s = on_part (nat_lt (limit_of g.kind) (length g.bytes)) g h s

abbrev pub plain_step : Holdings → State → (message : List ℕ) → Reply
plain_step h s message = on_gathering (gathered_with s message) h s

-- as a node takes it, by whether all that the end said before was sent
abbrev pub unless_early : (early : Bool) → Holdings → State → (message : List ℕ) → Reply
unless_early true h s message = out_of_turn s.lists
unless_early false h s message = plain_step h s message

abbrev pub plain_reply_to : Holdings → (none_waits : Bool) → State → (message : List ℕ) → Reply
plain_reply_to h none_waits s message = unless_early (comes_early s.awaits none_waits) h s message

-- ---- from the start

abbrev pub plain_opening : Side → Holdings → Lists → Reply
plain_opening Caller h l = goes_on h l []
plain_opening Called h l = replies l awaits.Order []
