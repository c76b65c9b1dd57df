-- One end of a conversation, which doesn't know the other's jobs or holdings: what it does with each message that it
-- takes (Taylor UUCP manual, "UUCP Protocol"; what becomes of a job, and what is out of turn, is this project's profile;
-- so is all that a lenient end does in place of ending).
use Rattle.std.specs.Prelude.{ℕ, nat_lt, Bool, true, false, ◌&&◌, List, [], ◌∷◌, ◌++◌, length, Option, Some, None, Result, Ok, Err}
use Rattle.uug_talk.specs.Digests.{told_by_answer, told_by_order}
use Rattle.uug_talk.specs.declared.file_digest.FileDigest.{FileDigest}
use Rattle.uug_talk.specs.declared.answer.Answer.{Answer}
use Rattle.uug_talk.specs.declared.answer.Answer.TheVariants as answer
use Rattle.uug_talk.specs.declared.error.BadText.{BadText}
use Rattle.uug_talk.specs.declared.order.Order.{Order}
use Rattle.uug_talk.specs.declared.order.Order.TheVariants as order
use Rattle.uug_talk.specs.Answer.{answer_of}
use Rattle.uug_talk.specs.Gathering.{Kind, OfCommand, OfFile, Gathering, with_message, limit_of}
use Rattle.uug_talk.specs.Lenient.{is_held, or_wished, refused_letter_of}
use Rattle.uug_talk.specs.Order.{order_of}
use Rattle.uug_conversation.specs.declared.awaits.Awaits.{Awaits}
use Rattle.uug_conversation.specs.declared.awaits.Awaits.TheVariants as awaits
use Rattle.uug_conversation.specs.declared.job.Job.{Job}
use Rattle.uug_conversation.specs.declared.job.Job.TheVariants as job
use Rattle.uug_conversation.specs.declared.verdict.Verdict.{Verdict}
use Rattle.uug_conversation.specs.declared.verdict.Verdict.TheVariants.{Yes, Never, Later}
use Rattle.uug_conversation.specs.Choice.{Choice, choice, fetched_by}
use Rattle.uug_conversation.specs.Holdings.{File, Kept, Holdings, to_give}
use Rattle.uug_conversation.specs.Jobs.{Lists, Move, pass, strike, fail, moved, moved_once}
use Rattle.uug_conversation.specs.Told.{fits, heard, is_too_large, outcome, told_of, told_with, unless_too_large}
use Rattle.uug_conversation.specs.Turns.{Said, the_order, the_answer, the_consent, the_giving, the_file, the_refusal}
use Rattle.uug_conversation.specs.declared.side.Side.{Side}
use Rattle.uug_conversation.specs.declared.side.Side.TheVariants.{Caller, Called}
use Rattle.uug_conversation.specs.Resuming.{front_of, position_heard, rest_from}

pub record State : Type 0 where
  pub lists : Lists
  pub awaits : Awaits
  -- the text or file that comes, as far as it has come
  pub gathered : List ℕ

-- the state that comes next, what the end says then, and what it keeps
pub record Reply : Type 0 where
  pub state : State
  pub says : List Said
  pub keeps : List Kept

abbrev pub between : Lists → Awaits → State
between l next = record { lists = l; awaits = next; gathered = [] }

abbrev pub replies : Lists → Awaits → List Said → Reply
replies l next said = record { state = between l next; says = said; keeps = [] }

-- what fits no turn
abbrev pub out_of_turn : Lists → Reply
out_of_turn l = replies l awaits.Bad []

-- ---- the master's next command

-- H where no job is left
abbrev pub order_or_hang_up : Option Order → Order
order_or_hang_up None = order.HangUp
order_or_hang_up (Some next) = next

abbrev pub awaits_answer_to : Order → Awaits
awaits_answer_to (order.Send source target user temp mode) = awaits.SendAnswer
awaits_answer_to (order.Request source target user) = awaits.RequestAnswer
awaits_answer_to order.HangUp = awaits.HangUpAnswer

-- with what it tells of its file
abbrev pub commands : Holdings → Lists → (before : List Said) → Order → Reply
commands h l before next = replies l (awaits_answer_to next) (before ++ the_order next (told_with h next) ∷ [])

abbrev pub chooses : Holdings → Choice → Lists → (before : List Said) → Reply
chooses h c l before = commands h (moved c.failing l) before (order_or_hang_up c.next)

-- the end chooses its next job, and says its command behind what it says before that
abbrev pub goes_on : Holdings → Lists → (before : List Said) → Reply
goes_on h l before = chooses h (choice h l.ahead) l before

-- ---- a slave takes a command

-- S, by the greatest file that is taken, by the verdict on the name under which its file is kept, by the front that is held of it, and by the
-- name by which it is fetched
abbrev pub on_send : (limit : ℕ) → Verdict → (front source target : List ℕ) → (mode : ℕ) → (told : Option FileDigest) → Lists → Reply
on_send limit Yes front source target mode told l = replies l (awaits.SentFile source target mode told limit) (the_consent (length front) ∷ [])
on_send limit Never front source target mode told l = replies l awaits.Order (the_answer answer.SendNever ∷ [])
on_send limit Later front source target mode told l = replies l awaits.Order (the_answer answer.SendLater ∷ [])

-- a lenient end refuses a file that it is told to be too large
abbrev pub send_verdict : Holdings → (target : List ℕ) → (told : Option FileDigest) → Verdict
send_verdict h target told = unless_too_large (h.lenient && is_too_large h.limit told) (h.verdict target)

-- R, by the file that it asks for, by whether there is none only for now, and by whether digests are told
abbrev pub on_request : (digests : Bool) → Option File → (delayed : Bool) → Lists → Reply
on_request digests None false l = replies l awaits.Order (the_answer answer.GiveNever ∷ [])
on_request digests None true l = replies l awaits.Order (the_answer answer.GiveLater ∷ [])
on_request digests (Some file) delayed l =
    replies l awaits.GivenFileDone (the_giving file.mode (told_of digests (Some file)) ∷ the_file file.bytes ∷ [])

-- H, by the choice of a job: where there is one, the roles are exchanged
abbrev pub on_hang_up : Holdings → Option Order → Lists → Reply
on_hang_up h None l = replies l awaits.LastHangUp (the_answer answer.HangYes ∷ [])
on_hang_up h (Some next) l = commands h l (the_answer answer.HangNo ∷ []) next

abbrev pub on_choice : Holdings → Choice → Lists → Reply
on_choice h c l = on_hang_up h c.next (moved c.failing l)

-- what can't be read, by the letter in which it can be refused: a lenient end goes on
abbrev pub on_unread : (lenient : Bool) → (letter : Option ℕ) → Lists → Reply
on_unread true (Some letter) l = replies l awaits.Order (the_refusal letter ∷ [])
on_unread _ _ l = out_of_turn l

-- a command, by the letter in which it can be refused and what it tells of its file
abbrev pub on_order : Holdings → (letter : Option ℕ) → (told : Option FileDigest) → Result Order BadText → Lists → Reply
on_order h letter told (Ok (order.Send source target user temp mode)) l =
    on_send h.limit (send_verdict h (h.landing source target) told) (front_of h (fetched_by source temp) told) (fetched_by source temp)
    (h.landing source target) mode told l
on_order h letter told (Ok (order.Request source target user)) l = on_request h.digests (to_give h source) (h.delayed source) l
on_order h letter told (Ok order.HangUp) l = on_choice h (choice h l.ahead) l
on_order h letter told (Err fault) l = on_unread h.lenient letter l

-- ---- a slave takes an answer

-- what became of the file that it gave: whatever it is, the slave says nothing
abbrev pub on_given_file_done : Result Answer BadText → Lists → Reply
on_given_file_done (Ok answer.DoneYes) l = replies l awaits.Order []
on_given_file_done (Ok answer.DoneYesMaster) l = replies l awaits.Order []
on_given_file_done (Ok answer.DoneNever) l = replies l awaits.Order []
on_given_file_done (Ok answer.DoneLater) l = replies l awaits.Order []
on_given_file_done _ l = out_of_turn l

abbrev pub on_last_hang_up : Result Answer BadText → Lists → Reply
on_last_hang_up (Ok answer.HangYes) l = replies l awaits.NothingMore []
on_last_hang_up _ l = out_of_turn l

-- ---- a master takes an answer

-- SY, by the job in front: its file goes out, from that position on
abbrev pub sends_file : Option File → Lists → Reply
sends_file None l = out_of_turn l
sends_file (Some file) l = replies l awaits.SentFileDone (the_file file.bytes ∷ [])

abbrev pub on_send_yes : Holdings → (position : ℕ) → List Job → Lists → Reply
on_send_yes h position (job.Send source target user temp ∷ jobs) l = sends_file (rest_from position (to_give h (fetched_by source temp))) l
on_send_yes h position _ l = out_of_turn l

-- a refusal for now: where it is SN8, by which the other end has the file already, a lenient end takes its Send job as done
abbrev pub move_refused : (held : Bool) → List Job → Move
move_refused true (job.Send source target user temp ∷ jobs) = strike
move_refused _ jobs = pass

abbrev pub on_send_answer : Holdings → (held : Bool) → (position : ℕ) → Result Answer BadText → Lists → Reply
on_send_answer h held position (Ok answer.SendYes) l = on_send_yes h position l.ahead l
on_send_answer h held position (Ok answer.SendNever) l = goes_on h (moved_once fail l) []
on_send_answer h held position (Ok answer.SendLater) l = goes_on h (moved_once (move_refused held l.ahead) l) []
on_send_answer h held position _ l = out_of_turn l

-- What became of the file that it sent. With CYM the other end wants to be master: no further job is chosen.
abbrev pub on_sent_file_done : Holdings → Result Answer BadText → Lists → Reply
on_sent_file_done h (Ok answer.DoneYes) l = goes_on h (moved_once strike l) []
on_sent_file_done h (Ok answer.DoneYesMaster) l = commands h (moved_once strike l) [] order.HangUp
on_sent_file_done h (Ok answer.DoneNever) l = goes_on h (moved_once fail l) []
on_sent_file_done h (Ok answer.DoneLater) l = goes_on h (moved_once pass l) []
on_sent_file_done h _ l = out_of_turn l

-- it is that of the job in front
abbrev pub on_sent_job_done : Holdings → List Job → Result Answer BadText → Lists → Reply
on_sent_job_done h (job.Send source target user temp ∷ jobs) read l = on_sent_file_done h read l
on_sent_job_done h _ read l = out_of_turn l

-- by what it tells of the file
abbrev pub on_request_answer : Holdings → (told : Option FileDigest) → Result Answer BadText → Lists → Reply
on_request_answer h told (Ok (answer.GiveYes mode)) l = replies l (awaits.AskedFile mode told h.limit) []
on_request_answer h told (Ok answer.GiveNever) l = goes_on h (moved_once fail l) []
on_request_answer h told (Ok answer.GiveLater) l = goes_on h (moved_once pass l) []
on_request_answer h told _ l = out_of_turn l

-- where the roles are exchanged, the end is the slave then
abbrev pub on_hang_up_answer : Result Answer BadText → Lists → Reply
on_hang_up_answer (Ok answer.HangYes) l = replies l awaits.NothingMore (the_answer answer.HangYes ∷ [])
on_hang_up_answer (Ok answer.HangNo) l = replies l awaits.Order []
on_hang_up_answer _ l = out_of_turn l

-- ---- the conversation is over: a further HY changes nothing

abbrev pub on_nothing_more : Result Answer BadText → Lists → Reply
on_nothing_more (Ok answer.HangYes) l = replies l awaits.NothingMore []
on_nothing_more _ l = out_of_turn l

-- ---- a whole text

abbrev pub on_text : Holdings → Awaits → List ℕ → Lists → Reply
on_text h awaits.Order text l = on_order h (refused_letter_of text) (heard h.digests (told_by_order text)) (order_of text) l
on_text h awaits.GivenFileDone text l = on_given_file_done (answer_of text) l
on_text h awaits.LastHangUp text l = on_last_hang_up (answer_of text) l
on_text h awaits.SendAnswer text l = on_send_answer h (is_held text && h.lenient) (position_heard h.digests text) (answer_of text) l
on_text h awaits.SentFileDone text l = on_sent_job_done h l.ahead (answer_of text) l
on_text h awaits.RequestAnswer text l = on_request_answer h (heard h.digests (told_by_answer text)) (or_wished (answer_of text) h.lenient text) l
on_text h awaits.HangUpAnswer text l = on_hang_up_answer (answer_of text) l
on_text h awaits.NothingMore text l = on_nothing_more (answer_of text) l
on_text h _ text l = out_of_turn l

-- ---- a whole file, by whether it is kept

abbrev pub keeps : Kept → Reply → Reply
keeps file reply = record reply { keeps = file ∷ [] }

-- whether a file is kept, by what was told of it
abbrev pub file_verdict : Holdings → (target : List ℕ) → (told : Option FileDigest) → (bytes : List ℕ) → Verdict
file_verdict h target told bytes = outcome (fits told bytes) (h.immovable target)

-- the file that was sent to a slave, whole
abbrev pub on_sent_file : Verdict → Kept → Lists → Reply
on_sent_file Yes file l = keeps file (replies l awaits.Order (the_answer answer.DoneYes ∷ []))
on_sent_file Never file l = replies l awaits.Order (the_answer answer.DoneNever ∷ [])
on_sent_file Later file l = replies l awaits.Order (the_answer answer.DoneLater ∷ [])

-- the file that a master asked for
abbrev pub on_asked_file : Holdings → Verdict → Kept → Lists → Reply
on_asked_file h Yes file l = keeps file (goes_on h (moved_once strike l) (the_answer answer.DoneYes ∷ []))
on_asked_file h Never file l = goes_on h (moved_once fail l) (the_answer answer.DoneNever ∷ [])
on_asked_file h Later file l = goes_on h (moved_once pass l) (the_answer answer.DoneLater ∷ [])

-- it is that of the job in front, and is kept where that lands
abbrev pub on_file_of : Holdings → List Job → (mode : ℕ) → (told : Option FileDigest) → (bytes : List ℕ) → Lists → Reply
on_file_of h (job.Request source target user ∷ jobs) mode told bytes l =
    on_asked_file h (file_verdict h (h.landing source target) told bytes)
    (record { name = h.landing source target; mode = mode; bytes = bytes }) l
on_file_of h _ mode told bytes l = out_of_turn l

-- of a file that was sent, the rest behind what was held of it
abbrev pub on_file : Holdings → Awaits → List ℕ → Lists → Reply
on_file h (awaits.SentFile source target mode told limit) bytes l =
    on_sent_file (file_verdict h target told (front_of h source told ++ bytes))
    (record { name = target; mode = mode; bytes = front_of h source told ++ bytes }) l
on_file h (awaits.AskedFile mode told limit) bytes l = on_file_of h l.ahead mode told bytes l
on_file h (awaits.DroppedSentFile limit) bytes l = replies l awaits.Order (the_answer answer.DoneNever ∷ [])
on_file h (awaits.DroppedAskedFile limit) bytes l = goes_on h (moved_once fail l) (the_answer answer.DoneNever ∷ [])
on_file h _ bytes l = out_of_turn l

-- ---- one message

-- whether a text is awaited, or a file of at most so many bytes
abbrev pub kind_awaited : Awaits → Kind
kind_awaited (awaits.SentFile source target mode told limit) = OfFile limit
kind_awaited (awaits.AskedFile mode told limit) = OfFile limit
kind_awaited (awaits.DroppedSentFile limit) = OfFile limit
kind_awaited (awaits.DroppedAskedFile limit) = OfFile limit
kind_awaited _ = OfCommand

abbrev pub on_whole : Kind → Holdings → Awaits → List ℕ → Lists → Reply
on_whole OfCommand h awaited text l = on_text h awaited text l
on_whole (OfFile limit) h awaited bytes l = on_file h awaited bytes l

-- by whether the text or file is whole
abbrev pub on_gathered : (whole : Bool) → Kind → Holdings → State → List ℕ → Reply
on_gathered false kind h s bytes =
    record { state = record { lists = s.lists; awaits = s.awaits; gathered = bytes }; says = []; keeps = [] }
on_gathered true kind h s bytes = on_whole kind h s.awaits bytes s.lists

-- the rest of a file that is past its limit, of which nothing is kept
abbrev pub dropped : Awaits → Awaits
dropped (awaits.SentFile source target mode told limit) = awaits.DroppedSentFile limit
dropped (awaits.AskedFile mode told limit) = awaits.DroppedAskedFile limit
dropped awaited = awaited

abbrev pub is_dropped : Awaits → Bool
is_dropped (awaits.DroppedSentFile limit) = true
is_dropped (awaits.DroppedAskedFile limit) = true
is_dropped _ = false

-- past its limit: a lenient end lets a file come to its end, and refuses it then
abbrev pub on_past_limit : (lenient : Bool) → Kind → Awaits → Lists → Reply
on_past_limit true (OfFile limit) awaited l = replies l (dropped awaited) []
on_past_limit _ kind awaited l = out_of_turn l

-- by whether a text or file is past its limit with this message
abbrev pub on_part : (too_long : Bool) → Gathering → Holdings → State → Reply
on_part true g h s = on_past_limit h.lenient g.kind s.awaits s.lists
on_part false g h s = on_gathered g.whole g.kind h s g.bytes

-- what has come of the text or file, with one message more
abbrev pub gathered_with : State → (message : List ℕ) → Gathering
gathered_with s message =
    with_message (record { kind = kind_awaited s.awaits; bytes = s.gathered; whole = false }) message

abbrev pub on_gathering : Gathering → Holdings → State → Reply
on_gathering g h s = on_part (nat_lt (limit_of g.kind) (length g.bytes)) g h s

abbrev pub step : Holdings → State → (message : List ℕ) → Reply
step h s message = on_gathering (gathered_with s message) h s

-- ---- a message, by whether all that the end said before was sent

-- what became of a file, before the file was sent whole
abbrev pub comes_early : Awaits → (none_waits : Bool) → Bool
comes_early awaits.SentFileDone false = true
comes_early awaits.GivenFileDone false = true
comes_early _ none_waits = false

abbrev pub unless_early : (early : Bool) → Holdings → State → (message : List ℕ) → Reply
unless_early true h s message = out_of_turn s.lists
unless_early false h s message = step h s message

abbrev pub reply_to : Holdings → (none_waits : Bool) → State → (message : List ℕ) → Reply
reply_to h none_waits s message = unless_early (comes_early s.awaits none_waits) h s message

-- ---- from the start

-- when the link comes up the caller is master, and chooses its first job
abbrev pub opening : Side → Holdings → Lists → Reply
opening Caller h l = goes_on h l []
opening Called h l = replies l awaits.Order []
