-- Jobs that were struck and failed before a session change nothing of what an end does in it.
use Rattle.std.proofs.Common.{◌≡◌, ◌&&◌, ℕ, Bool, true, false, List, [], ◌∷◌, ◌++◌, length, nat_lt, Option, Some, None, Result, Ok, Err, refl, ap, ap₂, ◌∙◌, append_assoc, append-nil}
use Rattle.uug_talk.specs.Digests.{told_by_answer, told_by_order}
use Rattle.uug_talk.specs.declared.file_digest.FileDigest.{FileDigest}
use Rattle.uug_talk.specs.declared.answer.Answer.{Answer}
use Rattle.uug_talk.specs.declared.answer.Answer.TheVariants as answer
use Rattle.uug_talk.specs.declared.error.BadText.{BadText}
use Rattle.uug_talk.specs.declared.order.Order.{Order}
use Rattle.uug_talk.specs.declared.order.Order.TheVariants as order
use Rattle.uug_talk.specs.Answer.{answer_of}
use Rattle.uug_talk.specs.Gathering.{Kind, OfCommand, OfFile, Gathering, limit_of}
use Rattle.uug_talk.specs.Lenient.{is_held, or_wished, refused_letter_of}
use Rattle.uug_talk.specs.Order.{order_of}
use Rattle.uug_conversation.specs.declared.awaits.Awaits.{Awaits}
use Rattle.uug_conversation.specs.declared.awaits.Awaits.TheVariants as awaits
use Rattle.uug_conversation.specs.declared.job.Job.{Job}
use Rattle.uug_conversation.specs.declared.job.Job.TheVariants as job
use Rattle.uug_conversation.specs.declared.verdict.Verdict.{Verdict}
use Rattle.uug_conversation.specs.declared.verdict.Verdict.TheVariants.{Yes, Never, Later}
use Rattle.uug_conversation.specs.Choice.{choice, fetched_by}
use Rattle.uug_conversation.specs.EarlierJobs.{behind, state_behind, reply_behind}
use Rattle.uug_conversation.specs.Holdings.{File, Kept, Holdings, to_give}
use Rattle.uug_conversation.specs.Jobs.{Lists, at_start, Move, pass, strike, fail, move_first, moved, moved_once}
use Rattle.uug_conversation.specs.Machine.{State, commands, order_or_hang_up, goes_on, on_send, send_verdict, on_request, on_hang_up, on_unread, on_order, on_given_file_done, on_last_hang_up, sends_file, on_send_yes, move_refused, on_send_answer, on_sent_file_done, on_sent_job_done, on_request_answer, on_hang_up_answer, on_nothing_more, on_text, keeps, file_verdict, on_sent_file, on_asked_file, on_file_of, on_file, on_whole, on_gathered, on_past_limit, on_part, gathered_with, step, comes_early, unless_early, reply_to, opening}
use Rattle.uug_conversation.specs.Told.{heard}
use Rattle.uug_conversation.specs.Turns.{Said, the_answer}
use Rattle.uug_conversation.specs.declared.side.Side.{Side}
use Rattle.uug_conversation.specs.declared.side.Side.TheVariants.{Caller, Called}
use Rattle.uug_conversation.specs.Resuming.{front_of, position_heard, rest_from}

pub start_behind : (jobs x y : List Job) → behind x y (at_start jobs [] []) ≡ at_start jobs x y
start_behind jobs x y = ap₂ (at_start jobs) (append-nil x) (append-nil y)

-- ---- moves

first_behind : (x y : List Job) (move : Move) (jobs : List Job) (l : Lists) →
    move_first move jobs (behind x y l) ≡ behind x y (move_first move jobs l)
first_behind x y move [] l = refl
first_behind x y pass (job ∷ jobs) l = refl
first_behind x y strike (job ∷ jobs) l =
    ap (λ s. record l { struck = s; failed = y ++ l.failed; ahead = jobs }) (append_assoc x l.struck (job ∷ []))
first_behind x y fail (job ∷ jobs) l =
    ap (λ s. record l { struck = x ++ l.struck; failed = s; ahead = jobs }) (append_assoc y l.failed (job ∷ []))

once_behind : (x y : List Job) (move : Move) (l : Lists) → moved_once move (behind x y l) ≡ behind x y (moved_once move l)
once_behind x y move l = first_behind x y move l.ahead l

moved_behind : (x y : List Job) (moves : List Move) (l : Lists) → moved moves (behind x y l) ≡ behind x y (moved moves l)
moved_behind x y [] l = refl
moved_behind x y (move ∷ moves) l =
    ap (moved moves) (once_behind x y move l) ∙ moved_behind x y moves (moved_once move l)

-- ---- the next command

goes_on_behind : (x y : List Job) (h : Holdings) (l : Lists) (before : List Said) →
    goes_on h (behind x y l) before ≡ reply_behind x y (goes_on h l before)
goes_on_behind x y h l before =
    ap (λ z. commands h z before (order_or_hang_up (choice h l.ahead).next)) (moved_behind x y (choice h l.ahead).failing l)

-- after a move
goes_on_after : (x y : List Job) (h : Holdings) (move : Move) (l : Lists) (before : List Said) →
    goes_on h (moved_once move (behind x y l)) before ≡ reply_behind x y (goes_on h (moved_once move l) before)
goes_on_after x y h move l before =
    ap (λ z. goes_on h z before) (once_behind x y move l) ∙ goes_on_behind x y h (moved_once move l) before

-- ---- a slave

send_behind : (x y : List Job) (limit : ℕ) (verdict : Verdict) (front source target : List ℕ) (mode : ℕ) (told : Option FileDigest) (l : Lists) →
    on_send limit verdict front source target mode told (behind x y l) ≡ reply_behind x y (on_send limit verdict front source target mode told l)
send_behind x y limit Yes front source target mode told l = refl
send_behind x y limit Never front source target mode told l = refl
send_behind x y limit Later front source target mode told l = refl

request_behind : (x y : List Job) (digests : Bool) (offered : Option File) (delayed : Bool) (l : Lists) →
    on_request digests offered delayed (behind x y l) ≡ reply_behind x y (on_request digests offered delayed l)
request_behind x y digests None false l = refl
request_behind x y digests None true l = refl
request_behind x y digests (Some file) delayed l = refl

hang_up_behind : (x y : List Job) (h : Holdings) (next : Option Order) (l : Lists) →
    on_hang_up h next (behind x y l) ≡ reply_behind x y (on_hang_up h next l)
hang_up_behind x y h None l = refl
hang_up_behind x y h (Some next) l = refl

unread_behind : (x y : List Job) (lenient : Bool) (letter : Option ℕ) (l : Lists) →
    on_unread lenient letter (behind x y l) ≡ reply_behind x y (on_unread lenient letter l)
unread_behind x y true (Some letter) l = refl
unread_behind x y _ _ l = refl

order_behind : (x y : List Job) (h : Holdings) (letter : Option ℕ) (told : Option FileDigest) (read : Result Order BadText)
    (l : Lists) → on_order h letter told read (behind x y l) ≡ reply_behind x y (on_order h letter told read l)
order_behind x y h letter told (Ok (order.Send source target user temp mode)) l = send_behind x y h.limit (send_verdict h (h.landing source target) told)
    (front_of h (fetched_by source temp) told) (fetched_by source temp) (h.landing source target) mode told l
order_behind x y h letter told (Ok (order.Request source target user)) l = request_behind x y h.digests (to_give h source) (h.delayed source) l
order_behind x y h letter told (Ok order.HangUp) l =
    ap (on_hang_up h (choice h l.ahead).next) (moved_behind x y (choice h l.ahead).failing l)
    ∙ hang_up_behind x y h (choice h l.ahead).next (moved (choice h l.ahead).failing l)
order_behind x y h letter told (Err fault) l = unread_behind x y h.lenient letter l

given_file_behind : (x y : List Job) (read : Result Answer BadText) (l : Lists) →
    on_given_file_done read (behind x y l) ≡ reply_behind x y (on_given_file_done read l)
given_file_behind x y (Ok answer.DoneYes) l = refl
given_file_behind x y (Ok answer.DoneYesMaster) l = refl
given_file_behind x y (Ok answer.DoneNever) l = refl
given_file_behind x y (Ok answer.DoneLater) l = refl
given_file_behind x y _ l = refl

last_hang_up_behind : (x y : List Job) (read : Result Answer BadText) (l : Lists) →
    on_last_hang_up read (behind x y l) ≡ reply_behind x y (on_last_hang_up read l)
last_hang_up_behind x y (Ok answer.HangYes) l = refl
last_hang_up_behind x y _ l = refl

-- ---- a master

sends_file_behind : (x y : List Job) (offered : Option File) (l : Lists) →
    sends_file offered (behind x y l) ≡ reply_behind x y (sends_file offered l)
sends_file_behind x y None l = refl
sends_file_behind x y (Some file) l = refl

send_yes_behind : (x y : List Job) (h : Holdings) (position : ℕ) (jobs : List Job) (l : Lists) →
    on_send_yes h position jobs (behind x y l) ≡ reply_behind x y (on_send_yes h position jobs l)
send_yes_behind x y h position (job.Send source target user temp ∷ jobs) l =
    sends_file_behind x y (rest_from position (to_give h (fetched_by source temp))) l
send_yes_behind x y h position _ l = refl

send_answer_behind : (x y : List Job) (h : Holdings) (held : Bool) (position : ℕ) (read : Result Answer BadText) (l : Lists) →
    on_send_answer h held position read (behind x y l) ≡ reply_behind x y (on_send_answer h held position read l)
send_answer_behind x y h held position (Ok answer.SendYes) l = send_yes_behind x y h position l.ahead l
send_answer_behind x y h held position (Ok answer.SendNever) l = goes_on_after x y h fail l []
send_answer_behind x y h held position (Ok answer.SendLater) l = goes_on_after x y h (move_refused held l.ahead) l []
send_answer_behind x y h held position _ l = refl

sent_file_done_behind : (x y : List Job) (h : Holdings) (read : Result Answer BadText) (l : Lists) →
    on_sent_file_done h read (behind x y l) ≡ reply_behind x y (on_sent_file_done h read l)
sent_file_done_behind x y h (Ok answer.DoneYes) l = goes_on_after x y h strike l []
sent_file_done_behind x y h (Ok answer.DoneYesMaster) l =
    ap (λ z. commands h z [] order.HangUp) (once_behind x y strike l)
sent_file_done_behind x y h (Ok answer.DoneNever) l = goes_on_after x y h fail l []
sent_file_done_behind x y h (Ok answer.DoneLater) l = goes_on_after x y h pass l []
sent_file_done_behind x y h _ l = refl

sent_job_done_behind : (x y : List Job) (h : Holdings) (jobs : List Job) (read : Result Answer BadText) (l : Lists) →
    on_sent_job_done h jobs read (behind x y l) ≡ reply_behind x y (on_sent_job_done h jobs read l)
sent_job_done_behind x y h (job.Send source target user temp ∷ jobs) read l = sent_file_done_behind x y h read l
sent_job_done_behind x y h _ read l = refl

request_answer_behind : (x y : List Job) (h : Holdings) (told : Option FileDigest) (read : Result Answer BadText) (l : Lists) →
    on_request_answer h told read (behind x y l) ≡ reply_behind x y (on_request_answer h told read l)
request_answer_behind x y h told (Ok (answer.GiveYes mode)) l = refl
request_answer_behind x y h told (Ok answer.GiveNever) l = goes_on_after x y h fail l []
request_answer_behind x y h told (Ok answer.GiveLater) l = goes_on_after x y h pass l []
request_answer_behind x y h told _ l = refl

hang_up_answer_behind : (x y : List Job) (read : Result Answer BadText) (l : Lists) →
    on_hang_up_answer read (behind x y l) ≡ reply_behind x y (on_hang_up_answer read l)
hang_up_answer_behind x y (Ok answer.HangYes) l = refl
hang_up_answer_behind x y (Ok answer.HangNo) l = refl
hang_up_answer_behind x y _ l = refl

nothing_more_behind : (x y : List Job) (read : Result Answer BadText) (l : Lists) →
    on_nothing_more read (behind x y l) ≡ reply_behind x y (on_nothing_more read l)
nothing_more_behind x y (Ok answer.HangYes) l = refl
nothing_more_behind x y _ l = refl

-- ---- a whole text or file

text_behind : (x y : List Job) (h : Holdings) (awaited : Awaits) (text : List ℕ) (l : Lists) →
    on_text h awaited text (behind x y l) ≡ reply_behind x y (on_text h awaited text l)
text_behind x y h awaits.Order text l = order_behind x y h (refused_letter_of text) (heard h.digests (told_by_order text)) (order_of text) l
text_behind x y h awaits.GivenFileDone text l = given_file_behind x y (answer_of text) l
text_behind x y h awaits.LastHangUp text l = last_hang_up_behind x y (answer_of text) l
text_behind x y h awaits.SendAnswer text l = send_answer_behind x y h (is_held text && h.lenient) (position_heard h.digests text) (answer_of text) l
text_behind x y h awaits.SentFileDone text l = sent_job_done_behind x y h l.ahead (answer_of text) l
text_behind x y h awaits.RequestAnswer text l = request_answer_behind x y h (heard h.digests (told_by_answer text)) (or_wished (answer_of text) h.lenient text) l
text_behind x y h awaits.HangUpAnswer text l = hang_up_answer_behind x y (answer_of text) l
text_behind x y h awaits.NothingMore text l = nothing_more_behind x y (answer_of text) l
text_behind x y h _ text l = refl

sent_file_behind : (x y : List Job) (verdict : Verdict) (file : Kept) (l : Lists) →
    on_sent_file verdict file (behind x y l) ≡ reply_behind x y (on_sent_file verdict file l)
sent_file_behind x y Yes file l = refl
sent_file_behind x y Never file l = refl
sent_file_behind x y Later file l = refl

asked_file_behind : (x y : List Job) (h : Holdings) (verdict : Verdict) (file : Kept) (l : Lists) →
    on_asked_file h verdict file (behind x y l) ≡ reply_behind x y (on_asked_file h verdict file l)
asked_file_behind x y h Yes file l = ap (keeps file) (goes_on_after x y h strike l (the_answer answer.DoneYes ∷ []))
asked_file_behind x y h Never file l = goes_on_after x y h fail l (the_answer answer.DoneNever ∷ [])
asked_file_behind x y h Later file l = goes_on_after x y h pass l (the_answer answer.DoneLater ∷ [])

file_of_behind : (x y : List Job) (h : Holdings) (jobs : List Job) (mode : ℕ) (told : Option FileDigest) (bytes : List ℕ) (l : Lists) →
    on_file_of h jobs mode told bytes (behind x y l) ≡ reply_behind x y (on_file_of h jobs mode told bytes l)
file_of_behind x y h (job.Request source target user ∷ jobs) mode told bytes l =
    asked_file_behind x y h (file_verdict h (h.landing source target) told bytes) (record { name = h.landing source target; mode = mode; bytes = bytes }) l
file_of_behind x y h _ mode told bytes l = refl

file_behind : (x y : List Job) (h : Holdings) (awaited : Awaits) (bytes : List ℕ) (l : Lists) →
    on_file h awaited bytes (behind x y l) ≡ reply_behind x y (on_file h awaited bytes l)
file_behind x y h (awaits.SentFile source target mode told limit) bytes l =
    sent_file_behind x y (file_verdict h target told (front_of h source told ++ bytes))
    (record { name = target; mode = mode; bytes = front_of h source told ++ bytes }) l
file_behind x y h (awaits.AskedFile mode told limit) bytes l = file_of_behind x y h l.ahead mode told bytes l
file_behind x y h (awaits.DroppedAskedFile limit) bytes l = goes_on_after x y h fail l (the_answer answer.DoneNever ∷ [])
file_behind x y h _ bytes l = refl

-- ---- one message

whole_behind : (x y : List Job) (kind : Kind) (h : Holdings) (awaited : Awaits) (bytes : List ℕ) (l : Lists) →
    on_whole kind h awaited bytes (behind x y l) ≡ reply_behind x y (on_whole kind h awaited bytes l)
whole_behind x y OfCommand h awaited bytes l = text_behind x y h awaited bytes l
whole_behind x y (OfFile limit) h awaited bytes l = file_behind x y h awaited bytes l

gathered_behind : (x y : List Job) (whole : Bool) (kind : Kind) (h : Holdings) (s : State) (bytes : List ℕ) →
    on_gathered whole kind h (state_behind x y s) bytes ≡ reply_behind x y (on_gathered whole kind h s bytes)
gathered_behind x y false kind h s bytes = refl
gathered_behind x y true kind h s bytes = whole_behind x y kind h s.awaits bytes s.lists

past_limit_behind : (x y : List Job) (lenient : Bool) (kind : Kind) (awaited : Awaits) (l : Lists) →
    on_past_limit lenient kind awaited (behind x y l) ≡ reply_behind x y (on_past_limit lenient kind awaited l)
past_limit_behind x y true (OfFile limit) awaited l = refl
past_limit_behind x y _ kind awaited l = refl

part_behind : (x y : List Job) (too_long : Bool) (g : Gathering) (h : Holdings) (s : State) →
    on_part too_long g h (state_behind x y s) ≡ reply_behind x y (on_part too_long g h s)
part_behind x y true g h s = past_limit_behind x y h.lenient g.kind s.awaits s.lists
part_behind x y false g h s = gathered_behind x y g.whole g.kind h s g.bytes

pub step_behind : (h : Holdings) (s : State) (message : List ℕ) (x y : List Job) →
    step h (state_behind x y s) message ≡ reply_behind x y (step h s message)
step_behind h s message x y =
    let g = gathered_with s message in
    part_behind x y (nat_lt (limit_of g.kind) (length g.bytes)) g h s

unless_early_behind : (early : Bool) (h : Holdings) (s : State) (message : List ℕ) (x y : List Job) →
    unless_early early h (state_behind x y s) message ≡ reply_behind x y (unless_early early h s message)
unless_early_behind true h s message x y = refl
unless_early_behind false h s message x y = step_behind h s message x y

pub reply_to_behind : (h : Holdings) (none_waits : Bool) (s : State) (message : List ℕ) (x y : List Job) →
    reply_to h none_waits (state_behind x y s) message ≡ reply_behind x y (reply_to h none_waits s message)
reply_to_behind h none_waits s message x y = unless_early_behind (comes_early s.awaits none_waits) h s message x y

pub opening_behind : (side : Side) (h : Holdings) (l : Lists) (x y : List Job) →
    opening side h (behind x y l) ≡ reply_behind x y (opening side h l)
opening_behind Caller h l x y = goes_on_behind x y h l []
opening_behind Called h l x y = refl
