-- An end that is not lenient: what it can't read fits no turn, and it never awaits the rest of a file.
use Rattle.std.proofs.Common.{◌≡◌, ℕ, nat_lt, Bool, true, false, ◌&&◌, List, [], ◌∷◌, ◌++◌, length, Option, Some, None, Result, Ok, Err, refl, ap, ◌∙◌}
use Rattle.uug_talk.specs.Digests.{told_by_answer, told_by_order}
use Rattle.uug_talk.specs.declared.file_digest.FileDigest.{FileDigest}
use Rattle.uug_talk.specs.declared.answer.Answer.{Answer}
use Rattle.uug_talk.specs.declared.answer.Answer.TheVariants as answer
use Rattle.uug_talk.specs.declared.error.BadText.{BadText}
use Rattle.uug_talk.specs.declared.error.BadText.TheVariants as fault
use Rattle.uug_talk.specs.declared.order.Order.{Order}
use Rattle.uug_talk.specs.declared.order.Order.TheVariants as order
use Rattle.uug_talk.specs.Answer.{answer_of}
use Rattle.uug_talk.specs.Gathering.{Kind, OfCommand, OfFile, Gathering, limit_of}
use Rattle.uug_talk.specs.Lenient.{is_held, or_wished, refused_letter_of}
use Rattle.uug_talk.specs.Order.{order_of}
use Rattle.uug_conversation.specs.declared.awaits.Awaits.{Awaits}
use Rattle.uug_conversation.specs.declared.awaits.Awaits.TheVariants as awaits
use Rattle.uug_conversation.specs.declared.job.Job.{Job}
use Rattle.uug_conversation.specs.declared.job.Job.TheVariants as job
use Rattle.uug_conversation.specs.declared.side.Side.{Side}
use Rattle.uug_conversation.specs.declared.side.Side.TheVariants.{Caller, Called}
use Rattle.uug_conversation.specs.declared.verdict.Verdict.{Verdict}
use Rattle.uug_conversation.specs.declared.verdict.Verdict.TheVariants.{Yes, Never, Later}
use Rattle.uug_conversation.specs.Choice.{choice, fetched_by}
use Rattle.uug_conversation.specs.Holdings.{File, Kept, Holdings, to_give}
use Rattle.uug_conversation.specs.Jobs.{Lists, pass, strike, fail, moved, moved_once}
use Rattle.uug_conversation.specs.Machine.{State, Reply, awaits_answer_to, order_or_hang_up, goes_on, on_send, send_verdict, on_request, on_hang_up, on_unread, on_order, on_given_file_done, on_last_hang_up, sends_file, on_send_yes, move_refused, on_send_answer, on_sent_file_done, on_sent_job_done, on_request_answer, on_hang_up_answer, on_nothing_more, on_text, file_verdict, on_sent_file, on_asked_file, on_file_of, on_file, on_whole, on_gathered, is_dropped, on_past_limit, on_part, gathered_with, opening, out_of_turn, step}
use Rattle.uug_conversation.specs.Told.{heard, is_too_large, unless_too_large}
use Rattle.uug_conversation.specs.Turns.{Said, the_answer}
use Rattle.uug_conversation.specs.Resuming.{front_of, position_heard, rest_from}

-- ---- what it can't read, and SN8

strict_unread : (letter : Option ℕ) (l : Lists) → on_unread false letter l ≡ out_of_turn l
strict_unread None l = refl
strict_unread (Some letter) l = refl

pub unread_ends : (h : Holdings) (text : List ℕ) (fault : BadText) (l : Lists) → h.lenient ≡ false → order_of text ≡ Err fault →
    on_text h awaits.Order text l ≡ out_of_turn l
unread_ends h text fault l strict e =
    ap (λ read. on_order h (refused_letter_of text) (heard h.digests (told_by_order text)) read l) e
    ∙ ap (λ (b : Bool). on_unread b (refused_letter_of text) l) strict
    ∙ strict_unread (refused_letter_of text) l

strict_held : (held : Bool) (jobs : List Job) → move_refused (held && false) jobs ≡ pass
strict_held true jobs = refl
strict_held false jobs = refl

pub held_stays : (h : Holdings) (text : List ℕ) (l : Lists) → h.lenient ≡ false → answer_of text ≡ Ok answer.SendLater →
    on_text h awaits.SendAnswer text l ≡ goes_on h (moved_once pass l) []
held_stays h text l strict e =
    ap (λ read. on_send_answer h (is_held text && h.lenient) (position_heard h.digests text) read l) e
    ∙ ap (λ (b : Bool). goes_on h (moved_once (move_refused (is_held text && b) l.ahead) l) []) strict
    ∙ ap (λ move. goes_on h (moved_once move l) []) (strict_held (is_held text) l.ahead)

pub strict_read : (read : Result Answer BadText) (text : List ℕ) → or_wished read false text ≡ read
strict_read (Ok answer) text = refl
strict_read (Err fault.Mode) text = refl
strict_read (Err _) text = refl

pub wish_unread : (h : Holdings) (text : List ℕ) (l : Lists) → h.lenient ≡ false →
    on_text h awaits.RequestAnswer text l ≡ on_request_answer h (heard h.digests (told_by_answer text)) (answer_of text) l
wish_unread h text l strict =
    ap (λ (b : Bool). on_request_answer h (heard h.digests (told_by_answer text)) (or_wished (answer_of text) b text) l) strict
    ∙ ap (λ read. on_request_answer h (heard h.digests (told_by_answer text)) read l) (strict_read (answer_of text) text)

-- ---- it asks its spool alone

strict_verdict : (too_large : Bool) (verdict : Verdict) → unless_too_large (false && too_large) verdict ≡ verdict
strict_verdict too_large Yes = refl
strict_verdict too_large Never = refl
strict_verdict too_large Later = refl

pub spool_decides : (h : Holdings) (target : List ℕ) (told : Option FileDigest) → h.lenient ≡ false → send_verdict h target told ≡ h.verdict target
spool_decides h target told strict =
    ap (λ (b : Bool). unless_too_large (b && is_too_large h.limit told) (h.verdict target)) strict
    ∙ strict_verdict (is_too_large h.limit told) (h.verdict target)

-- ---- it awaits the rest of no file

abbrev DropsNone : Reply → Type 0
DropsNone r = is_dropped r.state.awaits ≡ false

order_drops_none : (o : Order) → is_dropped (awaits_answer_to o) ≡ false
order_drops_none (order.Send source target user temp mode) = refl
order_drops_none (order.Request source target user) = refl
order_drops_none order.HangUp = refl

going_on : (h : Holdings) (l : Lists) (before : List Said) → DropsNone (goes_on h l before)
going_on h l before = order_drops_none (order_or_hang_up (choice h l.ahead).next)

send : (limit : ℕ) (verdict : Verdict) (front source target : List ℕ) (mode : ℕ) (told : Option FileDigest) (l : Lists) → DropsNone (on_send limit verdict front source target mode told l)
send limit Yes front source target mode told l = refl
send limit Never front source target mode told l = refl
send limit Later front source target mode told l = refl

request : (digests : Bool) (found : Option File) (delayed : Bool) (l : Lists) → DropsNone (on_request digests found delayed l)
request digests None false l = refl
request digests None true l = refl
request digests (Some file) delayed l = refl

hang_up : (h : Holdings) (next : Option Order) (l : Lists) → DropsNone (on_hang_up h next l)
hang_up h None l = refl
hang_up h (Some next) l = order_drops_none next

unread : (lenient : Bool) (letter : Option ℕ) (l : Lists) → DropsNone (on_unread lenient letter l)
unread true (Some letter) l = refl
unread _ _ l = refl

an_order : (h : Holdings) (letter : Option ℕ) (told : Option FileDigest) (read : Result Order BadText) (l : Lists)
    → DropsNone (on_order h letter told read l)
an_order h letter told (Ok (order.Send source target user temp mode)) l = send h.limit (send_verdict h (h.landing source target) told)
    (front_of h (fetched_by source temp) told) (fetched_by source temp) (h.landing source target) mode told l
an_order h letter told (Ok (order.Request source target user)) l = request h.digests (to_give h source) (h.delayed source) l
an_order h letter told (Ok order.HangUp) l = hang_up h (choice h l.ahead).next (moved (choice h l.ahead).failing l)
an_order h letter told (Err fault) l = unread h.lenient letter l

given_file_done : (read : Result Answer BadText) (l : Lists) → DropsNone (on_given_file_done read l)
given_file_done (Ok answer.DoneYes) l = refl
given_file_done (Ok answer.DoneYesMaster) l = refl
given_file_done (Ok answer.DoneNever) l = refl
given_file_done (Ok answer.DoneLater) l = refl
given_file_done _ l = refl

last_hang_up : (read : Result Answer BadText) (l : Lists) → DropsNone (on_last_hang_up read l)
last_hang_up (Ok answer.HangYes) l = refl
last_hang_up _ l = refl

file_sent : (found : Option File) (l : Lists) → DropsNone (sends_file found l)
file_sent None l = refl
file_sent (Some file) l = refl

send_yes : (h : Holdings) (position : ℕ) (jobs : List Job) (l : Lists) → DropsNone (on_send_yes h position jobs l)
send_yes h position (job.Send source target user temp ∷ jobs) l = file_sent (rest_from position (to_give h (fetched_by source temp))) l
send_yes h position _ l = refl

send_answer : (h : Holdings) (held : Bool) (position : ℕ) (read : Result Answer BadText) (l : Lists) → DropsNone (on_send_answer h held position read l)
send_answer h held position (Ok answer.SendYes) l = send_yes h position l.ahead l
send_answer h held position (Ok answer.SendNever) l = going_on h (moved_once fail l) []
send_answer h held position (Ok answer.SendLater) l = going_on h (moved_once (move_refused held l.ahead) l) []
send_answer h held position _ l = refl

sent_file_done : (h : Holdings) (read : Result Answer BadText) (l : Lists) → DropsNone (on_sent_file_done h read l)
sent_file_done h (Ok answer.DoneYes) l = going_on h (moved_once strike l) []
sent_file_done h (Ok answer.DoneYesMaster) l = refl
sent_file_done h (Ok answer.DoneNever) l = going_on h (moved_once fail l) []
sent_file_done h (Ok answer.DoneLater) l = going_on h (moved_once pass l) []
sent_file_done h _ l = refl

sent_job_done : (h : Holdings) (jobs : List Job) (read : Result Answer BadText) (l : Lists) → DropsNone (on_sent_job_done h jobs read l)
sent_job_done h (job.Send source target user temp ∷ jobs) read l = sent_file_done h read l
sent_job_done h _ read l = refl

request_answer : (h : Holdings) (told : Option FileDigest) (read : Result Answer BadText) (l : Lists) → DropsNone (on_request_answer h told read l)
request_answer h told (Ok (answer.GiveYes mode)) l = refl
request_answer h told (Ok answer.GiveNever) l = going_on h (moved_once fail l) []
request_answer h told (Ok answer.GiveLater) l = going_on h (moved_once pass l) []
request_answer h told _ l = refl

hang_up_answer : (read : Result Answer BadText) (l : Lists) → DropsNone (on_hang_up_answer read l)
hang_up_answer (Ok answer.HangYes) l = refl
hang_up_answer (Ok answer.HangNo) l = refl
hang_up_answer _ l = refl

nothing_more : (read : Result Answer BadText) (l : Lists) → DropsNone (on_nothing_more read l)
nothing_more (Ok answer.HangYes) l = refl
nothing_more _ l = refl

a_text : (h : Holdings) (awaited : Awaits) (text : List ℕ) (l : Lists) → DropsNone (on_text h awaited text l)
a_text h awaits.Order text l = an_order h (refused_letter_of text) (heard h.digests (told_by_order text)) (order_of text) l
a_text h awaits.GivenFileDone text l = given_file_done (answer_of text) l
a_text h awaits.LastHangUp text l = last_hang_up (answer_of text) l
a_text h awaits.SendAnswer text l = send_answer h (is_held text && h.lenient) (position_heard h.digests text) (answer_of text) l
a_text h awaits.SentFileDone text l = sent_job_done h l.ahead (answer_of text) l
a_text h awaits.RequestAnswer text l = request_answer h (heard h.digests (told_by_answer text)) (or_wished (answer_of text) h.lenient text) l
a_text h awaits.HangUpAnswer text l = hang_up_answer (answer_of text) l
a_text h awaits.NothingMore text l = nothing_more (answer_of text) l
a_text h _ text l = refl

sent_file : (verdict : Verdict) (file : Kept) (l : Lists) → DropsNone (on_sent_file verdict file l)
sent_file Yes file l = refl
sent_file Never file l = refl
sent_file Later file l = refl

asked_file : (h : Holdings) (verdict : Verdict) (file : Kept) (l : Lists) → DropsNone (on_asked_file h verdict file l)
asked_file h Yes file l = going_on h (moved_once strike l) (the_answer answer.DoneYes ∷ [])
asked_file h Never file l = going_on h (moved_once fail l) (the_answer answer.DoneNever ∷ [])
asked_file h Later file l = going_on h (moved_once pass l) (the_answer answer.DoneLater ∷ [])

file_of : (h : Holdings) (jobs : List Job) (mode : ℕ) (told : Option FileDigest) (bytes : List ℕ) (l : Lists) → DropsNone (on_file_of h jobs mode told bytes l)
file_of h (job.Request source target user ∷ jobs) mode told bytes l =
    asked_file h (file_verdict h (h.landing source target) told bytes) (record { name = h.landing source target; mode = mode; bytes = bytes }) l
file_of h _ mode told bytes l = refl

a_file : (h : Holdings) (awaited : Awaits) (bytes : List ℕ) (l : Lists) → DropsNone (on_file h awaited bytes l)
a_file h (awaits.SentFile source target mode told limit) bytes l =
    sent_file (file_verdict h target told (front_of h source told ++ bytes))
    (record { name = target; mode = mode; bytes = front_of h source told ++ bytes }) l
a_file h (awaits.AskedFile mode told limit) bytes l = file_of h l.ahead mode told bytes l
a_file h (awaits.DroppedSentFile limit) bytes l = refl
a_file h (awaits.DroppedAskedFile limit) bytes l = going_on h (moved_once fail l) (the_answer answer.DoneNever ∷ [])
a_file h _ bytes l = refl

a_whole : (kind : Kind) (h : Holdings) (awaited : Awaits) (bytes : List ℕ) (l : Lists) → DropsNone (on_whole kind h awaited bytes l)
a_whole OfCommand h awaited bytes l = a_text h awaited bytes l
a_whole (OfFile limit) h awaited bytes l = a_file h awaited bytes l

-- what still comes is awaited on
gathered_so : (whole : Bool) (kind : Kind) (h : Holdings) (s : State) (bytes : List ℕ) → is_dropped s.awaits ≡ false →
    DropsNone (on_gathered whole kind h s bytes)
gathered_so false kind h s bytes none = none
gathered_so true kind h s bytes none = a_whole kind h s.awaits bytes s.lists

past_strict_limit : (lenient : Bool) (kind : Kind) (awaited : Awaits) (l : Lists) → lenient ≡ false →
    DropsNone (on_past_limit lenient kind awaited l)
past_strict_limit false kind awaited l strict = refl
past_strict_limit true kind awaited l strict = absurd cc

part_so : (too_long : Bool) (g : Gathering) (h : Holdings) (s : State) → h.lenient ≡ false → is_dropped s.awaits ≡ false →
    DropsNone (on_part too_long g h s)
part_so true g h s strict none = past_strict_limit h.lenient g.kind s.awaits s.lists strict
part_so false g h s strict none = gathered_so g.whole g.kind h s g.bytes none

pub step_drops_none : (h : Holdings) (s : State) (message : List ℕ) → h.lenient ≡ false → is_dropped s.awaits ≡ false →
    is_dropped (step h s message).state.awaits ≡ false
step_drops_none h s message strict none =
    let g : Gathering = gathered_with s message in
    part_so (nat_lt (limit_of g.kind) (length g.bytes)) g h s strict none

pub opening_drops_none : (side : Side) (h : Holdings) (l : Lists) → is_dropped (opening side h l).state.awaits ≡ false
opening_drops_none Caller h l = going_on h l []
opening_drops_none Called h l = refl
