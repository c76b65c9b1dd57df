-- An end with every setting off goes by the table of such ends, which is on its own.
use Rattle.std.proofs.Common.{◌≡◌, ◌&&◌, ℕ, nat_lt, Bool, true, false, List, [], ◌∷◌, ◌++◌, length, Option, Some, None, Result, Ok, Err, refl, ap, ◌∙◌}
use Rattle.uug_talk.specs.Digests.{told_by_answer, told_by_order}
use Rattle.uug_talk.specs.declared.file_digest.FileDigest.{FileDigest}
use Rattle.uug_talk.specs.declared.answer.Answer.{Answer}
use Rattle.uug_talk.specs.declared.answer.Answer.TheVariants as answer
use Rattle.uug_talk.specs.declared.error.BadText.{BadText}
use Rattle.uug_talk.specs.declared.order.Order.{Order}
use Rattle.uug_talk.specs.declared.order.Order.TheVariants as order
use Rattle.uug_talk.specs.Answer.{answer_of}
use Rattle.uug_talk.specs.Gathering.{Kind, OfCommand, OfFile, Gathering, limit_of}
use Rattle.uug_talk.specs.Order.{order_of}
use Rattle.uug_talk.specs.Lenient.{is_held, or_wished, refused_letter_of}
use Rattle.uug_conversation.specs.declared.awaits.Awaits.{Awaits}
use Rattle.uug_conversation.specs.declared.awaits.Awaits.TheVariants as awaits
use Rattle.uug_conversation.specs.declared.job.Job.{Job}
use Rattle.uug_conversation.specs.declared.job.Job.TheVariants as job
use Rattle.uug_conversation.specs.declared.side.Side.{Side}
use Rattle.uug_conversation.specs.declared.side.Side.TheVariants.{Caller, Called}
use Rattle.uug_conversation.specs.declared.verdict.Verdict.{Verdict}
use Rattle.uug_conversation.specs.declared.verdict.Verdict.TheVariants.{Yes, Never, Later}
use Rattle.uug_conversation.specs.Choice.{choice, fetched_by}
use Rattle.uug_conversation.specs.Holdings.{File, Kept, Holdings, to_give}
use Rattle.uug_conversation.specs.Jobs.{Lists, pass, strike, fail, moved, moved_once}
use Rattle.uug_conversation.specs.Machine.{State, Reply, awaits_answer_to, comes_early, commands, gathered_with, goes_on, keeps, move_refused, on_asked_file, on_file, on_file_of, on_gathered, on_given_file_done, on_hang_up, on_hang_up_answer, on_last_hang_up, on_nothing_more, on_order, on_part, on_past_limit, on_request, on_request_answer, on_send, on_send_answer, on_send_yes, on_sent_file, on_sent_file_done, on_sent_job_done, on_text, on_unread, on_whole, opening, order_or_hang_up, out_of_turn, replies, reply_to, sends_file, step, unless_early}
use Rattle.uug_conversation.specs.PlainMachine.{AreOff, awaits_plainly, plain_opening, plain_reply_to, plain_step}
use Rattle.uug_conversation.specs.PlainMachine.{commands as plain_commands, goes_on as plain_goes_on, on_asked_file as plain_asked_file, on_file as plain_file, on_file_of as plain_file_of, on_gathered as plain_gathered, on_hang_up as plain_hang_up, on_order as plain_order, on_part as plain_part, on_request as plain_request, on_request_answer as plain_request_answer, on_send_answer as plain_send_answer, on_send_yes as plain_send_yes, on_sent_file as plain_sent_file, on_sent_file_done as plain_sent_file_done, on_sent_job_done as plain_sent_job_done, on_text as plain_text, on_whole as plain_whole, unless_early as plain_unless_early}
use Rattle.uug_conversation.specs.Told.{heard, outcome}
use Rattle.uug_conversation.specs.Turns.{Said, the_answer, the_order}
use Rattle.uug_conversation.proofs.ComparingLemmas.{none_told}
use Rattle.uug_conversation.proofs.StrictLemmas.{spool_decides, strict_read}
use Rattle.uug_conversation.specs.Resuming.{position_heard}
use Rattle.uug_conversation.proofs.ResumingLemmas.{off_hears_none, whole_from_first}

-- ---- by a setting that is off

request_so : (digests : Bool) (found : Option File) (delayed : Bool) (l : Lists) → digests ≡ false → delayed ≡ false →
    on_request digests found delayed l ≡ plain_request found l
request_so false None false l off prompt = refl
request_so false None true l off prompt = absurd cc
request_so false (Some file) delayed l off prompt = refl
request_so true found delayed l off prompt = absurd cc

unread_so : (lenient : Bool) (letter : Option ℕ) (l : Lists) → lenient ≡ false → on_unread lenient letter l ≡ out_of_turn l
unread_so false None l off = refl
unread_so false (Some letter) l off = refl
unread_so true letter l off = absurd cc

none_heard : (digests : Bool) (told : Option FileDigest) → digests ≡ false → heard digests told ≡ None
none_heard false told off = refl
none_heard true told off = absurd cc

held_so : (held lenient : Bool) (jobs : List Job) → lenient ≡ false → move_refused (held && lenient) jobs ≡ pass
held_so true false jobs off = refl
held_so false lenient jobs off = refl
held_so true true jobs off = absurd cc

past_limit_so : (lenient : Bool) (kind : Kind) (awaited : Awaits) (l : Lists) → lenient ≡ false →
    on_past_limit lenient kind awaited l ≡ out_of_turn l
past_limit_so false kind awaited l off = refl
past_limit_so true kind awaited l off = absurd cc

sent_file_so : (immovable : Bool) (file : Kept) (l : Lists) → on_sent_file (outcome true immovable) file l ≡ plain_sent_file immovable file l
sent_file_so false file l = refl
sent_file_so true file l = refl

module _ (h : Holdings) (untold : h.digests ≡ false) where
  -- ---- the next command

  commands_so : (l : Lists) (before : List Said) (next : Order) → commands h l before next ≡ plain_commands l before next
  commands_so l before next =
      ap (λ told. replies l (awaits_answer_to next) (before ++ the_order next told ∷ [])) (none_told h next untold)

  going_on_so : (l : Lists) (before : List Said) → goes_on h l before ≡ plain_goes_on h l before
  going_on_so l before = commands_so (moved (choice h l.ahead).failing l) before (order_or_hang_up (choice h l.ahead).next)

  hang_up_so : (next : Option Order) (l : Lists) → on_hang_up h next l ≡ plain_hang_up next l
  hang_up_so None l = refl
  hang_up_so (Some next) l = commands_so l (the_answer answer.HangNo ∷ []) next

  pub opening_so : (side : Side) (l : Lists) → opening side h l ≡ plain_opening side h l
  opening_so Caller l = going_on_so l []
  opening_so Called l = refl

  -- ---- a text

  order_so : AreOff h → (letter : Option ℕ) (read : Result Order BadText) (l : Lists) → on_order h letter None read l ≡ plain_order h read l
  order_so off letter (Ok (order.Send source target user temp mode)) l =
      ap (λ verdict. on_send h.limit verdict [] (fetched_by source temp) (h.landing source target) mode None l) (spool_decides h (h.landing source target) None off.strict)
  order_so off letter (Ok (order.Request source target user)) l =
      request_so h.digests (to_give h source) (h.delayed source) l untold (off.prompt source)
  order_so off letter (Ok order.HangUp) l = hang_up_so (choice h l.ahead).next (moved (choice h l.ahead).failing l)
  order_so off letter (Err fault) l = unread_so h.lenient letter l off.strict

  send_yes_so : (jobs : List Job) (l : Lists) → on_send_yes h 0 jobs l ≡ plain_send_yes h jobs l
  send_yes_so (job.Send source target user temp ∷ jobs) l = ap (λ found. sends_file found l) (whole_from_first (to_give h (fetched_by source temp)))
  send_yes_so _ l = refl

  send_answer_so : AreOff h → (held : Bool) (text : List ℕ) (read : Result Answer BadText) (l : Lists) →
      on_send_answer h (held && h.lenient) (position_heard h.digests text) read l ≡ plain_send_answer h read l
  send_answer_so off held text (Ok answer.SendYes) l =
      ap (λ position. on_send_yes h position l.ahead l) (off_hears_none h.digests text untold) ∙ send_yes_so l.ahead l
  send_answer_so off held text (Ok answer.SendNever) l = going_on_so (moved_once fail l) []
  send_answer_so off held text (Ok answer.SendLater) l =
      ap (λ move. goes_on h (moved_once move l) []) (held_so held h.lenient l.ahead off.strict) ∙ going_on_so (moved_once pass l) []
  send_answer_so off held text _ l = refl

  sent_file_done_so : (read : Result Answer BadText) (l : Lists) → on_sent_file_done h read l ≡ plain_sent_file_done h read l
  sent_file_done_so (Ok answer.DoneYes) l = going_on_so (moved_once strike l) []
  sent_file_done_so (Ok answer.DoneYesMaster) l = commands_so (moved_once strike l) [] order.HangUp
  sent_file_done_so (Ok answer.DoneNever) l = going_on_so (moved_once fail l) []
  sent_file_done_so (Ok answer.DoneLater) l = going_on_so (moved_once pass l) []
  sent_file_done_so _ l = refl

  sent_job_done_so : (jobs : List Job) (read : Result Answer BadText) (l : Lists) →
      on_sent_job_done h jobs read l ≡ plain_sent_job_done h jobs read l
  sent_job_done_so (job.Send source target user temp ∷ jobs) read l = sent_file_done_so read l
  sent_job_done_so _ read l = refl

  request_answer_so : (read : Result Answer BadText) (l : Lists) → on_request_answer h None read l ≡ plain_request_answer h read l
  request_answer_so (Ok (answer.GiveYes mode)) l = refl
  request_answer_so (Ok answer.GiveNever) l = going_on_so (moved_once fail l) []
  request_answer_so (Ok answer.GiveLater) l = going_on_so (moved_once pass l) []
  request_answer_so _ l = refl

  text_so : AreOff h → (awaited : Awaits) (text : List ℕ) (l : Lists) → on_text h awaited text l ≡ plain_text h awaited text l
  text_so off awaits.Order text l =
      ap (λ told. on_order h (refused_letter_of text) told (order_of text) l) (none_heard h.digests (told_by_order text) untold)
      ∙ order_so off (refused_letter_of text) (order_of text) l
  text_so off awaits.SendAnswer text l = send_answer_so off (is_held text) text (answer_of text) l
  text_so off awaits.SentFileDone text l = sent_job_done_so l.ahead (answer_of text) l
  text_so off awaits.RequestAnswer text l =
      ap (λ told. on_request_answer h told (or_wished (answer_of text) h.lenient text) l) (none_heard h.digests (told_by_answer text) untold)
      ∙ ap (λ (b : Bool). on_request_answer h None (or_wished (answer_of text) b text) l) off.strict
      ∙ ap (λ read. on_request_answer h None read l) (strict_read (answer_of text) text)
      ∙ request_answer_so (answer_of text) l
  text_so off _ text l = refl

  -- ---- a file

  asked_file_so : (immovable : Bool) (file : Kept) (l : Lists) → on_asked_file h (outcome true immovable) file l ≡ plain_asked_file h immovable file l
  asked_file_so false file l = ap (keeps file) (going_on_so (moved_once strike l) (the_answer answer.DoneYes ∷ []))
  asked_file_so true file l = going_on_so (moved_once fail l) (the_answer answer.DoneNever ∷ [])

  file_of_so : (jobs : List Job) (mode : ℕ) (bytes : List ℕ) (l : Lists) → on_file_of h jobs mode None bytes l ≡ plain_file_of h jobs mode bytes l
  file_of_so (job.Request source target user ∷ jobs) mode bytes l =
      asked_file_so (h.immovable (h.landing source target)) (record { name = h.landing source target; mode = mode; bytes = bytes }) l
  file_of_so _ mode bytes l = refl

  file_so : (awaited : Awaits) (bytes : List ℕ) (l : Lists) → awaits_plainly awaited ≡ true → on_file h awaited bytes l ≡ plain_file h awaited bytes l
  file_so (awaits.SentFile source target mode None limit) bytes l plain =
      sent_file_so (h.immovable target) (record { name = target; mode = mode; bytes = bytes }) l
  file_so (awaits.SentFile source target mode (Some told) limit) bytes l plain = absurd cc
  file_so (awaits.AskedFile mode None limit) bytes l plain = file_of_so l.ahead mode bytes l
  file_so (awaits.AskedFile mode (Some told) limit) bytes l plain = absurd cc
  file_so (awaits.DroppedSentFile limit) bytes l plain = absurd cc
  file_so (awaits.DroppedAskedFile limit) bytes l plain = absurd cc
  file_so _ bytes l plain = refl

  -- ---- a message

  whole_so : AreOff h → (kind : Kind) (awaited : Awaits) (bytes : List ℕ) (l : Lists) → awaits_plainly awaited ≡ true →
      on_whole kind h awaited bytes l ≡ plain_whole kind h awaited bytes l
  whole_so off OfCommand awaited bytes l plain = text_so off awaited bytes l
  whole_so off (OfFile limit) awaited bytes l plain = file_so awaited bytes l plain

  gathered_so : AreOff h → (whole : Bool) (kind : Kind) (s : State) (bytes : List ℕ) → awaits_plainly s.awaits ≡ true →
      on_gathered whole kind h s bytes ≡ plain_gathered whole kind h s bytes
  gathered_so off false kind s bytes plain = refl
  gathered_so off true kind s bytes plain = whole_so off kind s.awaits bytes s.lists plain

  part_so : AreOff h → (too_long : Bool) (g : Gathering) (s : State) → awaits_plainly s.awaits ≡ true → on_part too_long g h s ≡ plain_part too_long g h s
  part_so off true g s plain = past_limit_so h.lenient g.kind s.awaits s.lists off.strict
  part_so off false g s plain = gathered_so off g.whole g.kind s g.bytes plain

  pub step_so : AreOff h → (s : State) (message : List ℕ) → awaits_plainly s.awaits ≡ true → step h s message ≡ plain_step h s message
  step_so off s message plain =
      let g : Gathering = gathered_with s message in
      part_so off (nat_lt (limit_of g.kind) (length g.bytes)) g s plain

  unless_early_so : AreOff h → (early : Bool) (s : State) (message : List ℕ) → awaits_plainly s.awaits ≡ true →
      unless_early early h s message ≡ plain_unless_early early h s message
  unless_early_so off true s message plain = refl
  unless_early_so off false s message plain = step_so off s message plain

  pub reply_so : AreOff h → (none_waits : Bool) (s : State) (message : List ℕ) → awaits_plainly s.awaits ≡ true →
      reply_to h none_waits s message ≡ plain_reply_to h none_waits s message
  reply_so off none_waits s message plain = unless_early_so off (comes_early s.awaits none_waits) s message plain

-- ---- it stays so

abbrev StaysPlain : Reply → Type 0
StaysPlain r = awaits_plainly r.state.awaits ≡ true

answer_plainly : (next : Order) → awaits_plainly (awaits_answer_to next) ≡ true
answer_plainly (order.Send source target user temp mode) = refl
answer_plainly (order.Request source target user) = refl
answer_plainly order.HangUp = refl

going_on : (h : Holdings) (l : Lists) (before : List Said) → StaysPlain (plain_goes_on h l before)
going_on h l before = answer_plainly (order_or_hang_up (choice h l.ahead).next)

send : (limit : ℕ) (verdict : Verdict) (front source target : List ℕ) (mode : ℕ) (l : Lists) → StaysPlain (on_send limit verdict front source target mode None l)
send limit Yes front source target mode l = refl
send limit Never front source target mode l = refl
send limit Later front source target mode l = refl

request : (found : Option File) (l : Lists) → StaysPlain (plain_request found l)
request None l = refl
request (Some file) l = refl

hang_up : (next : Option Order) (l : Lists) → StaysPlain (plain_hang_up next l)
hang_up None l = refl
hang_up (Some next) l = answer_plainly next

an_order : (h : Holdings) (read : Result Order BadText) (l : Lists) → StaysPlain (plain_order h read l)
an_order h (Ok (order.Send source target user temp mode)) l = send h.limit (h.verdict (h.landing source target)) [] (fetched_by source temp) (h.landing source target) mode l
an_order h (Ok (order.Request source target user)) l = request (to_give h source) l
an_order h (Ok order.HangUp) l = hang_up (choice h l.ahead).next (moved (choice h l.ahead).failing l)
an_order h (Err fault) l = refl

given_file_done : (read : Result Answer BadText) (l : Lists) → StaysPlain (on_given_file_done read l)
given_file_done (Ok answer.DoneYes) l = refl
given_file_done (Ok answer.DoneYesMaster) l = refl
given_file_done (Ok answer.DoneNever) l = refl
given_file_done (Ok answer.DoneLater) l = refl
given_file_done _ l = refl

last_hang_up : (read : Result Answer BadText) (l : Lists) → StaysPlain (on_last_hang_up read l)
last_hang_up (Ok answer.HangYes) l = refl
last_hang_up _ l = refl

file_sent : (found : Option File) (l : Lists) → StaysPlain (sends_file found l)
file_sent None l = refl
file_sent (Some file) l = refl

send_yes : (h : Holdings) (jobs : List Job) (l : Lists) → StaysPlain (plain_send_yes h jobs l)
send_yes h (job.Send source target user temp ∷ jobs) l = file_sent (to_give h (fetched_by source temp)) l
send_yes h _ l = refl

send_answer : (h : Holdings) (read : Result Answer BadText) (l : Lists) → StaysPlain (plain_send_answer h read l)
send_answer h (Ok answer.SendYes) l = send_yes h l.ahead l
send_answer h (Ok answer.SendNever) l = going_on h (moved_once fail l) []
send_answer h (Ok answer.SendLater) l = going_on h (moved_once pass l) []
send_answer h _ l = refl

sent_file_done : (h : Holdings) (read : Result Answer BadText) (l : Lists) → StaysPlain (plain_sent_file_done h read l)
sent_file_done h (Ok answer.DoneYes) l = going_on h (moved_once strike l) []
sent_file_done h (Ok answer.DoneYesMaster) l = refl
sent_file_done h (Ok answer.DoneNever) l = going_on h (moved_once fail l) []
sent_file_done h (Ok answer.DoneLater) l = going_on h (moved_once pass l) []
sent_file_done h _ l = refl

sent_job_done : (h : Holdings) (jobs : List Job) (read : Result Answer BadText) (l : Lists) → StaysPlain (plain_sent_job_done h jobs read l)
sent_job_done h (job.Send source target user temp ∷ jobs) read l = sent_file_done h read l
sent_job_done h _ read l = refl

request_answer : (h : Holdings) (read : Result Answer BadText) (l : Lists) → StaysPlain (plain_request_answer h read l)
request_answer h (Ok (answer.GiveYes mode)) l = refl
request_answer h (Ok answer.GiveNever) l = going_on h (moved_once fail l) []
request_answer h (Ok answer.GiveLater) l = going_on h (moved_once pass l) []
request_answer h _ l = refl

hang_up_answer : (read : Result Answer BadText) (l : Lists) → StaysPlain (on_hang_up_answer read l)
hang_up_answer (Ok answer.HangYes) l = refl
hang_up_answer (Ok answer.HangNo) l = refl
hang_up_answer _ l = refl

nothing_more : (read : Result Answer BadText) (l : Lists) → StaysPlain (on_nothing_more read l)
nothing_more (Ok answer.HangYes) l = refl
nothing_more _ l = refl

a_text : (h : Holdings) (awaited : Awaits) (text : List ℕ) (l : Lists) → StaysPlain (plain_text h awaited text l)
a_text h awaits.Order text l = an_order h (order_of text) l
a_text h awaits.GivenFileDone text l = given_file_done (answer_of text) l
a_text h awaits.LastHangUp text l = last_hang_up (answer_of text) l
a_text h awaits.SendAnswer text l = send_answer h (answer_of text) l
a_text h awaits.SentFileDone text l = sent_job_done h l.ahead (answer_of text) l
a_text h awaits.RequestAnswer text l = request_answer h (answer_of text) l
a_text h awaits.HangUpAnswer text l = hang_up_answer (answer_of text) l
a_text h awaits.NothingMore text l = nothing_more (answer_of text) l
a_text h _ text l = refl

sent_file : (immovable : Bool) (file : Kept) (l : Lists) → StaysPlain (plain_sent_file immovable file l)
sent_file false file l = refl
sent_file true file l = refl

asked_file : (h : Holdings) (immovable : Bool) (file : Kept) (l : Lists) → StaysPlain (plain_asked_file h immovable file l)
asked_file h false file l = going_on h (moved_once strike l) (the_answer answer.DoneYes ∷ [])
asked_file h true file l = going_on h (moved_once fail l) (the_answer answer.DoneNever ∷ [])

file_of : (h : Holdings) (jobs : List Job) (mode : ℕ) (bytes : List ℕ) (l : Lists) → StaysPlain (plain_file_of h jobs mode bytes l)
file_of h (job.Request source target user ∷ jobs) mode bytes l =
    asked_file h (h.immovable (h.landing source target)) (record { name = h.landing source target; mode = mode; bytes = bytes }) l
file_of h _ mode bytes l = refl

a_file : (h : Holdings) (awaited : Awaits) (bytes : List ℕ) (l : Lists) → StaysPlain (plain_file h awaited bytes l)
a_file h (awaits.SentFile source target mode told limit) bytes l = sent_file (h.immovable target) (record { name = target; mode = mode; bytes = bytes }) l
a_file h (awaits.AskedFile mode told limit) bytes l = file_of h l.ahead mode bytes l
a_file h _ bytes l = refl

a_whole : (kind : Kind) (h : Holdings) (awaited : Awaits) (bytes : List ℕ) (l : Lists) → StaysPlain (plain_whole kind h awaited bytes l)
a_whole OfCommand h awaited bytes l = a_text h awaited bytes l
a_whole (OfFile limit) h awaited bytes l = a_file h awaited bytes l

gathered : (whole : Bool) (kind : Kind) (h : Holdings) (s : State) (bytes : List ℕ) → awaits_plainly s.awaits ≡ true →
    StaysPlain (plain_gathered whole kind h s bytes)
gathered false kind h s bytes plain = plain
gathered true kind h s bytes plain = a_whole kind h s.awaits bytes s.lists

part : (too_long : Bool) (g : Gathering) (h : Holdings) (s : State) → awaits_plainly s.awaits ≡ true → StaysPlain (plain_part too_long g h s)
part true g h s plain = refl
part false g h s plain = gathered g.whole g.kind h s g.bytes plain

pub step_stays : (h : Holdings) (s : State) (message : List ℕ) → awaits_plainly s.awaits ≡ true →
    awaits_plainly (plain_step h s message).state.awaits ≡ true
step_stays h s message plain =
    let g : Gathering = gathered_with s message in
    part (nat_lt (limit_of g.kind) (length g.bytes)) g h s plain

early_stays : (early : Bool) (h : Holdings) (s : State) (message : List ℕ) → awaits_plainly s.awaits ≡ true →
    StaysPlain (plain_unless_early early h s message)
early_stays true h s message plain = refl
early_stays false h s message plain = step_stays h s message plain

pub reply_stays : (h : Holdings) (none_waits : Bool) (s : State) (message : List ℕ) → awaits_plainly s.awaits ≡ true →
    awaits_plainly (plain_reply_to h none_waits s message).state.awaits ≡ true
reply_stays h none_waits s message plain = early_stays (comes_early s.awaits none_waits) h s message plain

pub opening_plain : (side : Side) (h : Holdings) (l : Lists) → awaits_plainly (plain_opening side h l).state.awaits ≡ true
opening_plain Caller h l = going_on h l []
opening_plain Called h l = refl
