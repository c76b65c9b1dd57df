-- Whatever one end's machine says can be written.
use Rattle.std.proofs.Common.{◌≡◌, ◌≤◌, ◌&&◌, ℕ, Bool, true, false, if◌then◌else◌, List, [], ◌∷◌, ◌++◌, Option, Some, None, Result, Ok, Err, All, refl, subst}
use Rattle.std.proofs.lemmas.List.Elements.{All-nil, All-cons}
use Rattle.uug_talk.specs.Digests.{told_by_answer, told_by_order}
use Rattle.uug_talk.specs.declared.file_digest.FileDigest.{FileDigest}
use Rattle.uug_talk.specs.declared.answer.Answer.{Answer}
use Rattle.uug_talk.specs.declared.answer.Answer.TheVariants as answer
use Rattle.uug_talk.specs.declared.error.BadText.{BadText}
use Rattle.uug_talk.specs.declared.mode.TheConstants.{MODE_MAX}
use Rattle.uug_talk.specs.declared.order.Order.{Order}
use Rattle.uug_talk.specs.declared.order.Order.TheVariants as order
use Rattle.uug_talk.specs.Answer.{IsWritten, answer_of}
use Rattle.uug_talk.specs.Lenient.{is_held, is_refusable, or_wished, refused_letter_of, refused_letter_of_words}
use Rattle.uug_talk.specs.Order.{HasMode, order_of}
use Rattle.uug_talk.specs.Words.{words}
use Rattle.uug_conversation.specs.declared.awaits.Awaits.{Awaits}
use Rattle.uug_conversation.specs.declared.awaits.Awaits.TheVariants as awaits
use Rattle.uug_conversation.specs.declared.job.Job.{Job}
use Rattle.uug_conversation.specs.declared.job.Job.TheVariants as job
use Rattle.uug_conversation.specs.declared.reaction.Reaction.{Reaction}
use Rattle.uug_conversation.specs.declared.reaction.Saying.{Saying}
use Rattle.uug_conversation.specs.declared.reaction.Saying.TheVariants as saying
use Rattle.uug_conversation.specs.declared.reaction.Says.{Says}
use Rattle.uug_conversation.specs.declared.reaction.Says.TheVariants.{Nothing, One, Two}
use Rattle.uug_conversation.specs.declared.verdict.Verdict.{Verdict}
use Rattle.uug_conversation.specs.declared.verdict.Verdict.TheVariants.{Yes, Never, Later}
use Rattle.uug_conversation.specs.Choice.{Choice, choice, fetched_by, send_choice}
use Rattle.uug_conversation.specs.Holdings.{File, Kept, Holdings, AreModes, to_give}
use Rattle.uug_conversation.specs.Jobs.{Lists, pass, strike, fail, moved, moved_once}
use Rattle.uug_conversation.specs.Machine.{Reply, goes_on, order_or_hang_up, on_send, send_verdict, on_request, on_hang_up, on_unread, on_order, on_given_file_done, on_last_hang_up, sends_file, on_send_yes, move_refused, on_send_answer, on_sent_file_done, on_sent_job_done, on_request_answer, on_hang_up_answer, on_nothing_more, on_text, file_verdict, on_sent_file, on_asked_file, on_file_of, on_file}
use Rattle.uug_conversation.specs.Outgoing.{IsSayable, sayings_of}
use Rattle.uug_conversation.specs.Reactions.{all_said, reply_of, said_before, said_by}
use Rattle.uug_conversation.specs.Told.{heard, told_with}
use Rattle.uug_conversation.specs.Turns.{Said, the_order, the_answer, the_consent, the_giving, the_file, the_refusal}
use Rattle.uug_conversation.proofs.ReadBackLemmas.{given_mode}
use Rattle.uug_conversation.specs.Resuming.{front_of, position_heard, rest_from}

abbrev CanBeSaid : Said → Type 0
CanBeSaid (the_order order told) = HasMode order
CanBeSaid (the_answer answer) = IsWritten answer
CanBeSaid (the_consent position) = Unit {0}
CanBeSaid (the_giving mode told) = mode ≤ MODE_MAX
CanBeSaid (the_file bytes) = Unit {0}
CanBeSaid (the_refusal letter) = is_refusable letter ≡ true

abbrev CanAllBeSaid : List Said → Type 0
CanAllBeSaid [] = Unit {0}
CanAllBeSaid (said ∷ more) = CanBeSaid said × CanAllBeSaid more

-- an answer that can be written, or none
abbrev pub IsWrittenBefore : Option Answer → Type 0
IsWrittenBefore None = Unit {0}
IsWrittenBefore (Some before) = IsWritten before

-- what refuses can be written
abbrev IsRefusableSo : Option ℕ → Type 0
IsRefusableSo None = Unit {0}
IsRefusableSo (Some letter) = is_refusable letter ≡ true

refusable_by : (refusable : Bool) (letter : ℕ) → is_refusable letter ≡ refusable → IsRefusableSo (if refusable then Some letter else None)
refusable_by true letter e = e
refusable_by false letter e = tt

refusable_words : (ws : List (List ℕ)) → IsRefusableSo (refused_letter_of_words ws)
refusable_words ((letter ∷ []) ∷ more) = refusable_by (is_refusable letter) letter refl
refusable_words _ = tt

refusable : (text : List ℕ) → IsRefusableSo (refused_letter_of text)
refusable text = refusable_words (words text)

-- ---- what a machine says

commanded : (before : List Said) (next : Order) (told : Option FileDigest) → CanAllBeSaid before → HasMode next →
    CanAllBeSaid (before ++ the_order next told ∷ [])
commanded [] next told b m = (m, tt)
commanded (said ∷ before) next told b m = (b.0, commanded before next told b.1 m)

abbrev HasModeChosen : Option Order → Type 0
HasModeChosen None = Unit {0}
HasModeChosen (Some next) = HasMode next

hang_up_has : (next : Option Order) → HasModeChosen next → HasMode (order_or_hang_up next)
hang_up_has None m = tt
hang_up_has (Some next) m = m

module _ (h : Holdings) (modes : AreModes h) where
  send_has : (source target user : List ℕ) (temp : Option (List ℕ)) (found : Option File) (behind : Choice) →
      to_give h (fetched_by source temp) ≡ found → HasModeChosen behind.next →
      HasModeChosen (send_choice source target user temp found behind).next
  send_has source target user temp None behind e m = m
  send_has source target user temp (Some file) behind e m = given_mode h (fetched_by source temp) file modes e

  choice_has : (jobs : List Job) → HasModeChosen (choice h jobs).next
  choice_has [] = tt
  choice_has (job.Send source target user temp ∷ jobs) =
      send_has source target user temp (to_give h (fetched_by source temp)) (choice h jobs) refl (choice_has jobs)
  choice_has (job.Request source target user ∷ jobs) = tt

  going_on : (l : Lists) (before : List Said) → CanAllBeSaid before → CanAllBeSaid (goes_on h l before).says
  going_on l before b =
      commanded before (order_or_hang_up (choice h l.ahead).next) (told_with h (order_or_hang_up (choice h l.ahead).next)) b
      (hang_up_has (choice h l.ahead).next (choice_has l.ahead))

  taking_send : (limit : ℕ) (verdict : Verdict) (front source target : List ℕ) (mode : ℕ) (told : Option FileDigest) (l : Lists) → CanAllBeSaid (on_send limit verdict front source target mode told l).says
  taking_send limit Yes front source target mode told l = (tt, tt)
  taking_send limit Never front source target mode told l = (tt, tt)
  taking_send limit Later front source target mode told l = (tt, tt)

  taking_request : (source : List ℕ) (found : Option File) (delayed : Bool) (l : Lists) → to_give h source ≡ found →
      CanAllBeSaid (on_request h.digests found delayed l).says
  taking_request source None false l e = (tt, tt)
  taking_request source None true l e = (tt, tt)
  taking_request source (Some file) delayed l e = (given_mode h source file modes e, (tt, tt))

  taking_hang_up : (next : Option Order) (l : Lists) → HasModeChosen next → CanAllBeSaid (on_hang_up h next l).says
  taking_hang_up None l m = (tt, tt)
  taking_hang_up (Some next) l m = (tt, (m, tt))

  taking_unread : (lenient : Bool) (letter : Option ℕ) (l : Lists) → IsRefusableSo letter →
      CanAllBeSaid (on_unread lenient letter l).says
  taking_unread true (Some letter) l w = (w, tt)
  taking_unread _ _ l w = tt

  taking_order : (letter : Option ℕ) (told : Option FileDigest) (read : Result Order BadText) (l : Lists) → IsRefusableSo letter →
      CanAllBeSaid (on_order h letter told read l).says
  taking_order letter told (Ok (order.Send source target user temp mode)) l w = taking_send h.limit (send_verdict h (h.landing source target) told)
      (front_of h (fetched_by source temp) told) (fetched_by source temp) (h.landing source target) mode told l
  taking_order letter told (Ok (order.Request source target user)) l w = taking_request source (to_give h source) (h.delayed source) l refl
  taking_order letter told (Ok order.HangUp) l w =
      taking_hang_up (choice h l.ahead).next (moved (choice h l.ahead).failing l) (choice_has l.ahead)
  taking_order letter told (Err fault) l w = taking_unread h.lenient letter l w

  given_file_done : (read : Result Answer BadText) (l : Lists) → CanAllBeSaid (on_given_file_done read l).says
  given_file_done (Ok answer.DoneYes) l = tt
  given_file_done (Ok answer.DoneYesMaster) l = tt
  given_file_done (Ok answer.DoneNever) l = tt
  given_file_done (Ok answer.DoneLater) l = tt
  given_file_done _ l = tt

  last_hang_up : (read : Result Answer BadText) (l : Lists) → CanAllBeSaid (on_last_hang_up read l).says
  last_hang_up (Ok answer.HangYes) l = tt
  last_hang_up _ l = tt

  file_sent : (found : Option File) (l : Lists) → CanAllBeSaid (sends_file found l).says
  file_sent None l = tt
  file_sent (Some file) l = (tt, tt)

  send_yes : (position : ℕ) (jobs : List Job) (l : Lists) → CanAllBeSaid (on_send_yes h position jobs l).says
  send_yes position (job.Send source target user temp ∷ jobs) l = file_sent (rest_from position (to_give h (fetched_by source temp))) l
  send_yes position _ l = tt

  send_answer : (held : Bool) (position : ℕ) (read : Result Answer BadText) (l : Lists) → CanAllBeSaid (on_send_answer h held position read l).says
  send_answer held position (Ok answer.SendYes) l = send_yes position l.ahead l
  send_answer held position (Ok answer.SendNever) l = going_on (moved_once fail l) [] tt
  send_answer held position (Ok answer.SendLater) l = going_on (moved_once (move_refused held l.ahead) l) [] tt
  send_answer held position _ l = tt

  sent_file_done : (read : Result Answer BadText) (l : Lists) → CanAllBeSaid (on_sent_file_done h read l).says
  sent_file_done (Ok answer.DoneYes) l = going_on (moved_once strike l) [] tt
  sent_file_done (Ok answer.DoneYesMaster) l = (tt, tt)
  sent_file_done (Ok answer.DoneNever) l = going_on (moved_once fail l) [] tt
  sent_file_done (Ok answer.DoneLater) l = going_on (moved_once pass l) [] tt
  sent_file_done _ l = tt

  sent_job_done : (jobs : List Job) (read : Result Answer BadText) (l : Lists) → CanAllBeSaid (on_sent_job_done h jobs read l).says
  sent_job_done (job.Send source target user temp ∷ jobs) read l = sent_file_done read l
  sent_job_done _ read l = tt

  request_answer : (told : Option FileDigest) (read : Result Answer BadText) (l : Lists) → CanAllBeSaid (on_request_answer h told read l).says
  request_answer told (Ok (answer.GiveYes mode)) l = tt
  request_answer told (Ok answer.GiveNever) l = going_on (moved_once fail l) [] tt
  request_answer told (Ok answer.GiveLater) l = going_on (moved_once pass l) [] tt
  request_answer told _ l = tt

  hang_up_answer : (read : Result Answer BadText) (l : Lists) → CanAllBeSaid (on_hang_up_answer read l).says
  hang_up_answer (Ok answer.HangYes) l = (tt, tt)
  hang_up_answer (Ok answer.HangNo) l = tt
  hang_up_answer _ l = tt

  nothing_more : (read : Result Answer BadText) (l : Lists) → CanAllBeSaid (on_nothing_more read l).says
  nothing_more (Ok answer.HangYes) l = tt
  nothing_more _ l = tt

  taking_text : (awaited : Awaits) (text : List ℕ) (l : Lists) → CanAllBeSaid (on_text h awaited text l).says
  taking_text awaits.Order text l = taking_order (refused_letter_of text) (heard h.digests (told_by_order text)) (order_of text) l (refusable text)
  taking_text awaits.GivenFileDone text l = given_file_done (answer_of text) l
  taking_text awaits.LastHangUp text l = last_hang_up (answer_of text) l
  taking_text awaits.SendAnswer text l = send_answer (is_held text && h.lenient) (position_heard h.digests text) (answer_of text) l
  taking_text awaits.SentFileDone text l = sent_job_done l.ahead (answer_of text) l
  taking_text awaits.RequestAnswer text l = request_answer (heard h.digests (told_by_answer text)) (or_wished (answer_of text) h.lenient text) l
  taking_text awaits.HangUpAnswer text l = hang_up_answer (answer_of text) l
  taking_text awaits.NothingMore text l = nothing_more (answer_of text) l
  taking_text _ text l = tt

  sent_file : (verdict : Verdict) (file : Kept) (l : Lists) → CanAllBeSaid (on_sent_file verdict file l).says
  sent_file Yes file l = (tt, tt)
  sent_file Never file l = (tt, tt)
  sent_file Later file l = (tt, tt)

  asked_file : (verdict : Verdict) (file : Kept) (l : Lists) → CanAllBeSaid (on_asked_file h verdict file l).says
  asked_file Yes file l = going_on (moved_once strike l) (the_answer answer.DoneYes ∷ []) (tt, tt)
  asked_file Never file l = going_on (moved_once fail l) (the_answer answer.DoneNever ∷ []) (tt, tt)
  asked_file Later file l = going_on (moved_once pass l) (the_answer answer.DoneLater ∷ []) (tt, tt)

  file_of : (jobs : List Job) (mode : ℕ) (told : Option FileDigest) (bytes : List ℕ) (l : Lists) → CanAllBeSaid (on_file_of h jobs mode told bytes l).says
  file_of (job.Request source target user ∷ jobs) mode told bytes l =
      asked_file (file_verdict h (h.landing source target) told bytes) (record { name = h.landing source target; mode = mode; bytes = bytes }) l
  file_of _ mode told bytes l = tt

  taking_file : (awaited : Awaits) (bytes : List ℕ) (l : Lists) → CanAllBeSaid (on_file h awaited bytes l).says
  taking_file (awaits.SentFile source target mode told limit) bytes l =
      sent_file (file_verdict h target told (front_of h source told ++ bytes))
      (record { name = target; mode = mode; bytes = front_of h source told ++ bytes }) l
  taking_file (awaits.AskedFile mode told limit) bytes l = file_of l.ahead mode told bytes l
  taking_file (awaits.DroppedSentFile limit) bytes l = (tt, tt)
  taking_file (awaits.DroppedAskedFile limit) bytes l = going_on (moved_once fail l) (the_answer answer.DoneNever ∷ []) (tt, tt)
  taking_file _ bytes l = tt

-- ---- what the code says

of_said : (h : Holdings) (s : Saying) → CanBeSaid (said_by h s) → IsSayable s
of_said h (saying.Order order told) m = m
of_said h (saying.Answer answer) w = w
of_said h (saying.Consent position) u = tt
of_said h (saying.Giving mode told) m = m
of_said h (saying.File name position) u = tt
of_said h (saying.Refusal letter) e = e

of_all_said : (h : Holdings) (says : Says) → CanAllBeSaid (all_said h says) → All IsSayable (sayings_of says)
of_all_said h Nothing c = All-nil IsSayable
of_all_said h (One first) c = All-cons IsSayable first [] (of_said h first c.0) (All-nil IsSayable)
of_all_said h (Two first next) c =
    All-cons IsSayable first (next ∷ []) (of_said h first c.0)
    (All-cons IsSayable next [] (of_said h next c.1.0) (All-nil IsSayable))

-- the reply is this reaction's
of_reply : (h : Holdings) (reply : Reply) (l_after : Lists) (r : Reaction) (keeps : List Kept) →
    reply ≡ reply_of h l_after r keeps → CanAllBeSaid reply.says → All IsSayable (sayings_of r.says)
of_reply h reply l_after r keeps e c = of_all_said h r.says (subst (λ (z : Reply). CanAllBeSaid z.says) e c)

pub text_is_sayable : (h : Holdings) → AreModes h → (awaited : Awaits) (text : List ℕ) (l l_after : Lists) (r : Reaction)
    (keeps : List Kept) → on_text h awaited text l ≡ reply_of h l_after r keeps → All IsSayable (sayings_of r.says)
text_is_sayable h modes awaited text l l_after r keeps e =
    of_reply h (on_text h awaited text l) l_after r keeps e (taking_text h modes awaited text l)

pub file_is_sayable : (h : Holdings) → AreModes h → (awaited : Awaits) (bytes : List ℕ) (l l_after : Lists) (r : Reaction)
    (keeps : List Kept) → on_file h awaited bytes l ≡ reply_of h l_after r keeps → All IsSayable (sayings_of r.says)
file_is_sayable h modes awaited bytes l l_after r keeps e =
    of_reply h (on_file h awaited bytes l) l_after r keeps e (taking_file h modes awaited bytes l)

answer_before : (before : Option Answer) → IsWrittenBefore before → CanAllBeSaid (said_before before)
answer_before None w = tt
answer_before (Some before) w = (w, tt)

pub command_is_sayable : (h : Holdings) → AreModes h → (before : Option Answer) → IsWrittenBefore before → (l l_after : Lists)
    (r : Reaction) (keeps : List Kept) → goes_on h l (said_before before) ≡ reply_of h l_after r keeps →
    All IsSayable (sayings_of r.says)
command_is_sayable h modes before w l l_after r keeps e =
    of_reply h (goes_on h l (said_before before)) l_after r keeps e
    (going_on h modes l (said_before before) (answer_before before w))
