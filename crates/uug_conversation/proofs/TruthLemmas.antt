-- Whatever comes, what an end tells is told of the files that its spool gives.
use Rattle.std.proofs.Common.{ℕ, nat_lt, Bool, true, false, ◌&&◌, List, ◌∷◌, ◌++◌, length, Option, Some, None, Result, Ok, Err, refl}
use Rattle.uug_talk.specs.Digests.{told_by_answer, told_by_order}
use Rattle.uug_talk.specs.declared.file_digest.FileDigest.{FileDigest}
use Rattle.uug_talk.specs.declared.answer.Answer.{Answer}
use Rattle.uug_talk.specs.declared.answer.Answer.TheVariants as answer
use Rattle.uug_talk.specs.declared.error.BadText.{BadText}
use Rattle.uug_talk.specs.declared.order.Order.{Order}
use Rattle.uug_talk.specs.declared.order.Order.TheVariants as order
use Rattle.uug_talk.specs.Answer.{answer_of}
use Rattle.uug_talk.specs.Gathering.{Kind, OfCommand, OfFile, Gathering, limit_of}
use Rattle.uug_talk.specs.Lenient.{is_held, or_wished, refused_letter_of}
use Rattle.uug_talk.specs.Order.{order_of}
use Rattle.uug_conversation.specs.declared.awaits.Awaits.{Awaits}
use Rattle.uug_conversation.specs.declared.awaits.Awaits.TheVariants as awaits
use Rattle.uug_conversation.specs.declared.job.Job.{Job}
use Rattle.uug_conversation.specs.declared.job.Job.TheVariants as job
use Rattle.uug_conversation.specs.declared.side.Side.{Side}
use Rattle.uug_conversation.specs.declared.side.Side.TheVariants.{Caller, Called}
use Rattle.uug_conversation.specs.declared.verdict.Verdict.{Verdict}
use Rattle.uug_conversation.specs.declared.verdict.Verdict.TheVariants.{Yes, Never, Later}
use Rattle.uug_conversation.specs.Choice.{choice, fetched_by}
use Rattle.uug_conversation.specs.Comparing.{TellsTruly}
use Rattle.uug_conversation.specs.Holdings.{File, Kept, Holdings, to_give}
use Rattle.uug_conversation.specs.Jobs.{Lists, moved}
use Rattle.uug_conversation.specs.Machine.{State, Reply, comes_early, file_verdict, on_send, send_verdict, on_request, on_hang_up, on_unread, on_order, on_given_file_done, on_last_hang_up, sends_file, on_send_yes, on_send_answer, on_sent_file_done, on_sent_job_done, on_request_answer, on_hang_up_answer, on_nothing_more, on_text, on_sent_file, on_asked_file, on_file_of, on_file, on_whole, on_gathered, on_past_limit, on_part, gathered_with, opening, reply_to, step, unless_early}
use Rattle.uug_conversation.specs.Told.{heard}
use Rattle.uug_conversation.specs.Resuming.{front_of, position_heard, rest_from}

module _ (h : Holdings) where
  abbrev IsTrue : Reply → Type 0
  IsTrue r = TellsTruly h r.says

  send : (limit : ℕ) (verdict : Verdict) (front source target : List ℕ) (mode : ℕ) (told : Option FileDigest) (l : Lists) → IsTrue (on_send limit verdict front source target mode told l)
  send limit Yes front source target mode told l = tt
  send limit Never front source target mode told l = tt
  send limit Later front source target mode told l = tt

  request : (found : Option File) (delayed : Bool) (l : Lists) → IsTrue (on_request h.digests found delayed l)
  request None false l = tt
  request None true l = tt
  request (Some file) delayed l = (refl, tt)

  hang_up : (next : Option Order) (l : Lists) → IsTrue (on_hang_up h next l)
  hang_up None l = tt
  hang_up (Some next) l = (refl, tt)

  unread : (lenient : Bool) (letter : Option ℕ) (l : Lists) → IsTrue (on_unread lenient letter l)
  unread true (Some letter) l = tt
  unread _ _ l = tt

  an_order : (letter : Option ℕ) (told : Option FileDigest) (read : Result Order BadText) (l : Lists) →
      IsTrue (on_order h letter told read l)
  an_order letter told (Ok (order.Send source target user temp mode)) l = send h.limit (send_verdict h (h.landing source target) told)
      (front_of h (fetched_by source temp) told) (fetched_by source temp) (h.landing source target) mode told l
  an_order letter told (Ok (order.Request source target user)) l = request (to_give h source) (h.delayed source) l
  an_order letter told (Ok order.HangUp) l = hang_up (choice h l.ahead).next (moved (choice h l.ahead).failing l)
  an_order letter told (Err fault) l = unread h.lenient letter l

  given_file_done : (read : Result Answer BadText) (l : Lists) → IsTrue (on_given_file_done read l)
  given_file_done (Ok answer.DoneYes) l = tt
  given_file_done (Ok answer.DoneYesMaster) l = tt
  given_file_done (Ok answer.DoneNever) l = tt
  given_file_done (Ok answer.DoneLater) l = tt
  given_file_done _ l = tt

  last_hang_up : (read : Result Answer BadText) (l : Lists) → IsTrue (on_last_hang_up read l)
  last_hang_up (Ok answer.HangYes) l = tt
  last_hang_up _ l = tt

  file_sent : (found : Option File) (l : Lists) → IsTrue (sends_file found l)
  file_sent None l = tt
  file_sent (Some file) l = tt

  send_yes : (position : ℕ) (jobs : List Job) (l : Lists) → IsTrue (on_send_yes h position jobs l)
  send_yes position (job.Send source target user temp ∷ jobs) l = file_sent (rest_from position (to_give h (fetched_by source temp))) l
  send_yes position _ l = tt

  send_answer : (held : Bool) (position : ℕ) (read : Result Answer BadText) (l : Lists) → IsTrue (on_send_answer h held position read l)
  send_answer held position (Ok answer.SendYes) l = send_yes position l.ahead l
  send_answer held position (Ok answer.SendNever) l = (refl, tt)
  send_answer held position (Ok answer.SendLater) l = (refl, tt)
  send_answer held position _ l = tt

  sent_file_done : (read : Result Answer BadText) (l : Lists) → IsTrue (on_sent_file_done h read l)
  sent_file_done (Ok answer.DoneYes) l = (refl, tt)
  sent_file_done (Ok answer.DoneYesMaster) l = (refl, tt)
  sent_file_done (Ok answer.DoneNever) l = (refl, tt)
  sent_file_done (Ok answer.DoneLater) l = (refl, tt)
  sent_file_done _ l = tt

  sent_job_done : (jobs : List Job) (read : Result Answer BadText) (l : Lists) → IsTrue (on_sent_job_done h jobs read l)
  sent_job_done (job.Send source target user temp ∷ jobs) read l = sent_file_done read l
  sent_job_done _ read l = tt

  request_answer : (told : Option FileDigest) (read : Result Answer BadText) (l : Lists) → IsTrue (on_request_answer h told read l)
  request_answer told (Ok (answer.GiveYes mode)) l = tt
  request_answer told (Ok answer.GiveNever) l = (refl, tt)
  request_answer told (Ok answer.GiveLater) l = (refl, tt)
  request_answer told _ l = tt

  hang_up_answer : (read : Result Answer BadText) (l : Lists) → IsTrue (on_hang_up_answer read l)
  hang_up_answer (Ok answer.HangYes) l = tt
  hang_up_answer (Ok answer.HangNo) l = tt
  hang_up_answer _ l = tt

  nothing_more : (read : Result Answer BadText) (l : Lists) → IsTrue (on_nothing_more read l)
  nothing_more (Ok answer.HangYes) l = tt
  nothing_more _ l = tt

  a_text : (awaited : Awaits) (text : List ℕ) (l : Lists) → IsTrue (on_text h awaited text l)
  a_text awaits.Order text l = an_order (refused_letter_of text) (heard h.digests (told_by_order text)) (order_of text) l
  a_text awaits.GivenFileDone text l = given_file_done (answer_of text) l
  a_text awaits.LastHangUp text l = last_hang_up (answer_of text) l
  a_text awaits.SendAnswer text l = send_answer (is_held text && h.lenient) (position_heard h.digests text) (answer_of text) l
  a_text awaits.SentFileDone text l = sent_job_done l.ahead (answer_of text) l
  a_text awaits.RequestAnswer text l = request_answer (heard h.digests (told_by_answer text)) (or_wished (answer_of text) h.lenient text) l
  a_text awaits.HangUpAnswer text l = hang_up_answer (answer_of text) l
  a_text awaits.NothingMore text l = nothing_more (answer_of text) l
  a_text _ text l = tt

  sent_file : (verdict : Verdict) (file : Kept) (l : Lists) → IsTrue (on_sent_file verdict file l)
  sent_file Yes file l = tt
  sent_file Never file l = tt
  sent_file Later file l = tt

  asked_file : (verdict : Verdict) (file : Kept) (l : Lists) → IsTrue (on_asked_file h verdict file l)
  asked_file Yes file l = (refl, tt)
  asked_file Never file l = (refl, tt)
  asked_file Later file l = (refl, tt)

  file_of : (jobs : List Job) (mode : ℕ) (told : Option FileDigest) (bytes : List ℕ) (l : Lists) → IsTrue (on_file_of h jobs mode told bytes l)
  file_of (job.Request source target user ∷ jobs) mode told bytes l =
      asked_file (file_verdict h (h.landing source target) told bytes) (record { name = h.landing source target; mode = mode; bytes = bytes }) l
  file_of _ mode told bytes l = tt

  a_file : (awaited : Awaits) (bytes : List ℕ) (l : Lists) → IsTrue (on_file h awaited bytes l)
  a_file (awaits.SentFile source target mode told limit) bytes l =
      sent_file (file_verdict h target told (front_of h source told ++ bytes))
      (record { name = target; mode = mode; bytes = front_of h source told ++ bytes }) l
  a_file (awaits.AskedFile mode told limit) bytes l = file_of l.ahead mode told bytes l
  a_file (awaits.DroppedSentFile limit) bytes l = tt
  a_file (awaits.DroppedAskedFile limit) bytes l = (refl, tt)
  a_file _ bytes l = tt

  a_whole : (kind : Kind) (awaited : Awaits) (bytes : List ℕ) (l : Lists) → IsTrue (on_whole kind h awaited bytes l)
  a_whole OfCommand awaited bytes l = a_text awaited bytes l
  a_whole (OfFile limit) awaited bytes l = a_file awaited bytes l

  gathered_so : (whole : Bool) (kind : Kind) (s : State) (bytes : List ℕ) → IsTrue (on_gathered whole kind h s bytes)
  gathered_so false kind s bytes = tt
  gathered_so true kind s bytes = a_whole kind s.awaits bytes s.lists

  past_limit : (lenient : Bool) (kind : Kind) (awaited : Awaits) (l : Lists) → IsTrue (on_past_limit lenient kind awaited l)
  past_limit true (OfFile limit) awaited l = tt
  past_limit _ kind awaited l = tt

  part_so : (too_long : Bool) (g : Gathering) (s : State) → IsTrue (on_part too_long g h s)
  part_so true g s = past_limit h.lenient g.kind s.awaits s.lists
  part_so false g s = gathered_so g.whole g.kind s g.bytes

  pub step_tells_truly : (s : State) (message : List ℕ) → TellsTruly h (step h s message).says
  step_tells_truly s message =
      let g : Gathering = gathered_with s message in
      part_so (nat_lt (limit_of g.kind) (length g.bytes)) g s

  early_so : (early : Bool) (s : State) (message : List ℕ) → IsTrue (unless_early early h s message)
  early_so true s message = tt
  early_so false s message = step_tells_truly s message

  pub reply_tells_truly : (none_waits : Bool) (s : State) (message : List ℕ) → TellsTruly h (reply_to h none_waits s message).says
  reply_tells_truly none_waits s message = early_so (comes_early s.awaits none_waits) s message

  pub opening_tells_truly : (side : Side) (l : Lists) → TellsTruly h (opening side h l).says
  opening_tells_truly Caller l = (refl, tt)
  opening_tells_truly Called l = tt
