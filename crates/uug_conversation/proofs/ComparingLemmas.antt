-- What is kept is what was told of, and what was told is what was heard.
use Rattle.std.proofs.Common.{◌≡◌, ℕ, nat_lt, Bool, true, false, List, [], ◌∷◌, ◌++◌, length, Option, Some, None, Result, Ok, Err, refl, sym, ap, subst, ◌∙◌}
use Rattle.std.proofs.lemmas.List.Elements.{All-nil, All-cons}
use Rattle.uug_talk.specs.Digests.{digest_of, told_by_answer, told_by_order}
use Rattle.uug_talk.specs.declared.file_digest.FileDigest.{FileDigest}
use Rattle.uug_talk.specs.declared.answer.Answer.{Answer}
use Rattle.uug_talk.specs.declared.answer.Answer.TheVariants as answer
use Rattle.uug_talk.specs.declared.error.BadText.{BadText}
use Rattle.uug_talk.specs.declared.order.Order.{Order}
use Rattle.uug_talk.specs.declared.order.Order.TheVariants as order
use Rattle.uug_talk.specs.Answer.{answer_of}
use Rattle.uug_talk.specs.Gathering.{Kind, OfFile, Gathering, limit_of}
use Rattle.uug_talk.specs.Lenient.{or_wished, refused_letter_of}
use Rattle.uug_talk.specs.Order.{order_of}
use Rattle.uug_conversation.specs.declared.awaits.Awaits.{Awaits}
use Rattle.uug_conversation.specs.declared.awaits.Awaits.TheVariants as awaits
use Rattle.uug_conversation.specs.declared.job.Job.{Job}
use Rattle.uug_conversation.specs.declared.job.Job.TheVariants as job
use Rattle.uug_conversation.specs.declared.verdict.Verdict.{Verdict}
use Rattle.uug_conversation.specs.declared.verdict.Verdict.TheVariants.{Yes, Never, Later}
use Rattle.uug_conversation.specs.Choice.{choice, fetched_by}
use Rattle.uug_conversation.specs.Comparing.{AllFit, told_awaited}
use Rattle.uug_conversation.specs.Holdings.{File, Kept, Holdings, to_give}
use Rattle.uug_conversation.specs.Jobs.{Lists, moved}
use Rattle.uug_conversation.specs.Machine.{State, awaits_answer_to, comes_early, file_verdict, on_send, send_verdict, on_request, on_hang_up, on_unread, on_order, on_request_answer, on_text, on_sent_file, on_asked_file, on_file_of, on_file, on_whole, on_gathered, on_past_limit, on_part, gathered_with, kind_awaited, reply_to, step, unless_early}
use Rattle.uug_conversation.specs.Resuming.{front_of}
use Rattle.uug_conversation.specs.Told.{fits, heard, outcome, told_of, told_with}
use Rattle.uug_conversation.proofs.ToldLemmas.{fits_decides}

-- ---- what is kept

kept_fits : (fit immovable : Bool) → outcome fit immovable ≡ Yes → fit ≡ true
kept_fits true immovable e = refl
kept_fits false immovable e = absurd cc

module _ (told : FileDigest) where
  none_fits : AllFit told []
  none_fits = All-nil (λ (file : Kept). told ≡ digest_of file.bytes)

  one_fits : (file : Kept) → told ≡ digest_of file.bytes → AllFit told (file ∷ [])
  one_fits file e = All-cons (λ (f : Kept). told ≡ digest_of f.bytes) file [] e none_fits

  yes_fits : (h : Holdings) (target bytes : List ℕ) → file_verdict h target (Some told) bytes ≡ Yes → told ≡ digest_of bytes
  yes_fits h target bytes e = (fits_decides told bytes).0 (kept_fits (fits (Some told) bytes) (h.immovable target) e)

  sent_fits : (verdict : Verdict) (file : Kept) (l : Lists) → (verdict ≡ Yes → told ≡ digest_of file.bytes) →
      AllFit told (on_sent_file verdict file l).keeps
  sent_fits Yes file l e = one_fits file (e refl)
  sent_fits Never file l e = none_fits
  sent_fits Later file l e = none_fits

  asked_fits : (h : Holdings) (verdict : Verdict) (file : Kept) (l : Lists) → (verdict ≡ Yes → told ≡ digest_of file.bytes) →
      AllFit told (on_asked_file h verdict file l).keeps
  asked_fits h Yes file l e = one_fits file (e refl)
  asked_fits h Never file l e = none_fits
  asked_fits h Later file l e = none_fits

  file_of_fits : (h : Holdings) (jobs : List Job) (mode : ℕ) (bytes : List ℕ) (l : Lists) →
      AllFit told (on_file_of h jobs mode (Some told) bytes l).keeps
  file_of_fits h (job.Request source target user ∷ jobs) mode bytes l =
      asked_fits h (file_verdict h (h.landing source target) (Some told) bytes) (record { name = h.landing source target; mode = mode; bytes = bytes }) l
      (yes_fits h (h.landing source target) bytes)
  file_of_fits h _ mode bytes l = none_fits

  whole_fits : (h : Holdings) (w : Awaits) (bytes : List ℕ) (l : Lists) → told_awaited w ≡ Some told →
      AllFit told (on_whole (kind_awaited w) h w bytes l).keeps
  whole_fits h (awaits.SentFile source target mode told_so limit) bytes l e =
      subst (λ z. AllFit told (on_file h (awaits.SentFile source target mode z limit) bytes l).keeps) (sym e)
      (sent_fits (file_verdict h target (Some told) (front_of h source (Some told) ++ bytes))
      (record { name = target; mode = mode; bytes = front_of h source (Some told) ++ bytes }) l
      (yes_fits h target (front_of h source (Some told) ++ bytes)))
  whole_fits h (awaits.AskedFile mode told_so limit) bytes l e =
      subst (λ z. AllFit told (on_file h (awaits.AskedFile mode z limit) bytes l).keeps) (sym e)
      (file_of_fits h l.ahead mode bytes l)
  whole_fits h _ bytes l e = absurd cc

  gathered_fits : (whole : Bool) (h : Holdings) (s : State) (bytes : List ℕ) → told_awaited s.awaits ≡ Some told →
      AllFit told (on_gathered whole (kind_awaited s.awaits) h s bytes).keeps
  gathered_fits false h s bytes e = none_fits
  gathered_fits true h s bytes e = whole_fits h s.awaits bytes s.lists e

  past_limit_fits : (lenient : Bool) (kind : Kind) (w : Awaits) (l : Lists) → AllFit told (on_past_limit lenient kind w l).keeps
  past_limit_fits true (OfFile limit) w l = none_fits
  past_limit_fits _ kind w l = none_fits

  part_fits : (too_long whole : Bool) (h : Holdings) (s : State) (bytes : List ℕ) → told_awaited s.awaits ≡ Some told →
      AllFit told (on_part too_long (record { kind = kind_awaited s.awaits; bytes = bytes; whole = whole }) h s).keeps
  part_fits true whole h s bytes e = past_limit_fits h.lenient (kind_awaited s.awaits) s.awaits s.lists
  part_fits false whole h s bytes e = gathered_fits whole h s bytes e

-- whatever comes: what is kept, where a digest was told of it, has that digest
pub step_fits : (h : Holdings) (s : State) (message : List ℕ) (told : FileDigest) → told_awaited s.awaits ≡ Some told →
    AllFit told (step h s message).keeps
step_fits h s message told e =
    let g : Gathering = gathered_with s message in
    part_fits told (nat_lt (limit_of g.kind) (length g.bytes)) g.whole h s g.bytes e

early_fits : (early : Bool) (h : Holdings) (s : State) (message : List ℕ) (told : FileDigest) → told_awaited s.awaits ≡ Some told →
    AllFit told (unless_early early h s message).keeps
early_fits true h s message told e = none_fits told
early_fits false h s message told e = step_fits h s message told e

pub reply_fits : (h : Holdings) (none_waits : Bool) (s : State) (message : List ℕ) (told : FileDigest) → told_awaited s.awaits ≡ Some told →
    AllFit told (reply_to h none_waits s message).keeps
reply_fits h none_waits s message told e = early_fits (comes_early s.awaits none_waits) h s message told e

-- ---- what was heard

-- this end awaits a file of which it has heard that, or none
abbrev HasHeard : Option FileDigest → Awaits → Type 0
HasHeard told (awaits.SentFile source target mode told_so limit) = told_so ≡ told
HasHeard told (awaits.AskedFile mode told_so limit) = told_so ≡ told
HasHeard told _ = Unit {0}

after_command : (told : Option FileDigest) (next : Order) → HasHeard told (awaits_answer_to next)
after_command told (order.Send source target user temp mode) = tt
after_command told (order.Request source target user) = tt
after_command told order.HangUp = tt

after_send : (limit : ℕ) (verdict : Verdict) (front source target : List ℕ) (mode : ℕ) (told : Option FileDigest) (l : Lists) →
    HasHeard told (on_send limit verdict front source target mode told l).state.awaits
after_send limit Yes front source target mode told l = refl
after_send limit Never front source target mode told l = tt
after_send limit Later front source target mode told l = tt

after_request : (told : Option FileDigest) (digests : Bool) (found : Option File) (delayed : Bool) (l : Lists) →
    HasHeard told (on_request digests found delayed l).state.awaits
after_request told digests None false l = tt
after_request told digests None true l = tt
after_request told digests (Some file) delayed l = tt

after_hang_up : (told : Option FileDigest) (h : Holdings) (next : Option Order) (l : Lists) →
    HasHeard told (on_hang_up h next l).state.awaits
after_hang_up told h None l = tt
after_hang_up told h (Some next) l = after_command told next

after_unread : (told : Option FileDigest) (lenient : Bool) (letter : Option ℕ) (l : Lists) →
    HasHeard told (on_unread lenient letter l).state.awaits
after_unread told true (Some letter) l = tt
after_unread told _ _ l = tt

after_order : (h : Holdings) (letter : Option ℕ) (told : Option FileDigest) (read : Result Order BadText) (l : Lists) →
    HasHeard told (on_order h letter told read l).state.awaits
after_order h letter told (Ok (order.Send source target user temp mode)) l = after_send h.limit (send_verdict h (h.landing source target) told)
    (front_of h (fetched_by source temp) told) (fetched_by source temp) (h.landing source target) mode told l
after_order h letter told (Ok (order.Request source target user)) l = after_request told h.digests (to_give h source) (h.delayed source) l
after_order h letter told (Ok order.HangUp) l =
    after_hang_up told h (choice h l.ahead).next (moved (choice h l.ahead).failing l)
after_order h letter told (Err fault) l = after_unread told h.lenient letter l

after_request_answer : (h : Holdings) (told : Option FileDigest) (read : Result Answer BadText) (l : Lists) →
    HasHeard told (on_request_answer h told read l).state.awaits
after_request_answer h told (Ok (answer.GiveYes mode)) l = refl
after_request_answer h told (Ok answer.GiveNever) l = after_command told _
after_request_answer h told (Ok answer.GiveLater) l = after_command told _
after_request_answer h told _ l = tt

from_heard : (told : Option FileDigest) (w : Awaits) (digest : FileDigest) → HasHeard told w → told_awaited w ≡ Some digest → told ≡ Some digest
from_heard told (awaits.SentFile source target mode told_so limit) digest h e = sym h ∙ e
from_heard told (awaits.AskedFile mode told_so limit) digest h e = sym h ∙ e
from_heard told _ digest h e = absurd cc

-- what was told of a file that is awaited was read in the command that was taken, or in the answer
pub order_heard : (h : Holdings) (text : List ℕ) (l : Lists) (told : FileDigest) →
    told_awaited (on_text h awaits.Order text l).state.awaits ≡ Some told → heard h.digests (told_by_order text) ≡ Some told
order_heard h text l told e =
    from_heard (heard h.digests (told_by_order text)) (on_text h awaits.Order text l).state.awaits told
    (after_order h (refused_letter_of text) (heard h.digests (told_by_order text)) (order_of text) l) e

pub answer_heard : (h : Holdings) (text : List ℕ) (l : Lists) (told : FileDigest) →
    told_awaited (on_text h awaits.RequestAnswer text l).state.awaits ≡ Some told → heard h.digests (told_by_answer text) ≡ Some told
answer_heard h text l told e =
    from_heard (heard h.digests (told_by_answer text)) (on_text h awaits.RequestAnswer text l).state.awaits told
    (after_request_answer h (heard h.digests (told_by_answer text)) (or_wished (answer_of text) h.lenient text) l) e

-- what is read in a command or an answer behind which a file comes is awaited
pub order_awaited : (h : Holdings) (text : List ℕ) (l : Lists) (source target user : List ℕ) (temp : Option (List ℕ)) (mode : ℕ) →
    order_of text ≡ Ok (order.Send source target user temp mode) →
    send_verdict h (h.landing source target) (heard h.digests (told_by_order text)) ≡ Yes →
    told_awaited (on_text h awaits.Order text l).state.awaits ≡ heard h.digests (told_by_order text)
order_awaited h text l source target user temp mode read verdict =
    let told = heard h.digests (told_by_order text) in
    ap (λ z. told_awaited (on_order h (refused_letter_of text) told z l).state.awaits) read
    ∙ ap (λ z. told_awaited (on_send h.limit z (front_of h (fetched_by source temp) told) (fetched_by source temp) (h.landing source target) mode told l).state.awaits) verdict

pub answer_awaited : (h : Holdings) (text : List ℕ) (l : Lists) (mode : ℕ) → or_wished (answer_of text) h.lenient text ≡ Ok (answer.GiveYes mode) →
    told_awaited (on_text h awaits.RequestAnswer text l).state.awaits ≡ heard h.digests (told_by_answer text)
answer_awaited h text l mode read =
    ap (λ z. told_awaited (on_request_answer h (heard h.digests (told_by_answer text)) z l).state.awaits) read

-- ---- an end that tells and compares none

pub none_heard : (h : Holdings) (told : Option FileDigest) → h.digests ≡ false → heard h.digests told ≡ None
none_heard h told off = ap (λ d. heard d told) off

none_of : (digests : Bool) (found : Option File) → digests ≡ false → told_of digests found ≡ None
none_of digests found off = ap (λ d. told_of d found) off

pub none_told : (h : Holdings) (next : Order) → h.digests ≡ false → told_with h next ≡ None
none_told h (order.Send source target user temp mode) off = none_of h.digests (to_give h (fetched_by source temp)) off
none_told h (order.Request source target user) off = refl
none_told h order.HangUp off = refl

pub none_given : (h : Holdings) (found : Option File) → h.digests ≡ false → told_of h.digests found ≡ None
none_given h found off = none_of h.digests found off
