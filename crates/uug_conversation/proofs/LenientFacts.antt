-- What a lenient end does with what it can't read, with SN8, with RY and an M, and with a file past its limit; what an end says of a file
-- that it can't give now; and what comes too early: worked out by hand.
use Rattle.std.proofs.Common.{◌≡◌, true, false, [], ◌∷◌, ◌++◌, codes, ℕ, Some, None, Ok, refl}
use Rattle.std.specs.Str.{bytes_eq}
use Rattle.uug_talk.specs.declared.file_digest.FileDigest.{FileDigest}
use Rattle.uug_talk.specs.declared.answer.Answer.TheVariants as answer
use Rattle.uug_talk.specs.declared.order.Order.{Order}
use Rattle.uug_talk.specs.declared.order.Order.TheVariants as order
use Rattle.uug_talk.specs.declared.gather.TheConstants.{FILE_MAX}
use Rattle.uug_talk.specs.Gathering.{OfCommand, OfFile}
use Rattle.uug_conversation.specs.declared.awaits.Awaits.TheVariants as awaits
use Rattle.uug_conversation.specs.Holdings.{Holdings}
use Rattle.uug_conversation.specs.Machine.{between, replies, on_order, on_text, on_file, on_past_limit, reply_to}
use Rattle.uug_conversation.specs.Turns.{the_order, the_answer, the_consent, the_refusal}
use Rattle.uug_conversation.proofs.FactParties.{x, y, six_bytes, send, send_nothing, request}
use Rattle.uug_conversation.proofs.MachineFacts.{ahead, asking, first_passed, first_struck, has_x, order_of_first, order_of_second, two}

-- has one file, x, and is lenient
abbrev pub lenient_x : Holdings
lenient_x = record { file = has_x.file; delayed = λ name. false; verdict = has_x.verdict; immovable = has_x.immovable; landing = has_x.landing; partials = has_x.partials; lenient = true; digests = has_x.digests; limit = has_x.limit }

-- ---- commands that can't be read

record AreUnread : Type 0 where
  work : on_text lenient_x awaits.Order (codes "X a/* y u -") two ≡ replies two awaits.Order (the_refusal 88 ∷ [])
  run : on_text lenient_x awaits.Order (codes "E x y u - D.0 0644") two ≡ replies two awaits.Order (the_refusal 69 ∷ [])
  short_send : on_text lenient_x awaits.Order (codes "S x y u") two ≡ replies two awaits.Order (the_refusal 83 ∷ [])
  short_request : on_text lenient_x awaits.Order (codes "R x y") two ≡ replies two awaits.Order (the_refusal 82 ∷ [])
  bad_mode : on_text lenient_x awaits.Order (codes "S x y u - D.0 9") two ≡ replies two awaits.Order (the_refusal 83 ∷ [])
  unknown : on_text lenient_x awaits.Order (codes "Q x") two ≡ replies two awaits.Order (the_refusal 81 ∷ [])
  small : on_text lenient_x awaits.Order (codes "q x") two ≡ replies two awaits.Bad []
  longer : on_text lenient_x awaits.Order (codes "SX x") two ≡ replies two awaits.Bad []
  nothing : on_text lenient_x awaits.Order [] two ≡ replies two awaits.Bad []
  an_answer : on_text lenient_x awaits.SendAnswer (codes "X a") two ≡ replies two awaits.Bad []
  good : on_text lenient_x awaits.Order (codes "S x y u - D.0 0600") (ahead []) ≡
      replies (ahead []) (awaits.SentFile x y 384 None FILE_MAX) (the_consent 0 ∷ [])
  strict : on_text has_x awaits.Order (codes "X a/* y u -") two ≡ replies two awaits.Bad []
  strict_send : on_text has_x awaits.Order (codes "S x y u") two ≡ replies two awaits.Bad []

unread : AreUnread
unread = record {
  work = refl;
  run = refl;
  short_send = refl;
  short_request = refl;
  bad_mode = refl;
  unknown = refl;
  small = refl;
  longer = refl;
  nothing = refl;
  an_answer = refl;
  good = refl;
  strict = refl;
  strict_send = refl;
}

-- ---- a file that is told to be too large

abbrev pub told_size : ℕ → FileDigest
told_size n = record { size = n; hash = [] }

abbrev pub order_of_y : Order
order_of_y = order.Send (codes "x") y (codes "u") None 384

record AreLarge : Type 0 where
  larger : on_order lenient_x None (Some (told_size 1048577)) (Ok order_of_y) two ≡ replies two awaits.Order (the_answer answer.SendNever ∷ [])
  largest : on_order lenient_x None (Some (told_size 1048576)) (Ok order_of_y) two ≡
      replies two (awaits.SentFile x y 384 (Some (told_size 1048576)) FILE_MAX) (the_consent 0 ∷ [])
  strict : on_order has_x None (Some (told_size 1048577)) (Ok order_of_y) two ≡
      replies two (awaits.SentFile x y 384 (Some (told_size 1048577)) FILE_MAX) (the_consent 0 ∷ [])

large : AreLarge
large = record { larger = refl; largest = refl; strict = refl }

-- ---- SN8

record AreHeld : Type 0 where
  struck : on_text lenient_x awaits.SendAnswer (codes "SN8") two ≡
      replies first_struck awaits.SendAnswer (the_order order_of_second None ∷ [])
  strict : on_text has_x awaits.SendAnswer (codes "SN8") two ≡
      replies first_passed awaits.SendAnswer (the_order order_of_second None ∷ [])
  later : on_text lenient_x awaits.SendAnswer (codes "SN4") two ≡
      replies first_passed awaits.SendAnswer (the_order order_of_second None ∷ [])
  other_job : on_text lenient_x awaits.SendAnswer (codes "SN8") (ahead (request ∷ send ∷ [])) ≡
      replies (record { passed = request ∷ []; ahead = send ∷ []; struck = []; failed = [] })
      awaits.SendAnswer (the_order order_of_first None ∷ [])

held : AreHeld
held = record { struck = refl; strict = refl; later = refl; other_job = refl }

-- ---- RY, and an M behind its mode

record AreWished : Type 0 where
  comes : on_text lenient_x awaits.RequestAnswer (codes "RY 0644M 0x6") asking ≡ replies asking (awaits.AskedFile 420 None FILE_MAX) []
  strict : on_text has_x awaits.RequestAnswer (codes "RY 0644M 0x6") asking ≡ replies asking awaits.Bad []

wished : AreWished
wished = record { comes = refl; strict = refl }

-- ---- a file that can't be given now

-- may have a file q later
abbrev delays_q : Holdings
delays_q = record lenient_x { delayed = λ name. bytes_eq name (codes "q") }

record AreDelayed : Type 0 where
  later : on_text delays_q awaits.Order (codes "R q y u -") two ≡ replies two awaits.Order (the_answer answer.GiveLater ∷ [])
  never : on_text delays_q awaits.Order (codes "R z y u -") two ≡ replies two awaits.Order (the_answer answer.GiveNever ∷ [])
  there : on_text delays_q awaits.Order (codes "R x y u -") two ≡ on_text lenient_x awaits.Order (codes "R x y u -") two

delayed : AreDelayed
delayed = record { later = refl; never = refl; there = refl }

-- ---- a file past its limit

record AreDropped : Type 0 where
  sent : on_past_limit true (OfFile FILE_MAX) (awaits.SentFile x y 384 None FILE_MAX) two ≡ replies two (awaits.DroppedSentFile FILE_MAX) []
  sent_on : on_past_limit true (OfFile FILE_MAX) (awaits.DroppedSentFile FILE_MAX) two ≡ replies two (awaits.DroppedSentFile FILE_MAX) []
  asked : on_past_limit true (OfFile FILE_MAX) (awaits.AskedFile 384 None FILE_MAX) two ≡ replies two (awaits.DroppedAskedFile FILE_MAX) []
  text : on_past_limit true OfCommand awaits.Order two ≡ replies two awaits.Bad []
  strict : on_past_limit false (OfFile FILE_MAX) (awaits.SentFile x y 384 None FILE_MAX) two ≡ replies two awaits.Bad []
  sent_end : on_file lenient_x (awaits.DroppedSentFile FILE_MAX) six_bytes two ≡ replies two awaits.Order (the_answer answer.DoneNever ∷ [])
  asked_end : on_file lenient_x (awaits.DroppedAskedFile FILE_MAX) six_bytes asking ≡
      replies (record { passed = []; ahead = send ∷ []; struck = []; failed = request ∷ send_nothing ∷ [] })
      awaits.SendAnswer (the_answer answer.DoneNever ∷ the_order order_of_first None ∷ [])

dropped : AreDropped
dropped = record { sent = refl; sent_on = refl; asked = refl; text = refl; strict = refl; sent_end = refl; asked_end = refl }

-- ---- what comes before all that the end said was sent

record AreEarly : Type 0 where
  sent : reply_to has_x false (between two awaits.SentFileDone) (codes "CY" ++ 0 ∷ []) ≡ replies two awaits.Bad []
  given : reply_to has_x false (between two awaits.GivenFileDone) (codes "CY" ++ 0 ∷ []) ≡ replies two awaits.Bad []
  in_time : reply_to has_x true (between two awaits.SentFileDone) (codes "CY" ++ 0 ∷ []) ≡
      replies first_struck awaits.SendAnswer (the_order order_of_second None ∷ [])
  other : reply_to has_x false (between two awaits.NothingMore) (codes "HY" ++ 0 ∷ []) ≡ replies two awaits.NothingMore []

early : AreEarly
early = record { sent = refl; given = refl; in_time = refl; other = refl }
