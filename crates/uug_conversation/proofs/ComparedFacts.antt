-- What an end does that compares digests, worked out by hand.
use Rattle.std.proofs.Common.{◌≡◌, ℕ, true, List, [], ◌∷◌, codes, drop, Option, Some, None, refl, ap}
use Rattle.hex.proofs.OnLiterals.{hex_on_literals}
use Rattle.uug_talk.specs.Digests.{digest_of, told_by_answer, told_by_order}
use Rattle.uug_talk.specs.declared.file_digest.FileDigest.{FileDigest}
use Rattle.uug_talk.specs.declared.answer.Answer.TheVariants as answer
use Rattle.uug_talk.specs.declared.gather.TheConstants.{FILE_MAX}
use Rattle.uug_conversation.specs.declared.awaits.Awaits.TheVariants as awaits
use Rattle.uug_conversation.specs.Holdings.{Holdings, kept_file}
use Rattle.uug_conversation.specs.Machine.{replies, keeps, opening, on_text, on_file, on_sent_file}
use Rattle.uug_conversation.specs.Told.{fits, outcome}
use Rattle.uug_conversation.specs.Turns.{the_answer, the_consent, the_giving, the_file, the_order}
use Rattle.uug_conversation.specs.declared.side.Side.TheVariants.{Caller}
use Rattle.uug_conversation.proofs.FactParties.{Exception, fixed, no_exception, q, send, six_bytes, y}
use Rattle.uug_conversation.proofs.MachineFacts.{ahead, asking, has_x, has_x_but, order_of_first, two}
use Rattle.uug_conversation.proofs.ToldLemmas.{fits_decides}

abbrev comparing : Exception → Holdings
comparing exception = record (has_x_but exception) { digests = true }

abbrev telling_x : Holdings
telling_x = comparing no_exception

abbrev telling_send : List ℕ
telling_send = codes "S q y u - D.0 0600 \"\" 0x00000003 sha256:ba7816bf8f01cfea414140de5dae2223b00361a396177a9cb410ff61f20015ad"

abbrev telling_answer : List ℕ
telling_answer = codes "RY 0600 \"\" 0x00000003 sha256:ba7816bf8f01cfea414140de5dae2223b00361a396177a9cb410ff61f20015ad"

record IsHeard : Type 0 where
  send : on_text telling_x awaits.Order telling_send (ahead []) ≡
      replies (ahead []) (awaits.SentFile q y 384 (told_by_order telling_send) FILE_MAX) (the_consent 0 ∷ [])
  none_told : on_text telling_x awaits.Order (codes "S q y u - D.0 0600") (ahead []) ≡
      replies (ahead []) (awaits.SentFile q y 384 None FILE_MAX) (the_consent 0 ∷ [])
  not_heard : on_text has_x awaits.Order telling_send (ahead []) ≡
      replies (ahead []) (awaits.SentFile q y 384 None FILE_MAX) (the_consent 0 ∷ [])
  answer : on_text telling_x awaits.RequestAnswer telling_answer asking ≡
      replies asking (awaits.AskedFile 384 (told_by_answer telling_answer) FILE_MAX) []
  size_alone : on_text telling_x awaits.RequestAnswer (codes "RY 0600 0x6") asking ≡ replies asking (awaits.AskedFile 384 None FILE_MAX) []

heard_so : IsHeard
unfolding hex_on_literals
heard_so = record { send = refl; none_told = refl; not_heard = refl; answer = refl; size_alone = refl }

-- what is told of the six bytes, and of five
abbrev of_six : Option FileDigest
of_six = Some (digest_of six_bytes)

abbrev of_five : Option FileDigest
of_five = Some (record { size = 5; hash = [] })

record AreCompared : Type 0 where
  same : on_file telling_x (awaits.SentFile q y 384 of_six FILE_MAX) six_bytes two ≡
      keeps (kept_file y 384 six_bytes) (replies two awaits.Order (the_answer answer.DoneYes ∷ []))
  same_fixed : on_file (comparing (fixed y)) (awaits.SentFile q y 384 of_six FILE_MAX) six_bytes two ≡
      replies two awaits.Order (the_answer answer.DoneNever ∷ [])
  other : on_file telling_x (awaits.SentFile q y 384 of_five FILE_MAX) six_bytes two ≡
      replies two awaits.Order (the_answer answer.DoneLater ∷ [])
  other_fixed : on_file (comparing (fixed y)) (awaits.SentFile q y 384 of_five FILE_MAX) six_bytes two ≡
      replies two awaits.Order (the_answer answer.DoneLater ∷ [])
  none_told : on_file telling_x (awaits.SentFile q y 384 None FILE_MAX) six_bytes two ≡
      keeps (kept_file y 384 six_bytes) (replies two awaits.Order (the_answer answer.DoneYes ∷ []))

six_fit : fits of_six six_bytes ≡ true
six_fit = (fits_decides (digest_of six_bytes) six_bytes).1 refl

compared : AreCompared
compared = record {
  same = ap (λ z. on_sent_file (outcome z (telling_x.immovable y)) (kept_file y 384 six_bytes) two) six_fit;
  same_fixed = ap (λ z. on_sent_file (outcome z ((comparing (fixed y)).immovable y)) (kept_file y 384 six_bytes) two) six_fit;
  other = refl;
  other_fixed = refl;
  none_told = refl;
}

record AreTold : Type 0 where
  with_send : opening Caller telling_x (ahead (send ∷ [])) ≡
      replies (ahead (send ∷ [])) awaits.SendAnswer (the_order order_of_first of_six ∷ [])
  with_giving : on_text telling_x awaits.Order (codes "R x y u -") (ahead []) ≡
      replies (ahead []) awaits.GivenFileDone (the_giving 420 of_six ∷ the_file six_bytes ∷ [])

told_so : AreTold
told_so = record { with_send = refl; with_giving = refl }

-- from which byte on a file is sent
record AreRests : Type 0 where
  whole : on_text telling_x awaits.SendAnswer (codes "SY") two ≡ replies two awaits.SentFileDone (the_file six_bytes ∷ [])
  rest : on_text telling_x awaits.SendAnswer (codes "SY 0x00000002") two ≡ replies two awaits.SentFileDone (the_file (drop 2 six_bytes) ∷ [])
  end : on_text telling_x awaits.SendAnswer (codes "SY 0x6") two ≡ replies two awaits.SentFileDone (the_file [] ∷ [])
  beyond : on_text telling_x awaits.SendAnswer (codes "SY 0x7") two ≡ replies two awaits.Bad []
  no_position : on_text telling_x awaits.SendAnswer (codes "SY 2") two ≡ replies two awaits.SentFileDone (the_file six_bytes ∷ [])
  untold : on_text has_x awaits.SendAnswer (codes "SY 0x00000002") two ≡ replies two awaits.SentFileDone (the_file six_bytes ∷ [])

rests : AreRests
rests = record { whole = refl; rest = refl; end = refl; beyond = refl; no_position = refl; untold = refl }
