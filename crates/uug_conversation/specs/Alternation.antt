-- Whose turn it is (Taylor UUCP manual, "UUCP Protocol").
use Rattle.std.specs.Prelude.{◌≡◌, ◌⊎◌, ⊤, ℕ, List, [], ◌∷◌, Option}
use Rattle.uug_talk.specs.declared.file_digest.FileDigest.{FileDigest}
use Rattle.uug_talk.specs.declared.answer.Answer.TheVariants.{DoneYes, DoneNever, HangNo}
use Rattle.uug_talk.specs.declared.order.Order.{Order}
use Rattle.uug_conversation.specs.Turns.{other, Said, the_order, the_answer, the_giving, the_file, Turn}
use Rattle.uug_conversation.specs.declared.side.Side.{Side}

-- Who has said the first goes on with the second: a file follows its RY, and a command the same end's CY, CN5 or HN.
pub data GoesOn : Said → Said → Type 0 where
  with_file : {mode : ℕ} {told : Option FileDigest} {bytes : List ℕ} → GoesOn (the_giving mode told) (the_file bytes)
  after_done : {order : Order} {told : Option FileDigest} → GoesOn (the_answer DoneYes) (the_order order told)
  after_never : {order : Order} {told : Option FileDigest} → GoesOn (the_answer DoneNever) (the_order order told)
  after_no : {order : Order} {told : Option FileDigest} → GoesOn (the_answer HangNo) (the_order order told)

-- the other speaks next, or the same end goes on
abbrev pub SpeaksNext : (t next : Turn) → Type 0
SpeaksNext t next = (next.speaker ≡ other t.speaker) ⊎ ((next.speaker ≡ t.speaker) × GoesOn t.said next.said)

abbrev pub IsFollowedBy : Turn → List Turn → Type 0
IsFollowedBy t [] = ⊤
IsFollowedBy t (next ∷ ts) = SpeaksNext t next

abbrev pub Alternate : List Turn → Type 0
Alternate [] = ⊤
Alternate (t ∷ ts) = IsFollowedBy t ts × Alternate ts

-- this side speaks first, and begins with a command
abbrev pub BeginsWithCommand : Side → List Turn → Type 0
BeginsWithCommand side [] = ⊥
BeginsWithCommand side (t ∷ ts) = (t.speaker ≡ side) × (order : Order) × (told : Option FileDigest) × (t.said ≡ the_order order told)
