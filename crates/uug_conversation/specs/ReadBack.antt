-- What is said in a conversation comes back: it may be cut into messages, is read as what was said (Taylor UUCP manual, "UUCP
-- Protocol"), and tells what was told of its file.
use Rattle.std.specs.Prelude.{◌≡◌, ℕ, ◌≤◌, List, [], ◌∷◌, length, Ok}
use Rattle.uug_talk.specs.Digests.{told_by_answer, told_by_order}
use Rattle.uug_talk.specs.Answer.{answer_of, answer_text}
use Rattle.uug_talk.specs.Chunks.{IsCommandText}
use Rattle.uug_talk.specs.Order.{order_of}
use Rattle.uug_talk.specs.declared.answer.Answer.TheVariants.{GiveYes, SendYes}
use Rattle.uug_conversation.specs.Told.{giving_said, order_said}
use Rattle.uug_conversation.specs.Turns.{Said, the_order, the_answer, the_consent, the_giving, the_file, the_refusal, Turn}
use Rattle.uug_talk.specs.Positions.{consent_text, position_told}

-- at an end that takes files of so many bytes
abbrev pub IsReadBack : (limit : ℕ) → Said → Type 0
IsReadBack limit (the_order order told) = IsCommandText (order_said order told) × (order_of (order_said order told) ≡ Ok order)
    × (told_by_order (order_said order told) ≡ told)
IsReadBack limit (the_answer answer) = IsCommandText (answer_text answer) × (answer_of (answer_text answer) ≡ Ok answer)
IsReadBack limit (the_consent position) = IsCommandText (consent_text position) × (answer_of (consent_text position) ≡ Ok SendYes)
    × (position_told (consent_text position) ≡ position)
IsReadBack limit (the_giving mode told) = IsCommandText (giving_said mode told) × (answer_of (giving_said mode told) ≡ Ok (GiveYes mode))
    × (told_by_answer (giving_said mode told) ≡ told)
IsReadBack limit (the_file bytes) = length bytes ≤ limit
-- two ends of a conversation read each other's commands, and refuse none so
IsReadBack limit (the_refusal letter) = ⊥

-- P holds of each turn
abbrev pub EachTurn : (Turn → Type 0) → List Turn → Type 0
EachTurn P [] = Unit {0}
EachTurn P (t ∷ ts) = P t × EachTurn P ts
