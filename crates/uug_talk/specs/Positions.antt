-- From which byte on a file is to be sent: a number behind SY (that it stands there, `SY 0xPOS`, is of the Taylor UUCP manual,
-- "UUCP Protocol"; when it is said is this project's profile).
use Rattle.std.specs.Prelude.{◌==◌, ◌&&◌, ℕ, zero, suc, List, [], ◌∷◌, ◌++◌, codes, Option, Some, None, if◌then◌else◌}
use Rattle.std.specs.Int.{to_be_bytes, w32}
use Rattle.hex.specs.Hex.{encode_lower}
use Rattle.uug_talk.specs.Digests.{size_told}
use Rattle.uug_talk.specs.Answer.{answer_text}
use Rattle.uug_talk.specs.Words.{joined, words}
use Rattle.uug_talk.specs.declared.answer.Answer.TheVariants.{SendYes}

-- ---- written

-- `SY 0xPOS`, the position in eight hexadecimal digits
abbrev pub resuming_words : (position : ℕ) → List (List ℕ)
resuming_words position = codes "SY" ∷ (codes "0x" ++ encode_lower (to_be_bytes w32 position)) ∷ []

-- a file that is sent from its first byte on is answered with `SY` alone
abbrev pub consent_text : (position : ℕ) → List ℕ
consent_text zero = answer_text SendYes
consent_text (suc n) = joined (resuming_words (suc n))

-- ---- read

abbrev pub or_first : Option ℕ → ℕ
or_first None = 0
or_first (Some position) = position

-- where the word behind SY is no position, the file is sent from its first byte on
abbrev pub position_in : List (List ℕ) → ℕ
position_in [] = 0
position_in (word ∷ more) = or_first (size_told word)

-- by the words of an answer, of which SY alone tells a position
abbrev pub position_by_words : List (List ℕ) → ℕ
position_by_words ((a ∷ b ∷ letters) ∷ more) = if (a == 83) && (b == 89) then position_in more else 0
position_by_words _ = 0

abbrev pub position_told : (text : List ℕ) → ℕ
position_told text = position_by_words (words text)
