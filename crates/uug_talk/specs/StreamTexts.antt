-- All the handshake texts of a stream (Taylor UUCP manual, "UUCP Protocol"; how they are told apart is
-- this project's profile).
use Rattle.std.specs.Prelude.{◌≡◌, ℕ, zero, suc, List, [], ◌∷◌, ◌++◌, length, drop, Option, Some, None}
use Rattle.uug_talk.specs.Texts.{IsUnsettled, IsFirstText, IsTooLong, Heard, Passing, Open, Whole, hear}

-- what stands behind the texts: bytes that hold no further one, or one that is too long
pub data TextsEnd : Type 0 where
  Rest : List ℕ → TextsEnd
  TooLong : TextsEnd

-- the texts of a stream, in order, and what stands behind them
pub record StreamTexts : Type 0 where
  pub texts : List (List ℕ)
  pub end : TextsEnd

-- the texts stand one after another, each the first of what is behind the one before, and then the rest
abbrev pub StandBefore : List (List ℕ) → List ℕ → List ℕ → Type 0
StandBefore [] rest stream = stream ≡ rest
StandBefore (text ∷ texts) rest stream = (front : List ℕ) × (behind : List ℕ) × (stream ≡ front ++ behind) × IsFirstText front text × StandBefore texts rest behind

-- the rest holds no text, or the first in it is too long
abbrev pub EndsAs : TextsEnd → List ℕ → Type 0
EndsAs (Rest bytes) rest = (rest ≡ bytes) × IsUnsettled rest
EndsAs TooLong rest = (front : List ℕ) × (behind : List ℕ) × (rest ≡ front ++ behind) × IsTooLong front

-- the stream has these texts, and no others
pub record HasTexts (stream : List ℕ) (found : StreamTexts) : Type 0 where
  pub rest : List ℕ
  pub before : StandBefore found.texts rest stream
  pub ends : EndsAs found.end rest

-- The same as a function: what is heard first, and then the texts behind it.

abbrev pub with_text : List ℕ → StreamTexts → StreamTexts
with_text text found = record { texts = text ∷ found.texts; end = found.end }

abbrev pub no_text : TextsEnd → StreamTexts
no_text end = record { texts = []; end = end }

abbrev pub texts_behind : (List ℕ → StreamTexts) → List ℕ → ℕ → Heard → StreamTexts
texts_behind more stream used Passing = no_text (Rest stream)
texts_behind more stream used (Open text) = no_text (Rest stream)
texts_behind more stream used (Whole text) = with_text text (more (drop used stream))

abbrev pub texts_heard : (List ℕ → StreamTexts) → List ℕ → Option (ℕ × Heard) → StreamTexts
texts_heard more stream None = no_text TooLong
texts_heard more stream (Some found) = texts_behind more stream found.0 found.1

-- no more than n texts
abbrev pub texts_up_to : ℕ → List ℕ → StreamTexts
texts_up_to zero stream = no_text (Rest stream)
texts_up_to (suc n) stream = texts_heard (texts_up_to n) stream (hear Passing stream)

-- there are no more texts than bytes
abbrev pub texts_of : List ℕ → StreamTexts
texts_of stream = texts_up_to (length stream) stream

-- with more bytes behind the stream: those of the rest with them behind, or none behind one that is too long
abbrev pub continued_by : TextsEnd → List (List ℕ) → List ℕ → StreamTexts
continued_by (Rest rest) texts more = record { texts = texts ++ (texts_of (rest ++ more)).texts; end = (texts_of (rest ++ more)).end }
continued_by TooLong texts more = record { texts = texts; end = TooLong }

abbrev pub continued : StreamTexts → List ℕ → StreamTexts
continued found more = continued_by found.end found.texts more
