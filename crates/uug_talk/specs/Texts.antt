-- The handshake texts in a stream of bytes (Taylor UUCP manual, "UUCP Protocol"; that a line feed ends
-- a text, that bytes before a text are skipped and that a 0x10 inside a text restarts it is this
-- project's profile).
use Rattle.std.specs.Prelude.{◌≡◌, ◌≢◌, ◌==◌, ◌||◌, ℕ, ◌+◌, ◌≤◌, Bool, true, false, List, [], ◌∷◌, ◌++◌, length, All, nat_lt, IsTrue, ◌⊎◌, Option, Some, None, option_and_then, if◌then◌else◌}
use Rattle.uug_talk.specs.declared.hail.TheConstants.{HAIL_MAX, TEXT_START}

-- the byte that ends a text: zero or a line feed
abbrev pub IsEnd : ℕ → Type 0
IsEnd b = (b ≡ 0) ⊎ (b ≡ 10)

-- a text as it is written: behind a start byte, and ended by zero
abbrev pub written_text : List ℕ → List ℕ
written_text text = TEXT_START ∷ text ++ 0 ∷ []

-- a byte of a text
pub record IsPlain (b : ℕ) : Type 0 where
  pub no_start : b ≢ TEXT_START
  pub no_zero : b ≢ 0
  pub no_line_feed : b ≢ 10

-- the stream ends with this text: a start byte, the text, an end byte
pub record Closes (stream text : List ℕ) : Type 0 where
  pub before : List ℕ
  pub last : ℕ
  pub spelled : stream ≡ before ++ TEXT_START ∷ text ++ last ∷ []
  pub plain : All IsPlain text
  pub ends : IsEnd last

-- the stream ends where a text is one byte past the limit
pub record Overflows (stream : List ℕ) : Type 0 where
  pub before : List ℕ
  pub text : List ℕ
  pub spelled : stream ≡ before ++ TEXT_START ∷ text
  pub plain : All IsPlain text
  pub long : length text ≡ HAIL_MAX + 1

-- no front of the stream, and not the stream itself, ends with a text or where one is too long
pub record IsUnsettled (stream : List ℕ) : Type 0 where
  pub no_text : (front rest text : List ℕ) → stream ≡ front ++ rest → ¬ Closes front text
  pub in_limit : (front rest : List ℕ) → stream ≡ front ++ rest → ¬ Overflows front

-- the stream ends with its first text
pub record IsFirstText (stream text : List ℕ) : Type 0 where
  pub front : List ℕ
  pub last : ℕ
  pub one_more : stream ≡ front ++ last ∷ []
  pub unsettled : IsUnsettled front
  pub closes : Closes stream text

-- the stream ends where its first text is too long
pub record IsTooLong (stream : List ℕ) : Type 0 where
  pub front : List ℕ
  pub last : ℕ
  pub one_more : stream ≡ front ++ last ∷ []
  pub unsettled : IsUnsettled front
  pub overflows : Overflows stream

-- what was heard: nothing of a text, the front of one, or a whole one
pub data Heard : Type 0 where
  Passing : Heard
  Open : List ℕ → Heard
  Whole : List ℕ → Heard

-- the stream ends inside a text, of which this has come
pub record HearsOpen (stream text : List ℕ) : Type 0 where
  pub before : List ℕ
  pub spelled : stream ≡ before ++ TEXT_START ∷ text
  pub plain : All IsPlain text
  pub short : length text ≤ HAIL_MAX
  pub unsettled : IsUnsettled stream

-- what was heard of a stream
abbrev pub Holds : Heard → List ℕ → Type 0
Holds Passing stream = All (λ b. b ≢ TEXT_START) stream
Holds (Open text) stream = HearsOpen stream text
Holds (Whole text) stream = IsFirstText stream text

abbrev pub is_whole : Heard → Bool
is_whole Passing = false
is_whole (Open text) = false
is_whole (Whole text) = true

abbrev pub IsWhole : Heard → Type 0
IsWhole heard = IsTrue (is_whole heard)

-- how many bytes wait: those of a text that is not whole, from its start byte on
abbrev pub waiting_of : Heard → ℕ
waiting_of Passing = 0
waiting_of (Open text) = 1 + length text
waiting_of (Whole text) = 0

-- what is left to hear: the bytes, and one more where a text is whole
abbrev pub left_to_hear : Heard → List ℕ → ℕ
left_to_hear heard bytes = length bytes + (if is_whole heard then 1 else 0)

-- what `write_hail` writes as a text
pub record IsHailText (text : List ℕ) : Type 0 where
  pub short : length text ≤ HAIL_MAX
  pub plain : All IsPlain text

-- Hearing, as a function.

-- what is heard with one byte more, and nothing where the text is then too long
abbrev pub heard_byte : Heard → ℕ → Option Heard
heard_byte Passing b = if b == TEXT_START then Some (Open []) else Some Passing
heard_byte (Open text) b =
    if b == TEXT_START then Some (Open []) else
    (if (b == 0) || (b == 10) then Some (Whole text) else
    (if nat_lt (length text) HAIL_MAX then Some (Open (text ++ b ∷ [])) else None))
heard_byte (Whole text) b = Some (Whole text)

-- one byte more was used
abbrev pub one_used : ℕ × Heard → Option (ℕ × Heard)
one_used found = Some (1 + found.0, found.1)

-- so many bytes were used before
abbrev pub used_before : ℕ → Option (ℕ × Heard) → Option (ℕ × Heard)
used_before n None = None
used_before n (Some found) = Some (n + found.0, found.1)

-- how many bytes are used, and what is then heard: a whole text uses no more
abbrev pub hear : Heard → List ℕ → Option (ℕ × Heard)
hear heard [] = Some (0, heard)
hear heard (b ∷ bs) =
    if is_whole heard then Some (0, heard) else
    option_and_then (λ next. option_and_then one_used (hear next bs)) (heard_byte heard b)
