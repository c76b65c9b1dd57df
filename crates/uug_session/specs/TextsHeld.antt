-- The bytes that came in the greeting and were not read yet, and the search for the first text in them. Taylor UUCP
-- manual, "UUCP Protocol"; that bytes in front of a text are skipped is this project's profile.
use Rattle.std.specs.Prelude.{◌≡◌, ℕ, ◌+◌, ◌-◌, ◌≤◌, Bool, true, false, List, [], length, take, drop, Option, Some, None, IfSome}
use Rattle.uug_reader.specs.declared.reader.TheConstants.{READER_SIZE}
use Rattle.uug_talk.specs.Texts.{Heard, Passing, Open, Whole, IsFirstText, hear, waiting_of}

pub record TextsHeld : Type 0 where
  pub bytes : List ℕ
  -- how many of them the text takes that is shown, with the byte in front of it and the one that ends it; 0 where none is
  pub shown_size : ℕ

-- as it is made, or cleared
abbrev pub nothing_held : TextsHeld
nothing_held = record { bytes = []; shown_size = 0 }

-- what a search finds
pub data TextSearch : Type 0 where
  -- no text is whole: what waits is the front of one, or nothing
  text_waits : (rest : List ℕ) → TextSearch
  -- a text stands first among the others
  text_stands : (text : List ℕ) → (others : List ℕ) → TextSearch
  -- the first text is too long
  text_too_long : TextSearch

-- the bytes that a text takes: a start byte, its own, an end byte
abbrev pub size_of_text : List ℕ → ℕ
size_of_text text = length text + 2

abbrev pub search_by : List ℕ → ℕ → Heard → TextSearch
search_by bytes used Passing = text_waits []
search_by bytes used (Open text) = text_waits (drop (used - waiting_of (Open text)) bytes)
search_by bytes used (Whole text) = text_stands text (drop (used - size_of_text text) bytes)

abbrev pub search_heard : List ℕ → Option (ℕ × Heard) → TextSearch
search_heard bytes None = text_too_long
search_heard bytes (Some heard) = search_by bytes heard.0 heard.1

abbrev pub search_text : List ℕ → TextSearch
search_text bytes = search_heard bytes (hear Passing bytes)

-- what is held and shown then
abbrev pub after_text_search : TextSearch → TextsHeld
after_text_search (text_waits rest) = record { bytes = rest; shown_size = 0 }
after_text_search (text_stands text others) = record { bytes = others; shown_size = size_of_text text }
after_text_search text_too_long = record { bytes = []; shown_size = 0 }

-- this text stands first and is shown
pub record ShowsText (text : List ℕ) (held : TextsHeld) : Type 0 where
  pub size : held.shown_size ≡ size_of_text text
  pub within : held.shown_size ≤ length held.bytes
  pub first : IsFirstText (take held.shown_size held.bytes) text

-- the text that is shown: what stands between its start byte and its end byte
abbrev pub shown_text : TextsHeld → List ℕ
shown_text held = take (held.shown_size - 2) (drop 1 held.bytes)

-- what a search found that left this, by whether a text is whole
abbrev pub search_left : (found : Bool) → TextsHeld → TextSearch
search_left true held = text_stands (shown_text held) held.bytes
search_left false held = text_waits held.bytes

-- ---- the fields

-- the bytes that a text of this length takes that is shown
abbrev pub size_shown : Option ℕ → ℕ
size_shown None = 0
size_shown (Some len) = len + 2

abbrev pub held_as : (bytes : List ℕ) → (shown : Option ℕ) → TextsHeld
held_as bytes shown = record { bytes = bytes; shown_size = size_shown shown }

-- where a text is shown, it stands first
abbrev pub ShowsFirst : List ℕ → Option ℕ → Type 0
ShowsFirst bytes shown = IfSome shown (λ len. ShowsText (take len (drop 1 bytes)) (held_as bytes (Some len)))

-- a buffer with these bytes and this capacity, and how long the text is that is shown
pub record KeepsTexts (bytes : List ℕ) (capacity : ℕ) (shown : Option ℕ) : Type 0 where
  pub fits : length bytes ≤ READER_SIZE
  pub room : READER_SIZE ≤ capacity
  pub first : ShowsFirst bytes shown
