-- The detailed listing of a stream (this project's profile): a line for each entry, with the place of its bytes.
use Rattle.std.specs.Prelude.{◌≡◌, ℕ, ◌+◌, ◌/◌, ◌%◌, ◌==◌, ◌&&◌, ◌||◌, not, Bool, List, [], ◌∷◌, ◌++◌, codes, Option, Some, None, if◌then◌else◌, ⊤}
use Rattle.std.specs.Char.{digit_char, is_ascii_graphic}
use Rattle.std.specs.Fmt.{decimal}
use Rattle.uug_reader.specs.Cut.{Part, IsCut}
use Rattle.uug_scan.specs.Listing.{ended, packet_text}
use Rattle.uug_scan.specs.Told.{What, of_packet, bad_checksum, bad_length, control_bad_checksum, of_text, of_noise, of_rest, Entry, entries_of}

-- a byte of a text that can be seen, or is a space, stands for itself; another, and a backslash, is written in hex
abbrev pub is_plain : ℕ → Bool
is_plain b = (is_ascii_graphic b || b == 32) && not (b == 92)

abbrev pub byte_words : (plain : Bool) → ℕ → List ℕ
byte_words plain b = if plain then b ∷ [] else codes "\\x" ++ (digit_char (b / 16) ∷ digit_char (b % 16) ∷ [])

abbrev pub escaped : List ℕ → List ℕ
escaped [] = []
escaped (b ∷ bs) = byte_words (is_plain b) b ++ escaped bs

-- the words that the plain listing has, where it has a line
abbrev pub plain_words : What → (size : ℕ) → Option (List ℕ)
plain_words (of_packet p) size = Some (packet_text p)
plain_words bad_checksum size = Some (codes "BAD")
plain_words bad_length size = Some (codes "BAD")
plain_words control_bad_checksum size = None
plain_words (of_text text) size = None
plain_words of_noise size = None
plain_words of_rest size = Some (codes "REST " ++ decimal size)

-- the words that are added: behind those, or in a line that is added
abbrev pub added_words : What → (size : ℕ) → List ℕ
added_words (of_packet p) size = []
added_words bad_checksum size = codes " checksum"
added_words bad_length size = codes " length"
added_words control_bad_checksum size = codes "CONTROL BAD checksum"
added_words (of_text text) size = codes "TEXT " ++ escaped text
added_words of_noise size = codes "NOISE " ++ decimal size
added_words of_rest size = []

-- and the place, in each line
abbrev pub place_words : (at size : ℕ) → List ℕ
place_words at size = codes " AT " ++ decimal at ++ codes " LENGTH " ++ decimal size

abbrev pub words_or_none : Option (List ℕ) → List ℕ
words_or_none (Some words) = words
words_or_none None = []

abbrev pub entry_line : Entry → List ℕ
entry_line e = ended (words_or_none (plain_words e.what e.size) ++ (added_words e.what e.size ++ place_words e.at e.size))

abbrev pub entry_lines : List Entry → List ℕ
entry_lines [] = []
entry_lines (e ∷ entries) = entry_line e ++ entry_lines entries

-- the text is the detailed listing of the stream, by the one way to cut it
pub record IsDetailed (s text : List ℕ) : Type 0 where
  pub parts : List Part
  pub rest : List ℕ
  pub cut : IsCut s parts rest
  pub text_is : text ≡ entry_lines (entries_of s parts rest)

-- ---- what its laws speak of

-- the lines of the plain listing: without the added ones, and without the added words
abbrev pub line_of_words : Option (List ℕ) → List ℕ
line_of_words (Some words) = ended words
line_of_words None = []

abbrev pub plain_lines : List Entry → List ℕ
plain_lines [] = []
plain_lines (e ∷ entries) = line_of_words (plain_words e.what e.size) ++ plain_lines entries

-- each entry begins where the one before it ends, from the one place to the other
abbrev pub Adjoin : ℕ → List Entry → ℕ → Type 0
Adjoin start [] end = start ≡ end
Adjoin start (e ∷ entries) end = (e.at ≡ start) × Adjoin (start + e.size) entries end

-- where the output tells what was written, the detailed listing of the bytes was appended
abbrev pub AppendsDetailed : List ℕ → Option (List ℕ) → Option (List ℕ) → Type 0
AppendsDetailed s None after = ⊤
AppendsDetailed s (Some before) after = (text : List ℕ) × IsDetailed s text × (after ≡ Some (before ++ text))
