-- What is found next in the bytes that came to an end. Taylor UUCP manual, "UUCP Protocol" and "UUCP 'g' Protocol"; that
-- bytes in front are skipped is this project's profile.
use Rattle.std.specs.Prelude.{◌<◌, ◌≤◌, ℕ, List, [], ◌∷◌, ◌++◌, length, drop, Option, Some, None}
use Rattle.uug_packet.specs.Packet.{PacketValue}
use Rattle.uug_reader.specs.Cut.{found, bad}
use Rattle.uug_reader.specs.Search.{Search, waiting, standing, search_of}
use Rattle.uug_talk.specs.Texts.{Heard, Passing, heard_byte}
use Rattle.uug_session.specs.EndStep.{Stage, hailing, linked, ended, EndEvent, text_found, long_text_found, broken_found}
use Rattle.uug_session.specs.TextsHeld.{TextSearch, text_waits, text_stands, text_too_long, search_text, size_of_text}

pub data Finding : Type 0 where
  -- nothing: these bytes wait
  finds_nothing : (rest : List ℕ) → Finding
  -- a text, or one that is too long, or a broken packet; and the bytes behind it
  finds : EndEvent → (behind : List ℕ) → Finding
  -- a packet, the bytes from its first one on, and those behind it
  finds_packet : PacketValue → (from behind : List ℕ) → Finding

-- The bytes behind the one with which a text becomes too long, by what was heard in front of them.
abbrev pub behind_byte : (more : Heard → List ℕ) → (bytes : List ℕ) → Option Heard → List ℕ
behind_byte more bytes None = bytes
behind_byte more bytes (Some heard) = more heard

abbrev pub behind_long_text : Heard → List ℕ → List ℕ
behind_long_text heard [] = []
behind_long_text heard (b ∷ bytes) = behind_byte (λ next. behind_long_text next bytes) bytes (heard_byte heard b)

abbrev pub text_finding : List ℕ → TextSearch → Finding
text_finding bytes (text_waits rest) = finds_nothing rest
text_finding bytes (text_stands text others) = finds (text_found text) (drop (size_of_text text) others)
text_finding bytes text_too_long = finds long_text_found (behind_long_text Passing bytes)

abbrev pub item_finding : Search → Finding
item_finding (waiting rest) = finds_nothing rest
item_finding (standing (found p) size bytes) = finds_packet p bytes (drop size bytes)
item_finding (standing bad size bytes) = finds broken_found (drop size bytes)

-- texts in the greeting, items of the link behind it; an end that has ended finds nothing
abbrev pub finding : Stage → List ℕ → Finding
finding (hailing g) bytes = text_finding bytes (search_text bytes)
finding linked bytes = item_finding (search_of bytes)
finding (ended how) bytes = finds_nothing []

-- ---- with more bytes behind

-- What is found stays so where more bytes come behind; where nothing is, what waits is searched with them.
abbrev pub found_with : Stage → (more : List ℕ) → Finding → Finding
found_with stage more (finds_nothing rest) = finding stage (rest ++ more)
found_with stage more (finds event behind) = finds event (behind ++ more)
found_with stage more (finds_packet p from behind) = finds_packet p (from ++ more) (behind ++ more)

-- what is found takes at least a byte, and no byte more is held than came
abbrev pub LeavesFewer : Finding → List ℕ → Type 0
LeavesFewer (finds_nothing rest) bytes = length rest ≤ length bytes
LeavesFewer (finds event behind) bytes = length behind < length bytes
LeavesFewer (finds_packet p from behind) bytes = (length from ≤ length bytes) × (length behind < length bytes)
