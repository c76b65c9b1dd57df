-- The packets that an end leaves out before writing, of those that one event made it emit, as if a line had lost them
-- (this project's profile). The loop of a session writes all that was emitted before it handles the next event, so only
-- the entries of one event wait.
use Rattle.std.specs.Prelude.{◌≡◌, ℕ, ◌==◌, nat_lt, Bool, true, false, not, ◌&&◌, ◌||◌, ◌%◌, List, [], ◌∷◌, ◌++◌, length, drop, slice_index, Result, Ok, Err}
use Rattle.std.specs.List.{list_any, list_all}
use Rattle.std.specs.Str.{bytes_eq}
use Rattle.uug_link.specs.Entries.{EntryValue, text, packet}
use Rattle.uug_packet.specs.Decoded.{decoded}
use Rattle.uug_packet.specs.Packet.{PacketValue, control, rr}
use Rattle.uug_packet.specs.declared.decoding.NoPacket.{NoPacket}
use Rattle.uug_packet.specs.declared.header.TheConstants.{HEADER_SIZE}
use Rattle.uug_transfer.specs.declared.thinning.Thinning.{Thinning}
use Rattle.uug_transfer.specs.declared.thinning.Thinning.TheVariants.{Nothing, Repeats, RepeatsAndAcks}

-- ---- which packets

abbrev pub says_rr : PacketValue → Bool
says_rr (control (rr y)) = true
says_rr _ = false

abbrev pub is_read_as_rr : Result (PacketValue × ℕ) NoPacket → Bool
is_read_as_rr (Ok found) = says_rr found.0
is_read_as_rr (Err refusal) = false

-- an RR is a header alone, and is decoded as an RR
abbrev pub is_rr : EntryValue → Bool
is_rr (text bytes) = false
is_rr (packet bytes first) = (length bytes == HEADER_SIZE) && is_read_as_rr (decoded bytes)

-- a data packet has a field after its header
abbrev pub is_data : EntryValue → Bool
is_data (text bytes) = false
is_data (packet bytes first) = nat_lt HEADER_SIZE (length bytes)

-- a packet of these bytes
abbrev pub is_packet : List ℕ → EntryValue → Bool
is_packet bytes (text other) = false
is_packet bytes (packet other first) = bytes_eq other bytes

-- a packet of these bytes that is sent again
abbrev pub is_sent_again : List ℕ → EntryValue → Bool
is_sent_again bytes (text other) = false
is_sent_again bytes (packet other first) = not first && bytes_eq other bytes

-- ---- what is left out

-- a data packet that goes out again later; so what remains is in the order in which each was sent last
abbrev pub is_repeated : EntryValue → (behind : List EntryValue) → Bool
is_repeated (text bytes) behind = false
is_repeated (packet bytes first) behind = nat_lt HEADER_SIZE (length bytes) && list_any (is_sent_again bytes) behind

-- the number that a packet acknowledges is in the three low bits of its fifth byte
abbrev pub acknowledged : List ℕ → ℕ
acknowledged bytes = slice_index bytes 4 % 8

-- a new data packet that acknowledges the same as this header
abbrev pub acknowledges : (header : List ℕ) → EntryValue → Bool
acknowledges header (text bytes) = false
acknowledges header (packet bytes first) =
    first && (nat_lt HEADER_SIZE (length bytes) && (acknowledged bytes == acknowledged header))

abbrev pub is_said_by : EntryValue → (carrier : EntryValue) → Bool
is_said_by (text bytes) carrier = false
is_said_by (packet bytes first) carrier = (length bytes == HEADER_SIZE) && acknowledges bytes carrier

-- An RR that the entries directly after it make superfluous. They are a new data packet that acknowledges the same, and
-- is sent again until it is acknowledged; or two entries, of which one may get lost: two more RRs, or one more RR and a
-- new data packet that acknowledges the same as that RR.
abbrev pub is_covered : EntryValue → (behind : List EntryValue) → Bool
is_covered entry [] = false
is_covered entry (next ∷ []) = is_rr entry && is_said_by entry next
is_covered entry (next ∷ last ∷ behind) =
    is_rr entry && (is_said_by entry next || (is_rr next && (is_rr last || is_said_by next last)))

abbrev pub is_left_out : Thinning → EntryValue → (behind : List EntryValue) → Bool
is_left_out Nothing entry behind = false
is_left_out Repeats entry behind = is_repeated entry behind
is_left_out RepeatsAndAcks entry behind = is_repeated entry behind || is_covered entry behind

abbrev pub unless_left_out : (left_out : Bool) → EntryValue → List EntryValue → List EntryValue
unless_left_out true entry behind = behind
unless_left_out false entry behind = entry ∷ behind

-- the entries that remain of those that an event made an end emit
abbrev pub thinned : Thinning → List EntryValue → List EntryValue
thinned thinning [] = []
thinned thinning (entry ∷ behind) = unless_left_out (is_left_out thinning entry behind) entry (thinned thinning behind)

-- ---- what remains

-- the entries that a line lets through, if it loses those for which `lost` says so
abbrev pub let_through : (lost : List Bool) → List EntryValue → List EntryValue
let_through [] entries = entries
let_through (gone ∷ lost) [] = []
let_through (gone ∷ lost) (entry ∷ entries) = unless_left_out gone entry (let_through lost entries)

-- some line lets exactly these entries through
abbrev pub IsLetThrough : (entries remaining : List EntryValue) → Type 0
IsLetThrough entries remaining = (lost : List Bool) × (let_through lost entries ≡ remaining)

-- the first of these entries that remains is an RR, and only RRs precede it
pub record RemainsRr (thinning : Thinning) (entries : List EntryValue) : Type 0 where
  pub passed : List EntryValue
  pub last : EntryValue
  pub behind : List EntryValue
  pub remaining : List EntryValue
  pub parts : entries ≡ passed ++ last ∷ behind
  pub only_rrs : list_all is_rr passed ≡ true
  pub is : is_rr last ≡ true
  pub remains : thinned thinning entries ≡ last ∷ remaining

-- After this RR and perhaps more RRs there is a new data packet that acknowledges the same as the last RR. It remains,
-- or an equal packet after it does.
pub record RemainsData (thinning : Thinning) (entry : EntryValue) (behind : List EntryValue) : Type 0 where
  pub passed : List EntryValue
  pub last : EntryValue
  pub carrier : EntryValue
  pub rest : List EntryValue
  pub parts : entry ∷ behind ≡ passed ++ last ∷ carrier ∷ rest
  pub only_rrs : list_all is_rr passed ≡ true
  pub is : is_rr last ≡ true
  pub says : is_said_by last carrier ≡ true
  pub remains : (bytes : List ℕ) → is_packet bytes carrier ≡ true → list_any (is_packet bytes) (thinned thinning (carrier ∷ rest)) ≡ true

-- ---- how the program computes it: from the entries at a place and after it

abbrev pub is_repeated_of : List EntryValue → Bool
is_repeated_of [] = false
is_repeated_of (entry ∷ behind) = is_repeated entry behind

abbrev pub is_covered_of : List EntryValue → Bool
is_covered_of [] = false
is_covered_of (entry ∷ behind) = is_covered entry behind

abbrev pub is_left_out_of : Thinning → List EntryValue → Bool
is_left_out_of thinning [] = false
is_left_out_of thinning (entry ∷ behind) = is_left_out thinning entry behind

-- whether the entry at a place is left out
abbrev pub is_left_out_at : Thinning → List EntryValue → ℕ → Bool
is_left_out_at thinning entries i = is_left_out_of thinning (drop i entries)
