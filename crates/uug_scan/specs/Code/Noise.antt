-- What the code tells of some bytes, as the definitions have it: this crate's own, which no crate above needs.
use Rattle.std.specs.Prelude.{◌≡◌, ◌≢◌, ℕ, ◌+◌, ◌<◌, ◌≤◌, ◌^◌, false, List, [], ◌++◌, length, slice_index, Ok, Err, ⊤}
use Rattle.uug_packet.specs.declared.decoding.NoPacket.TheVariants as refusals
use Rattle.uug_packet.specs.declared.header.TheConstants.{CONTROL_K}
use Rattle.uug_packet.specs.Decoded.{decoded}
use Rattle.uug_packet.specs.Packet.{shown}
use Rattle.uug_reader.specs.Cut.{Part, CutsOff, found}
use Rattle.uug_talk.specs.Texts.{Heard, Passing, Open, Whole, is_whole}
use Rattle.uug_scan.specs.Listing.{HasSize}
use Rattle.uug_scan.specs.declared.noise.Noise.{Noise}
use Rattle.uug_scan.specs.declared.front.Damage.{Damage}
use Rattle.uug_scan.specs.declared.front.Damage.TheVariants as damages
use Rattle.uug_scan.specs.declared.front.Front.{Front}
use Rattle.uug_scan.specs.declared.front.Front.TheVariants as fronts
use Rattle.uug_scan.specs.Told.{What, of_packet, bad_checksum, bad_length, control_bad_checksum, Entry, Told, puts, hears, heard_with, text_size, told_of}
use Rattle.uug_scan.specs.Detailed.{entry_lines}

-- the noise behind these entries
abbrev pub told_by : Noise → List Entry → Told
told_by n entries = record { entries = entries; start = n.start; size = n.size; heard = n.hail }

-- none yet, from this place on
abbrev pub noise_at : ℕ → Noise
noise_at start = record { start = start; size = 0; hail = Passing }

-- where it ends
abbrev pub end_of : Noise → ℕ
end_of n = n.start + n.size

-- so many bytes more have places
abbrev pub HasPlaces : Noise → ℕ → Type 0
HasPlaces n size = end_of n + size < 2 ^ 64

-- how many bytes were heard of a text
abbrev pub heard_size : Heard → ℕ
heard_size Passing = 0
heard_size (Open text) = 1 + length text
heard_size (Whole text) = text_size text

-- the text that is heard lies in the noise, and is not whole
pub record Holds (n : Noise) : Type 0 where
  pub open_yet : is_whole n.hail ≡ false
  pub within : heard_size n.hail ≤ n.size

-- what a step over so many bytes tells was told, and its lines were added
pub record Tells (step : Told → Told) (size : ℕ) (old new : Noise) (before after : List ℕ) : Type 0 where
  pub told : step (told_by old []) ≡ told_by new (step (told_by old [])).entries
  pub lines : after ≡ before ++ entry_lines (step (told_by old [])).entries
  pub holds : Holds new
  pub ends : end_of new ≡ end_of old + size

-- ---- what stands at the front

abbrev pub what_of : Damage → What
what_of damages.Checksum = bad_checksum
what_of damages.Length = bad_length
what_of damages.Control = control_bad_checksum

abbrev pub IsDamaged : Damage → List ℕ → Type 0
IsDamaged damages.Checksum s = (decoded s ≡ Err refusals.BadSum) × (slice_index s 1 ≢ CONTROL_K)
IsDamaged damages.Length s = decoded s ≡ Err refusals.BadLength
IsDamaged damages.Control s = (decoded s ≡ Err refusals.BadSum) × (slice_index s 1 ≡ CONTROL_K)

-- it stands at the front of the bytes
abbrev pub IsFront : Front → List ℕ → Type 0
IsFront (fronts.Packet p n) s = decoded s ≡ Ok (shown p, n)
IsFront (fronts.Damaged damage) s = IsDamaged damage s
IsFront (fronts.Noise e) s = (decoded s ≡ Err e) × (e ≢ refusals.Short) × (e ≢ refusals.BadSum) × (e ≢ refusals.BadLength)

-- a packet's field has one of the eight sizes
abbrev pub IsSized : Front → Type 0
IsSized (fronts.Packet p n) = HasSize (found (shown p))
IsSized (fronts.Damaged damage) = ⊤
IsSized (fronts.Noise e) = ⊤

-- how many bytes it takes
abbrev pub front_size : Front → ℕ
front_size (fronts.Packet p n) = n
front_size (fronts.Damaged damage) = 1
front_size (fronts.Noise e) = 1

-- one byte more of noise
abbrev pub tells_byte : ℕ → Told → Told
tells_byte b told = hears (heard_with told.heard b) (record told { size = told.size + 1 })

-- what it tells, with its first byte
abbrev pub tells_front : Front → ℕ → Told → Told
tells_front (fronts.Packet p n) b told = puts (of_packet (shown p)) n told
tells_front (fronts.Damaged damage) b told = puts (what_of damage) 1 told
tells_front (fronts.Noise e) b told = tells_byte b told

-- The parts in front of the others were told, whatever follows the bytes, and the lines of these entries were added.
pub record AddsParts (s others : List ℕ) (old new : Noise) (before after : List ℕ) : Type 0 where
  pub parts : List Part
  pub entries : List Entry
  pub cut : CutsOff s parts others
  pub told : (t : List ℕ) → told_of parts (s ++ t) (told_by old []) ≡ told_by new entries
  pub lines : after ≡ before ++ entry_lines entries
