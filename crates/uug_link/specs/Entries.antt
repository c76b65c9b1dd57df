-- What an outbox holds.
use Rattle.std.specs.Prelude.{◌≡◌, ℕ, zero, suc, ◌/◌, ◌≤◌, min, Bool, List, [], ◌∷◌, ◌++◌, slice_range}
use Rattle.uug_link.specs.declared.entry.Entry.{Entry}
use Rattle.uug_link.specs.declared.entry.Entry.TheVariants as entries
use Rattle.uug_link.specs.declared.entry.EntryKind.{EntryKind}
use Rattle.uug_link.specs.declared.entry.EntryKind.TheVariants as kinds
use Rattle.uug_link.specs.declared.entry.Mark.{Mark}
use Rattle.uug_packet.specs.declared.packet.TheConstants.{PACKET_MAX}

-- one thing that an end emitted: a text of the handshake, or a packet, and then whether it is a data packet that
-- is sent for the first time
pub data EntryValue : Type 0 where
  text : (bytes : List ℕ) → EntryValue
  packet : (bytes : List ℕ) → (first : Bool) → EntryValue

abbrev pub bytes_of : EntryValue → List ℕ
bytes_of (text bytes) = bytes
bytes_of (packet bytes _) = bytes

-- the bytes of all entries, joined
abbrev pub joined : List EntryValue → List ℕ
joined [] = []
joined (e ∷ es) = bytes_of e ++ joined es

-- what an entry of the program says
abbrev pub shown_entry : Entry → EntryValue
shown_entry (entries.Text bytes) = text bytes.now
shown_entry (entries.Packet bytes first) = packet bytes.now first

-- An outbox: the entries that were emitted and not yet cleared, oldest first, and how many entries of at most
-- PACKET_MAX bytes it takes before it needs memory.
pub record Held : Type 0 where
  pub entries : List EntryValue
  pub spare : ℕ

-- ---- how the program keeps them: all bytes joined, and where each entry ends

abbrev pub entry_of : EntryKind → List ℕ → EntryValue
entry_of kinds.Text bytes = text bytes
entry_of (kinds.Packet first) bytes = packet bytes first

abbrev pub entries_from : ℕ → List Mark → List ℕ → List EntryValue
entries_from start [] bytes = []
entries_from start (m ∷ marks) bytes =
    entry_of m.kind (slice_range bytes start m.end) ∷ entries_from m.end marks bytes

-- the marks cut what lies between the two places
abbrev pub AreCuts : ℕ → List Mark → ℕ → Type 0
AreCuts start [] total = start ≡ total
AreCuts start (m ∷ marks) total = (start ≤ m.end) × AreCuts m.end marks total

-- where the entry at a place begins
abbrev pub start_at : ℕ → List Mark → ℕ → ℕ
start_at start marks zero = start
start_at start [] (suc i) = start
start_at start (m ∷ marks) (suc i) = start_at m.end marks i

-- how many entries of PACKET_MAX bytes find room, by the room for bytes and for marks
abbrev pub spare_of : ℕ → ℕ → ℕ
spare_of bytes marks = min (bytes / PACKET_MAX) marks
