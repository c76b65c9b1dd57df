-- The bytes that go out of what an end has emitted (this project's profile).
use Rattle.std.specs.Prelude.{ℕ, ◌+◌, ◌-◌, ◌^◌, min, List, [], ◌∷◌, ◌++◌, length, take, drop, map, bit_xor, Option}
use Rattle.uug_link.specs.Entries.{EntryValue, text, packet}
use Rattle.uug_transfer.specs.declared.packet_fate.PacketFate.{PacketFate}
use Rattle.uug_transfer.specs.declared.packet_fate.PacketFate.TheVariants.{Goes, Lost, Changed}
use Rattle.uug_transfer.specs.FaultInjection.{fate_of}

-- the bytes with the lowest bit of the last one flipped
abbrev pub flipped : List ℕ → List ℕ
flipped bytes = take (length bytes - 1) bytes ++ map (λ byte. bit_xor byte 1) (drop (length bytes - 1) bytes)

-- the bytes that go out of a packet
abbrev pub outgoing_of : PacketFate → (spelled : List ℕ) → List ℕ
outgoing_of Goes spelled = spelled
outgoing_of Lost spelled = []
outgoing_of Changed spelled = flipped spelled

-- the count after one more packet; it saturates at 2^64 - 1
abbrev pub next_count : ℕ → ℕ
next_count count = min (count + 1) (2 ^ 64 - 1)

-- the count after this entry; a text does not count
abbrev pub count_with : (count : ℕ) → EntryValue → ℕ
count_with count (text bytes) = count
count_with count (packet bytes first) = next_count count

abbrev pub count_behind : (count : ℕ) → List EntryValue → ℕ
count_behind count [] = count
count_behind count (entry ∷ entries) = count_behind (count_with count entry) entries

-- the bytes that go out of an entry when `count` packets were counted before it; a text goes out unchanged
abbrev pub outgoing_of_entry : (drop_every flip_every : Option ℕ) → (count : ℕ) → EntryValue → List ℕ
outgoing_of_entry drop_every flip_every count (text bytes) = bytes
outgoing_of_entry drop_every flip_every count (packet bytes first) =
    outgoing_of (fate_of drop_every flip_every (next_count count)) bytes

-- the bytes that go out of all these entries, joined
abbrev pub outgoing_from : (drop_every flip_every : Option ℕ) → (count : ℕ) → List EntryValue → List ℕ
outgoing_from drop_every flip_every count [] = []
outgoing_from drop_every flip_every count (entry ∷ entries) =
    outgoing_of_entry drop_every flip_every count entry
    ++ outgoing_from drop_every flip_every (count_with count entry) entries

-- the bytes of all these entries, joined
abbrev pub emitted_bytes : List EntryValue → List ℕ
emitted_bytes [] = []
emitted_bytes (text bytes ∷ entries) = bytes ++ emitted_bytes entries
emitted_bytes (packet bytes first ∷ entries) = bytes ++ emitted_bytes entries
