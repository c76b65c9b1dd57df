-- Streams and their detailed listings, computed by the definitions: a wrong rule in them does not check.
use Rattle.std.proofs.Common.{ℕ, List, [], ◌∷◌, ◌++◌, replicate, refl, ◌≡◌, codes, map}
use Rattle.std.specs.Fmt.{digits}
use Rattle.uug_packet.specs.Checksum.{check}
use Rattle.uug_packet.specs.Decoded.{decoded, header_at}
use Rattle.uug_packet.specs.Packet.{init_a, control}
use Rattle.uug_reader.specs.Cut.{packet, broken, noise}
use Rattle.uug_scan.specs.Listing.{ended}
use Rattle.uug_scan.specs.Told.{entries_of}
use Rattle.uug_scan.specs.Detailed.{entry_lines, escaped, plain_lines}

abbrev init_a_3 : List ℕ
init_a_3 = 0x10 ∷ 0x09 ∷ 0x6f ∷ 0xaa ∷ 0x3b ∷ 0xf7 ∷ []

-- noise, a text that begins anew, and a packet
abbrev greeting : List ℕ
greeting = codes "hi" ++ (0x10 ∷ codes "x" ++ (0x10 ∷ codes "Sa" ++ (0 ∷ [])))

pub text_listing : entry_lines (entries_of (greeting ++ (init_a_3 ++ (0x10 ∷ []))) (map noise greeting ++ (packet (control (init_a 3)) init_a_3 ∷ [])) (0x10 ∷ []))
    ≡ ended (codes "NOISE 4 AT 0 LENGTH 4") ++ (ended (codes "TEXT Sa AT 4 LENGTH 4")
    ++ (ended (codes "INITA 3 AT 8 LENGTH 6") ++ ended (codes "REST 1 AT 14 LENGTH 1")))
unfolding decoded header_at digits
text_listing = refl

-- of these the plain listing has two lines
pub text_plain : plain_lines (entries_of (greeting ++ (init_a_3 ++ (0x10 ∷ []))) (map noise greeting ++ (packet (control (init_a 3)) init_a_3 ∷ [])) (0x10 ∷ []))
    ≡ ended (codes "INITA 3") ++ ended (codes "REST 1")
unfolding decoded header_at digits
text_plain = refl

-- a control packet whose checksum is one too high
abbrev control_damage : List ℕ
control_damage = 0x10 ∷ 0x09 ∷ 0x70 ∷ 0xaa ∷ 0x3b ∷ 0xe8 ∷ []

pub control_listing : entry_lines (entries_of control_damage (map noise control_damage) [])
    ≡ ended (codes "CONTROL BAD checksum AT 0 LENGTH 1") ++ (ended (codes "NOISE 5 AT 1 LENGTH 5") ++ ended (codes "REST 0 AT 6 LENGTH 0"))
unfolding decoded header_at digits
control_listing = refl

-- a data packet whose checksum is one too high, and one whose field has no byte that is missing
abbrev zeros : List ℕ
zeros = replicate 32 0

abbrev checksum_damage : List ℕ
checksum_damage = 0x01 ∷ 0x0e ∷ 0x3a ∷ 0x88 ∷ 0xbd ∷ zeros

abbrev length_damage : List ℕ
length_damage = 0x01 ∷ 0xcd ∷ 0x39 ∷ 0xc8 ∷ 0x3d ∷ zeros

pub checksum_listing : entry_lines (entries_of (0x10 ∷ checksum_damage) (broken 0x10 ∷ map noise checksum_damage) [])
    ≡ ended (codes "BAD checksum AT 0 LENGTH 1") ++ (ended (codes "NOISE 37 AT 1 LENGTH 37") ++ ended (codes "REST 0 AT 38 LENGTH 0"))
unfolding decoded header_at check digits
checksum_listing = refl

pub length_listing : entry_lines (entries_of (0x10 ∷ length_damage) (broken 0x10 ∷ map noise length_damage) [])
    ≡ ended (codes "BAD length AT 0 LENGTH 1") ++ (ended (codes "NOISE 37 AT 1 LENGTH 37") ++ ended (codes "REST 0 AT 38 LENGTH 0"))
unfolding decoded header_at check digits
length_listing = refl

pub escaped_text : escaped (0x53 ∷ 0x20 ∷ 0x5c ∷ 0x7f ∷ 0x0d ∷ 0xff ∷ []) ≡ codes "S \\x5c\\x7f\\x0d\\xff"
escaped_text = refl
