-- What a search finds as a packet is one.
use Rattle.std.proofs.Common.{◌≡◌, ℕ, ◌==◌, Bool, true, false, if◌then◌else◌, List, [], ◌∷◌, slice_index, Result, Ok, Err, refl, subst}
use Rattle.std.specs.Bool.{⊤}
use Rattle.uug_packet.specs.declared.decoding.NoPacket.{NoPacket}
use Rattle.uug_packet.specs.declared.decoding.NoPacket.TheVariants as refusals
use Rattle.uug_packet.specs.declared.header.TheConstants.{CONTROL_K}
use Rattle.uug_packet.specs.Decoded.{decoded}
use Rattle.uug_packet.specs.Packet.{PacketValue}
use Rattle.uug_packet.specs.WellFormed.{IsWellFormed}
use Rattle.uug_packet.proofs.WellFormedLemmas.{IsWellFormed-decoded}
use Rattle.uug_reader.specs.Cut.{found, bad}
use Rattle.uug_reader.specs.Search.{Search, waiting, standing, search_by, search_of}

abbrev FindsRight : Search → Type 0
FindsRight (waiting rest) = ⊤
FindsRight (standing (found p) size others) = IsWellFormed p
FindsRight (standing bad size others) = ⊤

right_if : (b : Bool) (x y : Search) → FindsRight x → FindsRight y → FindsRight (if b then x else y)
right_if true x y h k = h
right_if false x y h k = k

right_by : (r : Result (PacketValue × ℕ) NoPacket) (s : List ℕ) (later : Search) → decoded s ≡ r
    → FindsRight later → FindsRight (search_by r s later)
right_by (Ok front) s later is h = IsWellFormed-decoded s front.0 front.1 is
right_by (Err refusals.Short) s later is h = tt
right_by (Err refusals.BadLength) s later is h = tt
right_by (Err refusals.BadSum) s later is h =
    right_if (slice_index s 1 == CONTROL_K) later (standing bad 1 s) h tt
right_by (Err refusals.BadStart) s later is h = h
right_by (Err refusals.BadK) s later is h = h
right_by (Err refusals.BadXor) s later is h = h
right_by (Err refusals.BadKind) s later is h = h

right : (s : List ℕ) → FindsRight (search_of s)
right [] = tt
right (b ∷ s) = right_by (decoded (b ∷ s)) (b ∷ s) (search_of s) refl (right s)

pub found_well_formed : (s others : List ℕ) (p : PacketValue) (n : ℕ)
    → search_of s ≡ standing (found p) n others → IsWellFormed p
found_well_formed s others p n is = subst FindsRight is (right s)
