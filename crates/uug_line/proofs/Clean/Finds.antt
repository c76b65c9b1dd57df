-- A packet that was written stands first on a line, and is found there.
use Rattle.std.proofs.Common.{◌≡◌, ℕ, List, [], ◌∷◌, ◌++◌, length, Result, Ok, ap, ◌∙◌}
use Rattle.std.proofs.Math.Seq.{drop-length}
use Rattle.std.specs.Bool.{⊤}
use Rattle.uug_packet.specs.declared.decoding.NoPacket.{NoPacket}
use Rattle.uug_packet.specs.Decoded.{decoded}
use Rattle.uug_packet.specs.Packet.{PacketValue, carry, control}
use Rattle.uug_packet.specs.Spelling.{canonical}
use Rattle.uug_packet.specs.WellFormed.{IsWellFormed}
use Rattle.uug_reader.specs.Search.{search_by, search_of}
use Rattle.uug_session.specs.EndStep.{linked}
use Rattle.uug_session.specs.Finding.{finding, finds_packet, found_with, item_finding}
use Rattle.uug_packet.proofs.WellFormedLemmas.{decoded-well_formed}
use Rattle.uug_session.proofs.ArrivingLemmas.{found_more}

abbrev HasBytes : List ℕ → Type 0
HasBytes [] = ⊥
HasBytes (byte ∷ bytes) = ⊤

has_bytes : (p : PacketValue) → HasBytes (canonical p)
has_bytes (control c) = tt
has_bytes (carry seq ack k message) = tt

found_alone : (p : PacketValue) (w : List ℕ) → HasBytes w → decoded w ≡ Ok (p, length w) → finding linked w ≡ finds_packet p w []
found_alone p [] some is = absurd some
found_alone p (b ∷ s) some is =
    ap (λ (front : Result (PacketValue × ℕ) NoPacket). item_finding (search_by front (b ∷ s) (search_of s))) is
    ∙ ap (finds_packet p (b ∷ s)) (drop-length (b ∷ s))

pub found_first : (p : PacketValue) (rest : List ℕ) → IsWellFormed p →
    finding linked (canonical p ++ rest) ≡ finds_packet p (canonical p ++ rest) rest
found_first p rest formed =
    found_more linked (canonical p) rest
    ∙ ap (found_with linked rest) (found_alone p (canonical p) (has_bytes p) (decoded-well_formed p formed))
