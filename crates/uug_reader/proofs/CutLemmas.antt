-- Laws of the cut of a stream.
use Rattle.std.proofs.Common.{◌≡◌, ℕ, ◌<◌, zero, suc, List, [], ◌∷◌, ◌++◌, length, take, refl, ap, ◌∙◌, arith, append_assoc, inl, inr}
use Rattle.uug_packet.specs.Packet.{PacketValue}
use Rattle.uug_packet.specs.Spelling.{IsSpelling}
use Rattle.uug_packet.specs.Waits.{Waits}
use Rattle.uug_packet.proofs.PrefixLemmas.{settled, Waits-shorter, IsBroken-shorter, IsBroken-longer, waits_not-spelling}
use Rattle.uug_reader.specs.Cut.{BeginsWithPacket, IsNoise, Part, packet, broken, noise, CutsOff, found, bad, items_of}

pub items_of-append : (parts more : List Part) → items_of (parts ++ more) ≡ items_of parts ++ items_of more
items_of-append [] more = refl
items_of-append (packet p w ∷ parts) more = ap (λ x. found p ∷ x) (items_of-append parts more)
items_of-append (broken b ∷ parts) more = ap (λ x. bad ∷ x) (items_of-append parts more)
items_of-append (noise b ∷ parts) more = items_of-append parts more

-- ---- noise

-- Where more bytes follow, what neither waits nor begins with a packet doesn't begin with one.
BeginsWithPacket-shorter : (s t : List ℕ) → (Waits s → ⊥) → (BeginsWithPacket s → ⊥) → BeginsWithPacket (s ++ t) → ⊥
BeginsWithPacket-shorter s t waits_not begins_not b =
    elim (settled b.0 b.1 b.2 s t b.3 b.4) [
      | inl waits ↦ waits_not waits
      | inr front ↦ begins_not (b.0, b.1, front.0, b.3, front.1)
    ]

-- Where more bytes follow, noise is still noise.
pub IsNoise-append : (s t : List ℕ) → IsNoise s → IsNoise (s ++ t)
IsNoise-append s t h = record {
  no_packet = BeginsWithPacket-shorter s t h.settled h.no_packet;
  settled = λ waits. h.settled (Waits-shorter s t waits);
  not_broken = λ b. h.not_broken (IsBroken-shorter s t h.settled b);
}

-- ---- parts

-- the parts of the front are parts of the whole
pub CutsOff-append : (s : List ℕ) (parts : List Part) (others t : List ℕ) → CutsOff s parts others → CutsOff (s ++ t) parts (others ++ t)
CutsOff-append s [] others t h = ap (λ x. x ++ t) h
CutsOff-append s (packet p w ∷ parts) others t h =
    (h.0, h.1 ++ t, ap (λ x. x ++ t) h.2 ∙ append_assoc w h.1 t, CutsOff-append h.1 parts others t h.3)
CutsOff-append s (broken b ∷ parts) others t h =
    (IsBroken-longer s t h.0, h.1 ++ t, ap (λ x. x ++ t) h.2, CutsOff-append h.1 parts others t h.3)
CutsOff-append s (noise b ∷ parts) others t h =
    (IsNoise-append s t h.0, h.1 ++ t, ap (λ x. x ++ t) h.2, CutsOff-append h.1 parts others t h.3)

-- parts and then more parts
pub CutsOff-join : (s : List ℕ) (parts : List Part) (middle : List ℕ) (more : List Part) (others : List ℕ) → CutsOff s parts middle → CutsOff middle more others → CutsOff s (parts ++ more) others
CutsOff-join s [] middle more others h k = rw h k
CutsOff-join s (packet p w ∷ parts) middle more others h k =
    (h.0, h.1, h.2, CutsOff-join h.1 parts middle more others h.3 k)
CutsOff-join s (broken b ∷ parts) middle more others h k =
    (h.0, h.1, h.2, CutsOff-join h.1 parts middle more others h.3 k)
CutsOff-join s (noise b ∷ parts) middle more others h k =
    (h.0, h.1, h.2, CutsOff-join h.1 parts middle more others h.3 k)

-- what is spelled has bytes
pub some_in_spelling : (p : PacketValue) (w : List ℕ) → IsSpelling p w → 0 < length w
some_in_spelling p [] h = absurd (waits_not-spelling p [] [] h (inl tt))
some_in_spelling p (b ∷ w) h = omega arith

pub some_spelled : (p : PacketValue) (n : ℕ) (s : List ℕ) → IsSpelling p (take n s) → 0 < n
some_spelled p zero s h = absurd (waits_not-spelling p [] [] h (inl tt))
some_spelled p (suc n) s h = omega arith
