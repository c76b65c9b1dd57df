-- Streams from outside, searched and cut by the definitions: a wrong rule in them does not check.
use Rattle.std.proofs.Common.{◌≡◌, [], ◌∷◌, ◌++◌, replicate, refl, ℕ, List, ap, ◌∙◌, slice_index, lit<, arith, inl, inr}
use Rattle.uug_packet.specs.Checksum.{check}
use Rattle.uug_packet.specs.Decoded.{header_at, decoded}
use Rattle.uug_packet.specs.Packet.{PacketValue, init_a, rr, control, carry}
use Rattle.uug_packet.specs.Spelling.{IsSpelling}
use Rattle.uug_packet.specs.Waits.{Waits}
use Rattle.uug_reader.specs.Cut.{packet, noise, found, bad}
use Rattle.uug_reader.specs.Scan.{IsScan}
use Rattle.uug_reader.specs.Search.{waiting, standing, search_of}

-- two bytes of noise, INITA 3, and the front of another header
pub record AreSearched : Type 0 where
  pub behind_noise : search_of (0x10 ∷ 0x11 ∷ 0x10 ∷ 0x09 ∷ 0x6f ∷ 0xaa ∷ 0x3b ∷ 0xf7 ∷ 0x10 ∷ 0x09 ∷ [])
      ≡ standing (found (control (init_a 3))) 6 (0x10 ∷ 0x09 ∷ 0x6f ∷ 0xaa ∷ 0x3b ∷ 0xf7 ∷ 0x10 ∷ 0x09 ∷ [])
  pub cut_header : search_of (0x00 ∷ 0x10 ∷ 0x09 ∷ []) ≡ waiting (0x10 ∷ 0x09 ∷ [])
  pub nothing : search_of (0x00 ∷ 0x41 ∷ []) ≡ waiting []
  -- a control packet with a wrong checksum is noise
  pub wrong_control : search_of (0x10 ∷ 0x09 ∷ 0x6e ∷ 0xaa ∷ 0x3b ∷ 0xf6 ∷ []) ≡ waiting []

pub searched : AreSearched
unfolding decoded header_at
searched = record { behind_noise = refl; cut_header = refl; nothing = refl; wrong_control = refl }

-- a data packet of number 1, whole, cut, with a checksum that is one too high, and with no missing byte in a short field
pub record AreDataPackets : Type 0 where
  pub whole : search_of ((0x10 ∷ 0x01 ∷ 0x0d ∷ 0x3a ∷ 0x88 ∷ 0xbe ∷ []) ++ replicate 32 0)
      ≡ standing (found (carry 1 0 1 (replicate 32 0))) 38 ((0x10 ∷ 0x01 ∷ 0x0d ∷ 0x3a ∷ 0x88 ∷ 0xbe ∷ []) ++ replicate 32 0)
  pub cut : search_of ((0x10 ∷ 0x01 ∷ 0x0d ∷ 0x3a ∷ 0x88 ∷ 0xbe ∷ []) ++ replicate 31 0)
      ≡ waiting ((0x10 ∷ 0x01 ∷ 0x0d ∷ 0x3a ∷ 0x88 ∷ 0xbe ∷ []) ++ replicate 31 0)
  pub wrong_sum : search_of ((0x10 ∷ 0x01 ∷ 0x0e ∷ 0x3a ∷ 0x88 ∷ 0xbd ∷ []) ++ replicate 32 0)
      ≡ standing bad 1 ((0x10 ∷ 0x01 ∷ 0x0e ∷ 0x3a ∷ 0x88 ∷ 0xbd ∷ []) ++ replicate 32 0)
  pub wrong_length : search_of ((0x10 ∷ 0x01 ∷ 0xcd ∷ 0x39 ∷ 0xc8 ∷ 0x3d ∷ []) ++ replicate 32 0)
      ≡ standing bad 1 ((0x10 ∷ 0x01 ∷ 0xcd ∷ 0x39 ∷ 0xc8 ∷ 0x3d ∷ []) ++ replicate 32 0)

pub data_packets : AreDataPackets
unfolding decoded header_at check
data_packets = record { whole = refl; cut = refl; wrong_sum = refl; wrong_length = refl }

-- behind the first byte of a broken packet the search goes on: in its field stands what reads as RR 1
pub in_a_broken_one : search_of ((0x01 ∷ 0x96 ∷ 0x6a ∷ 0x88 ∷ 0x75 ∷ 0x10 ∷ 0x09 ∷ 0x89 ∷ 0xaa ∷ 0x21 ∷ 0x0b ∷ []) ++ replicate 26 0)
    ≡ standing (found (control (rr 1))) 6 ((0x10 ∷ 0x09 ∷ 0x89 ∷ 0xaa ∷ 0x21 ∷ 0x0b ∷ []) ++ replicate 26 0)
unfolding decoded header_at
in_a_broken_one = refl

-- the scan of a packet, a byte of noise, the same packet again, and the front of a third
abbrev ready : List ℕ
ready = 0x10 ∷ 0x09 ∷ 0x89 ∷ 0xaa ∷ 0x21 ∷ 0x0b ∷ []

spelling : IsSpelling (control (rr 1)) ready
spelling = (0x21, (lit< tt, refl), refl)

-- what begins with no 0x10 is noise
other_start : (p : PacketValue) (w rest s : List ℕ) → IsSpelling p w → 0x41 ∷ s ≡ w ++ rest → ⊥
other_start (control p) w rest s h joined = omega (arith, ap (λ x. slice_index x 0) (joined ∙ ap (λ x. x ++ rest) h.2))
other_start (carry seq ack k message) w rest s h joined =
    omega (arith, ap (λ x. slice_index x 0) (joined ∙ ap (λ x. x ++ rest) h.joined))

other_waits : (s : List ℕ) → Waits (0x41 ∷ s) → ⊥
other_waits s (inl cut) = omega (arith, cut.0)
other_waits s (inr begun) = omega (arith, ap (λ x. slice_index x 0) begun.2.joined)

pub two_packets : IsScan (ready ++ (0x41 ∷ ready) ++ (0x10 ∷ 0x09 ∷ [])) (found (control (rr 1)) ∷ found (control (rr 1)) ∷ []) (0x10 ∷ 0x09 ∷ [])
two_packets = record {
  finds = (
    packet (control (rr 1)) ready ∷ noise 0x41 ∷ packet (control (rr 1)) ready ∷ [],
    (
      spelling,
      _,
      refl,
      (
        record {
          no_packet = λ b. other_start b.0 b.1 b.2 _ b.3 b.4;
          settled = other_waits _;
          not_broken = λ b. omega (arith, ap (λ x. slice_index x 0) b.begins.joined);
        },
        _,
        refl,
        (spelling, _, refl, refl),
      ),
    ),
    refl,
  );
  waits = inl (refl, lit< tt);
}
