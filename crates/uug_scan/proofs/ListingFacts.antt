-- Streams from outside and their listings, computed by the definitions: a wrong rule in them does not check.
use Rattle.std.proofs.Common.{ℕ, List, [], ◌∷◌, ◌++◌, slice_index, refl, ap, ◌∙◌, ◌≡◌, lit<, codes, arith, inl, inr}
use Rattle.uug_packet.specs.Packet.{close, rj, srj, rr, init_c, init_b, init_a, PacketValue, control, carry}
use Rattle.uug_packet.specs.Spelling.{IsSpelling}
use Rattle.std.specs.Fmt.{digits}
use Rattle.uug_packet.specs.Waits.{Waits}
use Rattle.uug_reader.specs.Cut.{Part, packet, noise, found}
use Rattle.uug_scan.specs.Listing.{ended, IsListing}

-- ---- a start-up with windows of three and size 64, and its link

abbrev bytes_1 : List ℕ
bytes_1 = 0x10 ∷ 0x09 ∷ 0x6f ∷ 0xaa ∷ 0x3b ∷ 0xf7 ∷ []

abbrev bytes_2 : List ℕ
bytes_2 = 0x10 ∷ 0x09 ∷ 0x79 ∷ 0xaa ∷ 0x31 ∷ 0xeb ∷ []

abbrev bytes_3 : List ℕ
bytes_3 = 0x10 ∷ 0x09 ∷ 0x7f ∷ 0xaa ∷ 0x2b ∷ 0xf7 ∷ []

abbrev bytes_4 : List ℕ
bytes_4 = 0x10 ∷ 0x09 ∷ 0x89 ∷ 0xaa ∷ 0x21 ∷ 0x0b ∷ []

abbrev bytes_5 : List ℕ
bytes_5 = 0x10 ∷ 0x09 ∷ 0x98 ∷ 0xaa ∷ 0x12 ∷ 0x29 ∷ []

abbrev bytes_6 : List ℕ
bytes_6 = 0x10 ∷ 0x09 ∷ 0x90 ∷ 0xaa ∷ 0x1a ∷ 0x29 ∷ []

abbrev bytes_7 : List ℕ
bytes_7 = 0x10 ∷ 0x09 ∷ 0xa2 ∷ 0xaa ∷ 0x08 ∷ 0x09 ∷ []

spelling_1 : IsSpelling (control (init_a 3)) bytes_1
spelling_1 = (0x3b, (lit< tt, refl), refl)

spelling_2 : IsSpelling (control (init_b 1)) bytes_2
spelling_2 = (0x31, (lit< tt, refl), refl)

spelling_3 : IsSpelling (control (init_c 3)) bytes_3
spelling_3 = (0x2b, (lit< tt, refl), refl)

spelling_4 : IsSpelling (control (rr 1)) bytes_4
spelling_4 = (0x21, (lit< tt, refl), refl)

spelling_5 : IsSpelling (control (rj 2)) bytes_5
spelling_5 = (0x12, (lit< tt, refl), refl)

spelling_6 : IsSpelling (control (srj 2)) bytes_6
spelling_6 = (0x1a, (lit< tt, refl), refl)

spelling_7 : IsSpelling (control close) bytes_7
spelling_7 = (0x08, (0, lit< tt, refl), refl)

abbrev link_parts : List Part
link_parts =
    packet (control (init_a 3)) bytes_1 ∷ packet (control (init_b 1)) bytes_2 ∷ packet (control (init_c 3)) bytes_3 ∷ packet (control (rr 1)) bytes_4
    ∷ packet (control (rj 2)) bytes_5 ∷ packet (control (srj 2)) bytes_6 ∷ packet (control close) bytes_7 ∷ []

pub link_listing : IsListing
    (bytes_1 ++ (bytes_2 ++ (bytes_3 ++ (bytes_4 ++ (bytes_5 ++ (bytes_6 ++ bytes_7))))))
    (ended (codes "INITA 3") ++ (ended (codes "INITB 64") ++ (ended (codes "INITC 3") ++ (ended (codes "RR 1") ++ (ended (codes "RJ 2") ++ (ended (codes "SRJ 2") ++ (ended (codes "CLOSE") ++ ended (codes "REST 0"))))))))
unfolding digits
link_listing = record {
  items = _;
  rest = [];
  scan = record {
    finds = (
      link_parts,
      (spelling_1, _, refl, (spelling_2, _, refl, (spelling_3, _, refl, (spelling_4, _, refl, (spelling_5, _, refl, (spelling_6, _, refl, (spelling_7, [], refl, refl))))))),
      refl,
    );
    waits = inl tt;
  };
  text_is = refl;
}

-- ---- noise, and bytes that wait

pub nothing_listing : IsListing [] (ended (codes "REST 0"))
unfolding digits
nothing_listing = record { items = []; rest = []; scan = record { finds = ([], refl, refl); waits = inl tt }; text_is = refl }

-- no packet has 0x10 in the place of K
no_packet : (p : PacketValue) (w rest : List ℕ) → IsSpelling p w → 0x10 ∷ bytes_1 ≡ w ++ rest → ⊥
no_packet (control p) w rest h joined = omega (arith, ap (λ x. slice_index x 1) (joined ∙ ap (λ x. x ++ rest) h.2))
no_packet (carry seq ack k message) w rest h joined =
    omega (arith, ap (λ x. slice_index x 1) (joined ∙ ap (λ x. x ++ rest) h.joined), h.code.1)

not_waiting : Waits (0x10 ∷ bytes_1) → ⊥
not_waiting (inl cut) = omega (arith, cut.1)
not_waiting (inr cut) = omega (arith, ap (λ x. slice_index x 1) cut.2.joined, cut.2.code.1)

-- one 0x10 too many in front of a packet
pub noise_listing : IsListing (0x10 ∷ bytes_1) (ended (codes "INITA 3") ++ ended (codes "REST 0"))
unfolding digits
noise_listing = record {
  items = found (control (init_a 3)) ∷ [];
  rest = [];
  scan = record {
    finds = (
      noise 0x10 ∷ packet (control (init_a 3)) bytes_1 ∷ [],
      (
        record {
          no_packet = λ b. no_packet b.0 b.1 b.2 b.3 b.4;
          settled = not_waiting;
          not_broken = λ b. omega (arith, ap (λ x. slice_index x 1) b.begins.joined, b.begins.code.1);
        },
        bytes_1,
        refl,
        (spelling_1, [], refl, refl),
      ),
      refl,
    );
    waits = inl tt;
  };
  text_is = refl;
}

-- the beginning of a packet
pub waiting_listing : IsListing (0x10 ∷ 0x09 ∷ []) (ended (codes "REST 2"))
unfolding digits
waiting_listing = record {
  items = [];
  rest = 0x10 ∷ 0x09 ∷ [];
  scan = record { finds = ([], refl, refl); waits = inl (refl, lit< tt) };
  text_is = refl;
}
