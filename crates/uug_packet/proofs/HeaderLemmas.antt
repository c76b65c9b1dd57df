-- Headers: one that is spelled is read, and one that is read is spelled.
use Rattle.std.proofs.Common.{◌≡◌, ℕ, ◌+◌, ◌*◌, ◌/◌, ◌%◌, ◌<◌, ◌≤◌, List, ◌∷◌, ◌++◌, length, drop, slice_index, Ok, refl, ◌∙◌, arith}
use Rattle.std.proofs.lemmas.Bool.Decides.{nat_tests}
use Rattle.uug_packet.specs.Bytes.{AreBytes}
use Rattle.uug_packet.specs.declared.header.Header.{Header}
use Rattle.uug_packet.specs.declared.header.TheConstants.{START, CONTROL_K, HEADER_SIZE}
use Rattle.uug_packet.specs.Spelling.{xor_byte, header}
use Rattle.uug_packet.specs.Decoded.{header_at}

-- a number of two bytes is put together again
joined_bytes : (n : ℕ) → n % 256 + 256 * (n / 256) ≡ n
joined_bytes n = grind arith

-- a header is read as what it says
pub header_at-header : (k checksum control : ℕ) (rest : List ℕ) → 1 ≤ k → k ≤ CONTROL_K → header_at (header k checksum control ++ rest) ≡ Ok (record { k = k; checksum = checksum; control = control })
unfolding header_at
header_at-header k checksum control rest low high = grind (arith, nat_tests, joined_bytes checksum)

-- the first six of a list, named
split_six : (s : List ℕ) → HEADER_SIZE ≤ length s → s ≡ slice_index s 0 ∷ slice_index s 1 ∷ slice_index s 2 ∷ slice_index s 3 ∷ slice_index s 4 ∷ slice_index s 5 ∷ drop HEADER_SIZE s
split_six (a ∷ b ∷ c ∷ d ∷ e ∷ f ∷ rest) h = refl
split_six _ h = absurd (omega arith)

-- what the tests of a header have found
pub record Tested (s : List ℕ) (h : Header) : Type 0 where
  pub long : HEADER_SIZE ≤ length s
  pub start : slice_index s 0 ≡ START
  pub k_is : slice_index s 1 ≡ h.k
  pub k_low : 1 ≤ h.k
  pub k_high : h.k ≤ CONTROL_K
  pub checksum : slice_index s 2 + 256 * slice_index s 3 ≡ h.checksum
  pub control : slice_index s 4 ≡ h.control
  pub xor : slice_index s 5 ≡ xor_byte (slice_index s 1) (slice_index s 2) (slice_index s 3) (slice_index s 4)

pub tested : (s : List ℕ) (h : Header) → header_at s ≡ Ok h → Tested s h
unfolding header_at
tested s h e =
    record {
      long = grind (arith, nat_tests);
      start = grind (arith, nat_tests);
      k_is = grind (arith, nat_tests);
      k_low = grind (arith, nat_tests);
      k_high = grind (arith, nat_tests);
      checksum = grind (arith, nat_tests);
      control = grind (arith, nat_tests);
      xor = grind (arith, nat_tests);
    }

-- a header that was read stands at the front
pub record ReadsHeader (s : List ℕ) (h : Header) : Type 0 where
  pub spelled : s ≡ header h.k h.checksum h.control ++ drop HEADER_SIZE s
  pub k_low : 1 ≤ h.k
  pub k_high : h.k ≤ CONTROL_K
  pub long : HEADER_SIZE ≤ length s
  pub control : h.control < 256

pub header-header_at : (s : List ℕ) (h : Header) → AreBytes s → header_at s ≡ Ok h → ReadsHeader s h
header-header_at s h bytes e =
    let t = tested s h e in
    let low : slice_index s 2 ≡ h.checksum % 256 = omega (arith, bytes 2, bytes 3, t.checksum) in
    let high : slice_index s 3 ≡ h.checksum / 256 = omega (arith, bytes 2, bytes 3, t.checksum) in
    let named : s ≡ START ∷ h.k ∷ (h.checksum % 256) ∷ (h.checksum / 256) ∷ h.control ∷ xor_byte h.k (h.checksum % 256) (h.checksum / 256) h.control ∷ drop HEADER_SIZE s =
    split_six s t.long ∙ rw (t.xor, t.start, t.k_is, low, high, t.control) refl in
    record { spelled = named; k_low = t.k_low; k_high = t.k_high; long = t.long; control = omega (arith, bytes 4, t.control) }
