-- The header of a data packet gives the check of its field, and so the header with another acknowledgement.
use Rattle.std.proofs.Common.{◌≡◌, ℕ, ◌+◌, ◌*◌, ◌/◌, ◌%◌, ◌^◌, ◌<◌, ◌==◌, ◌||◌, bit_xor, Bool, true, false, if◌then◌else◌, List, [], ◌∷◌, ◌++◌, drop, slice_index, nat_lt, refl, ap, ◌∙◌, arith, lit<}
use Rattle.std.proofs.lemmas.Nat.{xor_of_16}
use Rattle.std.specs.Int.Bits.{xor_assoc, xor_self, xor_zero_r}
use Rattle.std.specs.Int.{w16, rotate_left}
use Rattle.std.specs.Prelude.{fold}
use Rattle.uug_packet.specs.declared.field.FieldKind.{FieldKind}
use Rattle.uug_packet.specs.declared.field.FieldKind.TheVariants.{Long, Short}
use Rattle.uug_packet.specs.declared.header.Header.{Header}
use Rattle.uug_packet.specs.declared.header.TheConstants.{HEADER_SIZE}
use Rattle.uug_packet.specs.Checksum.{places, Registers, after_byte, check}
use Rattle.uug_packet.specs.Spelling.{checksum_of, header_of, data_byte, with_field}

-- ---- a check has sixteen bits

record AreSmall (r : Registers) : Type 0 where
  check : r.check < 2 ^ 16
  mixed : r.mixed < 2 ^ 16

mixed_in : (b : Bool) (x y : ℕ) → x < 2 ^ 16 → y < 2 ^ 16 → (if b then bit_xor x y else x) < 2 ^ 16
mixed_in true x y small_x small_y = xor_of_16 x y small_x small_y
mixed_in false x y small_x small_y = small_x

after_byte-small : (r : Registers) (at : ℕ × ℕ) → AreSmall (after_byte r at)
after_byte-small r at =
    let check = (rotate_left w16 r.check 1 + at.0) % 2 ^ 16 in
    let mixed = (r.mixed + bit_xor check (at.1 % 2 ^ 16)) % 2 ^ 16 in
    let mixed_small : mixed < 2 ^ 16 = omega arith in
    let check_small : check < 2 ^ 16 = omega arith in
    record {
      check = mixed_in (at.0 == 0 || nat_lt check at.0) check mixed check_small mixed_small;
      mixed = mixed_small;
    }

fold-small : (ats : List (ℕ × ℕ)) (r : Registers) → AreSmall r → AreSmall (fold after_byte r ats)
fold-small [] r small = small
fold-small (at ∷ ats) r small = fold-small ats (after_byte r at) (after_byte-small r at)

check-small : (field : List ℕ) → check field < 2 ^ 16
unfolding check
check-small field = (fold-small (places field) _ (record { check = lit< tt; mixed = lit< tt })).check

-- ---- what a checksum is taken from is had again

checksum_of-checksum_of : (n : ℕ) → n < 2 ^ 16 → checksum_of (checksum_of n) ≡ n
checksum_of-checksum_of n small = omega (arith, small)

xor_again : (a b : ℕ) → bit_xor (bit_xor a b) b ≡ a
xor_again a b = xor_assoc a b b ∙ ap (bit_xor a) (xor_self b) ∙ xor_zero_r a

data_byte-small : (kind : FieldKind) (seq ack : ℕ) → seq < 8 → ack < 8 → data_byte kind seq ack < 2 ^ 16
data_byte-small Long seq ack seq_below ack_below = omega (arith, seq_below, ack_below)
data_byte-small Short seq ack seq_below ack_below = omega (arith, seq_below, ack_below)

check_again : (field : List ℕ) (c : ℕ) → c < 2 ^ 16
    → bit_xor (checksum_of (checksum_of (bit_xor (check field) c))) c ≡ check field
check_again field c small =
    ap (λ n. bit_xor n c) (checksum_of-checksum_of _ (xor_of_16 (check field) c (check-small field) small))
    ∙ xor_again (check field) c

data_byte-acknowledging : (kind : FieldKind) (seq old ack : ℕ) → old < 8
    → 8 * (data_byte kind seq old / 8) + ack ≡ data_byte kind seq ack
data_byte-acknowledging Long seq old ack below = omega (arith, below)
data_byte-acknowledging Short seq old ack below = omega (arith, below)

joined_bytes : (n : ℕ) → n % 256 + 256 * (n / 256) ≡ n
joined_bytes n = omega arith

-- ---- the header alone is changed

-- what the header of a list of bytes says, and what it then becomes
pub record IsAcknowledging (w : List ℕ) (ack : ℕ) (before after : Header) : Type 0 where
  pub code_at : before.k ≡ slice_index w 1
  pub checksum_at : before.checksum ≡ slice_index w 2 + 256 * slice_index w 3
  pub control_at : before.control ≡ slice_index w 4
  pub code : after.k ≡ before.k
  pub control : after.control ≡ 8 * (before.control / 8) + ack
  pub checksum : after.checksum
      ≡ checksum_of (bit_xor (bit_xor (checksum_of before.checksum) before.control) after.control)

pub acknowledging : (kind : FieldKind) (seq old ack k : ℕ) (field w : List ℕ) (before after : Header)
    → seq < 8 → old < 8 → w ≡ with_field kind seq old k field → IsAcknowledging w ack before after
    → header_of after ++ drop HEADER_SIZE w ≡ with_field kind seq ack k field
acknowledging kind seq old ack k field w before after seq_below old_below is h =
    let c = data_byte kind seq old in
    let sum = checksum_of (bit_xor (check field) c) in
    let code : after.k ≡ k = h.code ∙ h.code_at ∙ ap (λ x. slice_index x 1) is in
    let read : before.checksum ≡ sum =
    h.checksum_at ∙ ap (λ x. slice_index x 2 + 256 * slice_index x 3) is ∙ joined_bytes sum in
    let byte : before.control ≡ c = h.control_at ∙ ap (λ x. slice_index x 4) is in
    let control : after.control ≡ data_byte kind seq ack =
    h.control ∙ ap (λ n. 8 * (n / 8) + ack) byte ∙ data_byte-acknowledging kind seq old ack old_below in
    let checksum : after.checksum ≡ checksum_of (bit_xor (check field) (data_byte kind seq ack)) =
    h.checksum ∙ ap (λ n. checksum_of (bit_xor (bit_xor (checksum_of n) before.control) after.control)) read
    ∙ ap (λ n. checksum_of (bit_xor (bit_xor (checksum_of sum) n) after.control)) byte
    ∙ ap (λ n. checksum_of (bit_xor n after.control)) (check_again field c (data_byte-small kind seq old seq_below old_below))
    ∙ ap (λ n. checksum_of (bit_xor (check field) n)) control in
    let rest : drop HEADER_SIZE w ≡ field = ap (drop HEADER_SIZE) is in
    rw (code, control, checksum, rest) refl
