-- What is written of packets and texts of bytes is bytes.
use Rattle.std.proofs.Common.{◌≡◌, ℕ, zero, suc, ◌+◌, ◌-◌, ◌/◌, ◌%◌, ◌<◌, ◌≤◌, ◌==◌, nat_le, Bool, true, false, if◌then◌else◌, List, [], ◌∷◌, ◌++◌, length, replicate, bit_xor, All, refl, arith}
use Rattle.std.specs.Bool.{⊤}
use Rattle.std.proofs.Math.Nat.{pow-le-pow_right}
use Rattle.std.proofs.lemmas.Bool.Decides.{nat_tests}
use Rattle.std.proofs.lemmas.List.Elements.{All-nil, All-cons, All-head, All-tail, All-append, All-replicate}
use Rattle.std.proofs.lemmas.Nat.{mod_below, xor_of_8}
use Rattle.uug_packet.specs.declared.checksum.TheConstants.{CHECKSUM_BASE}
use Rattle.uug_packet.specs.declared.field.FieldKind.{FieldKind}
use Rattle.uug_packet.specs.declared.field.FieldKind.TheVariants.{Long, Short}
use Rattle.uug_packet.specs.declared.field.TheConstants.{ONE_BYTE_MAX}
use Rattle.uug_packet.specs.declared.header.TheConstants.{CONTROL_K}
use Rattle.uug_packet.specs.Bytes.{AreBytes}
use Rattle.uug_packet.specs.Checksum.{check}
use Rattle.uug_packet.specs.Field.{IsFieldCode, canonical_field, canonical_front, canonical_kind, field_size}
use Rattle.uug_packet.specs.Packet.{ControlValue, close, rj, srj, rr, init_c, init_b, init_a, PacketValue, control, carry}
use Rattle.uug_packet.specs.Spelling.{canonical, checksum_of, control_byte, data_byte, header, with_field}
use Rattle.uug_packet.specs.WellFormed.{HasNumber, IsWellFormed}
use Rattle.uug_session.specs.EndStep.{message_of}
use Rattle.uug_talk.specs.Name.{IsName}

abbrev pub IsByte : ℕ → Type 0
IsByte b = b < 256

abbrev pub AllBytes : List ℕ → Type 0
AllBytes bytes = All IsByte bytes

pub are_bytes : (bytes : List ℕ) → AllBytes bytes → AreBytes bytes
are_bytes [] all i = omega arith
are_bytes (b ∷ bytes) all zero = All-head IsByte b bytes all
are_bytes (b ∷ bytes) all (suc i) = are_bytes bytes (All-tail IsByte b bytes all) i

pub all_bytes : (bytes : List ℕ) → AreBytes bytes → AllBytes bytes
all_bytes [] are = All-nil IsByte
all_bytes (b ∷ bytes) are = All-cons IsByte b bytes (are zero) (all_bytes bytes (λ i. are (suc i)))

pub name_bytes : (name : List ℕ) → IsName name → AreBytes name
name_bytes name is = are_bytes name (λ k d within. omega (arith, (is.printing k d within).1))

-- a short list, byte by byte
abbrev pub Bytewise : List ℕ → Type 0
Bytewise [] = ⊤
Bytewise (b ∷ bytes) = IsByte b × Bytewise bytes

pub bytewise : (bytes : List ℕ) → Bytewise bytes → AllBytes bytes
bytewise [] each = All-nil IsByte
bytewise (b ∷ bytes) each = All-cons IsByte b bytes each.0 (bytewise bytes each.1)

-- ---- a header

sum_below : (n : ℕ) → checksum_of n < 65536
sum_below n = mod_below (CHECKSUM_BASE + (65536 - n)) 65536 (omega arith)

header_bytes : (k checksum c : ℕ) → IsByte k → checksum < 65536 → IsByte c → AllBytes (header k checksum c)
header_bytes k checksum c k_is sum_is c_is =
    let low : ℕ = checksum % 256 in
    let high : ℕ = checksum / 256 in
    let low_is : IsByte low = mod_below checksum 256 (omega arith) in
    let high_is : IsByte high = omega (arith, sum_is) in
    bytewise (header k checksum c) (
      omega arith,
      (
        k_is,
        (
          low_is,
          (
            high_is,
            (
              c_is,
              (
                xor_of_8 (bit_xor (bit_xor k low) high) c (xor_of_8 (bit_xor k low) high (xor_of_8 k low k_is low_is) high_is) c_is,
                tt,
              ),
            ),
          ),
        ),
      ),
    )

control_below : (c : ControlValue) → HasNumber c → IsByte (control_byte c)
control_below close is = omega arith
control_below (rj y) is = omega (arith, is)
control_below (srj y) is = omega (arith, is)
control_below (rr y) is = omega (arith, is)
control_below (init_c y) is = omega (arith, is)
control_below (init_b y) is = omega (arith, is)
control_below (init_a y) is = omega (arith, is)

data_below : (kind : FieldKind) (seq ack : ℕ) → seq < 8 → ack < 8 → IsByte (data_byte kind seq ack)
data_below Long seq ack seq_is ack_is = omega (arith, seq_is, ack_is)
data_below Short seq ack seq_is ack_is = omega (arith, seq_is, ack_is)

-- ---- a field

either_bytes : (b : Bool) (xs ys : List ℕ) → (b ≡ true → AllBytes xs) → (b ≡ false → AllBytes ys) → AllBytes (if b then xs else ys)
either_bytes true xs ys x y = x refl
either_bytes false xs ys x y = y refl

one_byte : (missing : ℕ) → nat_le missing ONE_BYTE_MAX ≡ true → IsByte missing
one_byte missing is = grind (arith, nat_tests)

front_bytes : (missing : ℕ) → missing < 32768 → AllBytes (canonical_front missing)
front_bytes missing below =
    let one : List ℕ = missing ∷ [] in
    let two : List ℕ = (128 + missing % 128) ∷ (missing / 128) ∷ [] in
    let low : missing % 128 < 128 = mod_below missing 128 (omega arith) in
    either_bytes (missing == 0) [] (if nat_le missing ONE_BYTE_MAX then one else two) (λ e. All-nil IsByte)
    (λ e. either_bytes (nat_le missing ONE_BYTE_MAX) one two (λ f. bytewise one (one_byte missing f, tt))
    (λ f. bytewise two (omega (arith, low), (omega (arith, below), tt))))

size_below : (k : ℕ) → IsFieldCode k → field_size k ≤ 4096
size_below k code = pow-le-pow_right {n = 2} (omega arith) {i = k + 4} {j = 12} (omega (arith, code.1))

field_bytes : (k : ℕ) (message : List ℕ) → IsFieldCode k → AllBytes message → AllBytes (canonical_field (field_size k) message)
field_bytes k message code all =
    let missing : ℕ = field_size k - length message in
    let padding : ℕ = missing - length (canonical_front missing) in
    All-append IsByte (canonical_front missing) (message ++ replicate padding 0)
    (front_bytes missing (omega (arith, size_below k code)))
    (All-append IsByte message (replicate padding 0) all (All-replicate IsByte padding 0 (omega arith)))

-- ---- a packet

abbrev pub CarriesBytes : PacketValue → Type 0
CarriesBytes p = AreBytes (message_of p)

with_field_bytes : (kind : FieldKind) (seq ack k : ℕ) (field : List ℕ) → seq < 8 → ack < 8 → IsFieldCode k → AllBytes field
    → AllBytes (with_field kind seq ack k field)
with_field_bytes kind seq ack k field seq_is ack_is code all =
    let c : ℕ = data_byte kind seq ack in
    let sum : ℕ = checksum_of (bit_xor (check field) c) in
    All-append IsByte (header k sum c) field
    (header_bytes k sum c (omega (arith, code.1)) (sum_below (bit_xor (check field) c)) (data_below kind seq ack seq_is ack_is)) all

pub canonical_bytes : (p : PacketValue) → IsWellFormed p → CarriesBytes p → AllBytes (canonical p)
canonical_bytes (control c) whole carried =
    header_bytes CONTROL_K (checksum_of (control_byte c)) (control_byte c) (omega arith) (sum_below (control_byte c))
    (control_below c whole)
canonical_bytes (carry seq ack k message) whole carried =
    with_field_bytes (canonical_kind (field_size k) message) seq ack k (canonical_field (field_size k) message) whole.0 whole.1
    whole.2.0 (field_bytes k message whole.2.0 (all_bytes message carried))
