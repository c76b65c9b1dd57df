-- What is read of a packet with no check, and which packet it is.
use Rattle.std.proofs.Common.{◌≡◌, ℕ, ◌+◌, ◌*◌, ◌%◌, ◌<◌, ◌≤◌, List, length, drop, slice_index, Option, Some, Ok, sym, ap, ◌∙◌, arith}
use Rattle.std.proofs.lemmas.Bool.Decides.{nat_tests}
use Rattle.std.proofs.lemmas.Option.{none-some}
use Rattle.std.specs.Result.{result_ok}
use Rattle.uug_packet.specs.declared.field.FieldKind.{FieldKind}
use Rattle.uug_packet.specs.declared.field.FieldKind.TheVariants.{Long, Short}
use Rattle.uug_packet.specs.declared.field.TheConstants.{FIELD_MIN}
use Rattle.uug_packet.specs.declared.header.TheConstants.{CONTROL_PLACE, HEADER_SIZE}
use Rattle.uug_packet.specs.Decoded.{kind_of, message_at}
use Rattle.uug_packet.specs.Field.{field_size, canonical_kind}
use Rattle.uug_packet.specs.Message.{message_if_data, message_in, message_by_kind}
use Rattle.uug_packet.specs.Packet.{PacketValue, control, carry}
use Rattle.uug_packet.specs.Spelling.{IsSpelling, canonical, data_byte}
use Rattle.uug_packet.specs.WellFormed.{IsWellFormed}
use Rattle.uug_packet.proofs.DecodedLemmas.{kind_of-data_byte, length-holds}
use Rattle.uug_packet.proofs.FieldLemmas.{field_size-least, message_at-holds}
use Rattle.uug_packet.proofs.WellFormedLemmas.{IsSpelling-well_formed}

message_of_parts : (w field message : List ℕ) (c : ℕ) (kind : FieldKind) → HEADER_SIZE + FIELD_MIN ≤ length w
    → slice_index w CONTROL_PLACE ≡ c → drop HEADER_SIZE w ≡ field → kind_of c ≡ Some kind → message_at kind field ≡ Ok message
    → message_in w ≡ Some message
message_of_parts w field message c kind long at behind said found =
    let read : message_by_kind (kind_of (slice_index w CONTROL_PLACE)) (drop HEADER_SIZE w) ≡ Some message =
    ap (λ x. message_by_kind (kind_of x) (drop HEADER_SIZE w)) at
    ∙ ap (message_by_kind (kind_of c)) behind
    ∙ ap (λ x. message_by_kind x field) said
    ∙ ap result_ok found in
    grind (arith, nat_tests, read)

-- of a packet's bytes its message is read
pub message_in-spelled : (p : PacketValue) (w : List ℕ) → IsSpelling p w → message_in w ≡ message_if_data p
message_in-spelled (control p) w h = ap message_in h.2
message_in-spelled (carry seq ack k message) w h =
    let size = length-holds h.kind (field_size k) message h.field h.holds in
    message_of_parts w h.field message (data_byte h.kind seq ack) h.kind
    (omega (arith, ap length h.joined, size, field_size-least k h.code.0))
    (ap (λ x. slice_index x CONTROL_PLACE) h.joined) (ap (drop HEADER_SIZE) h.joined)
    (kind_of-data_byte h.kind seq ack h.seq_below h.ack_below) (message_at-holds h.kind (field_size k) message h.field h.holds)

pub message_in-written : (p : PacketValue) → IsWellFormed p → message_in (canonical p) ≡ message_if_data p
message_in-written p well = message_in-spelled p (canonical p) (IsSpelling-well_formed p well)

-- ---- which data packet it is

-- what is read of its bytes
pub record SaysCarry (seq ack k : ℕ) (message w : List ℕ) : Type 0 where
  pub code : slice_index w 1 ≡ k
  pub numbers : slice_index w CONTROL_PLACE % 64 ≡ 8 * seq + ack
  pub carried : message_in w ≡ Some message

numbers_in : (kind : FieldKind) (seq ack : ℕ) → seq < 8 → ack < 8 → data_byte kind seq ack % 64 ≡ 8 * seq + ack
numbers_in Long seq ack seq_below ack_below = omega (arith, seq_below, ack_below)
numbers_in Short seq ack seq_below ack_below = omega (arith, seq_below, ack_below)

same_carry : (i a j : ℕ) (m : List ℕ) (seq ack k : ℕ) (message : List ℕ) → i ≡ seq → a ≡ ack → j ≡ k → m ≡ message
    → canonical (carry i a j m) ≡ canonical (carry seq ack k message)
same_carry i a j m seq ack k message e f g h =
    ap (λ x. canonical (carry x a j m)) e
    ∙ ap (λ x. canonical (carry seq x j m)) f
    ∙ ap (λ x. canonical (carry seq ack x m)) g
    ∙ ap (λ x. canonical (carry seq ack k x)) h

-- that one was written
pub carry_written : (p : PacketValue) (seq ack k : ℕ) (message w : List ℕ) → IsWellFormed p → w ≡ canonical p
    → seq < 8 → ack < 8 → SaysCarry seq ack k message w → w ≡ canonical (carry seq ack k message)
carry_written (control c) seq ack k message w well is seq_below ack_below says =
    absurd (none-some message (sym (ap message_in is ∙ message_in-written (control c) well) ∙ says.carried))
carry_written (carry i a j m) seq ack k message w well is seq_below ack_below says =
    let code : j ≡ k = sym (ap (λ x. slice_index x 1) is) ∙ says.code in
    let numbers : 8 * i + a ≡ 8 * seq + ack =
    sym (ap (λ x. slice_index x CONTROL_PLACE % 64) is ∙ numbers_in (canonical_kind (field_size j) m) i a well.0 well.1)
    ∙ says.numbers in
    let some : ◌≡◌ {A = Option (List ℕ)} (Some m) (Some message) =
    sym (ap message_in is ∙ message_in-written (carry i a j m) well) ∙ says.carried in
    is ∙ same_carry i a j m seq ack k message (omega (arith, numbers, well.0, well.1, seq_below, ack_below))
    (omega (arith, numbers, well.0, well.1, seq_below, ack_below)) code cc

-- and it is read of its bytes
pub says_written : (seq ack k : ℕ) (message w : List ℕ) → IsWellFormed (carry seq ack k message)
    → w ≡ canonical (carry seq ack k message) → SaysCarry seq ack k message w
says_written seq ack k message w well is = record {
  code = ap (λ x. slice_index x 1) is;
  numbers = ap (λ x. slice_index x CONTROL_PLACE % 64) is
      ∙ numbers_in (canonical_kind (field_size k) message) seq ack well.0 well.1;
  carried = ap message_in is ∙ message_in-written (carry seq ack k message) well;
}
