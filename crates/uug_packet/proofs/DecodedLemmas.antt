-- That `decoded` and the spellings of packets agree.
use Rattle.std.proofs.Common.{◌≡◌, ◌≢◌, ℕ, ◌+◌, ◌/◌, ◌%◌, ◌<◌, ◌≤◌, ◌==◌, bit_xor, List, ◌++◌, length, length-append, length-drop, length-take, subst, if◌then◌else◌, lit<, inl, inr, take, drop, Bool, true, false, Option, Some, None, Result, Ok, Err, refl, sym, ap, ◌∙◌, arith}
use Rattle.std.proofs.Math.Seq.{take-append_seam, take-append-add}
use Rattle.std.proofs.lemmas.Bool.{cases_lt}
use Rattle.std.proofs.lemmas.Bool.Decides.{nat_tests}
use Rattle.std.proofs.lemmas.List.{get_or-take, get_or-drop, get_or_past, length-take-le}
use Rattle.std.specs.Option.{ok_or}
use Rattle.uug_packet.specs.declared.decoding.NoPacket.{NoPacket}
use Rattle.uug_packet.specs.declared.decoding.NoPacket.TheVariants.{BadKind}
use Rattle.uug_packet.specs.declared.field.FieldKind.{FieldKind}
use Rattle.uug_packet.specs.declared.field.FieldKind.TheVariants.{Long, Short}
use Rattle.uug_packet.specs.declared.field.TheConstants.{FIELD_MIN}
use Rattle.uug_packet.specs.declared.header.Header.{Header}
use Rattle.uug_packet.specs.declared.header.TheConstants.{CONTROL_K, HEADER_SIZE}
use Rattle.uug_packet.specs.Bytes.{AreBytes}
use Rattle.uug_packet.specs.Checksum.{check}
use Rattle.uug_packet.specs.Field.{IsFieldCode, field_size, Holds, canonical_kind, canonical_field}
use Rattle.uug_packet.specs.Packet.{ControlValue, close, rj, srj, rr, init_c, init_b, init_a, PacketValue, control, carry}
use Rattle.uug_packet.specs.Spelling.{checksum_of, header, IsControlByte, data_byte, with_field, IsSpelling, canonical}
use Rattle.uug_packet.specs.Decoded.{◌>>=◌, header_at, control_of, control_decoded, kind_of, field_at, message_at, checked, data_decoded, decoded}
use Rattle.uug_packet.proofs.FieldLemmas.{field_size-least, message_at-holds, holds-message_at, holds-canonical}
use Rattle.uug_packet.proofs.HeaderLemmas.{header_at-header, ReadsHeader, header-header_at}

-- ---- what is spelled is read

control_of-byte : (p : ControlValue) (c : ℕ) → IsControlByte p c → control_of c ≡ Some p
control_of-byte close c h = grind (arith, nat_tests)
control_of-byte (rj y) c h = grind (arith, nat_tests)
control_of-byte (srj y) c h = grind (arith, nat_tests)
control_of-byte (rr y) c h = grind (arith, nat_tests)
control_of-byte (init_c y) c h = grind (arith, nat_tests)
control_of-byte (init_b y) c h = grind (arith, nat_tests)
control_of-byte (init_a y) c h = grind (arith, nat_tests)

decoded-control : (p : ControlValue) (c : ℕ) (rest : List ℕ) → control_of c ≡ Some p → decoded (header CONTROL_K (checksum_of c) c ++ rest) ≡ Ok (control p, HEADER_SIZE)
unfolding decoded
decoded-control p c rest h =
    let read = header_at-header CONTROL_K (checksum_of c) c rest (omega arith) (omega arith) in
    grind (arith, nat_tests, read)

-- what a data packet's control byte says
pub kind_of-data_byte : (kind : FieldKind) (seq ack : ℕ) → seq < 8 → ack < 8 → kind_of (data_byte kind seq ack) ≡ Some kind
kind_of-data_byte Long seq ack low high = grind (arith, nat_tests)
kind_of-data_byte Short seq ack low high = grind (arith, nat_tests)

seq-data_byte : (kind : FieldKind) (seq ack : ℕ) → seq < 8 → ack < 8 → data_byte kind seq ack / 8 % 8 ≡ seq
seq-data_byte Long seq ack low high = omega arith
seq-data_byte Short seq ack low high = omega arith

ack-data_byte : (kind : FieldKind) (seq ack : ℕ) → seq < 8 → ack < 8 → data_byte kind seq ack % 8 ≡ ack
ack-data_byte Long seq ack low high = omega arith
ack-data_byte Short seq ack low high = omega arith

pub length-holds : (kind : FieldKind) (size : ℕ) (message field : List ℕ) → Holds kind size message field → length field ≡ size
length-holds Long size message field h = ap length h.1 ∙ h.0
length-holds Short size message field h = h.whole

field_at-append : (size : ℕ) (field rest : List ℕ) → length field ≡ size → field_at size (field ++ rest) ≡ Ok field
field_at-append size field rest h =
    let first : take size (field ++ rest) ≡ field = rw (← h) (take-append_seam field rest) in
    let long : size ≤ length (field ++ rest) = omega (arith, length-append field rest) in
    grind (arith, nat_tests, first, long)

-- each step of reading a data packet gives a value
data_decoded-steps : (h : Header) (rest : List ℕ) (kind : FieldKind) (field message : List ℕ) → kind_of h.control ≡ Some kind → field_at (field_size h.k) rest ≡ Ok field → h.checksum ≡ checksum_of (bit_xor (check field) h.control) → message_at kind field ≡ Ok message → data_decoded h rest ≡ Ok (carry (h.control / 8 % 8) (h.control % 8) h.k message, HEADER_SIZE + field_size h.k)
data_decoded-steps h rest kind field message said first sum found =
    let right : (h.checksum == checksum_of (bit_xor (check field) h.control)) ≡ true = grind (arith, nat_tests) in
    rw (said, first, right, found) refl

data_decoded-holds : (kind : FieldKind) (seq ack k : ℕ) (message field rest : List ℕ) → seq < 8 → ack < 8 → Holds kind (field_size k) message field → data_decoded (record { k = k; checksum = checksum_of (bit_xor (check field) (data_byte kind seq ack)); control = data_byte kind seq ack }) (field ++ rest) ≡ Ok (carry seq ack k message, HEADER_SIZE + field_size k)
data_decoded-holds kind seq ack k message field rest seq_below ack_below holds =
    let h : Header = record { k = k; checksum = checksum_of (bit_xor (check field) (data_byte kind seq ack)); control = data_byte kind seq ack } in
    let read = data_decoded-steps h (field ++ rest) kind field message (kind_of-data_byte kind seq ack seq_below ack_below)
    (field_at-append (field_size k) field rest (length-holds kind (field_size k) message field holds)) refl
    (message_at-holds kind (field_size k) message field holds) in
    read ∙ rw (seq-data_byte kind seq ack seq_below ack_below, ack-data_byte kind seq ack seq_below ack_below) refl

-- the header and the field, and what follows, in another order of joining
decoded-data : (kind : FieldKind) (seq ack k : ℕ) (message field rest : List ℕ) → IsFieldCode k → seq < 8 → ack < 8 → Holds kind (field_size k) message field → decoded (with_field kind seq ack k field ++ rest) ≡ Ok (carry seq ack k message, HEADER_SIZE + field_size k)
unfolding decoded
decoded-data kind seq ack k message field rest code seq_below ack_below holds =
    let c = data_byte kind seq ack in
    let sum = checksum_of (bit_xor (check field) c) in
    let read : header_at (header k sum c ++ (field ++ rest)) ≡ Ok (record { k = k; checksum = sum; control = c }) = header_at-header k sum c (field ++ rest) code.0 (omega (arith, code.1)) in
    let other : (k == CONTROL_K) ≡ false = grind (arith, nat_tests) in
    rw (read, other) (data_decoded-holds kind seq ack k message field rest seq_below ack_below holds)

-- what is spelled is read, whatever follows it
pub decoded-spelling : (p : PacketValue) (w rest : List ℕ) → IsSpelling p w → decoded (w ++ rest) ≡ Ok (p, length w)
decoded-spelling (control p) w rest h =
    rw h.2 (decoded-control p h.0 rest (control_of-byte p h.0 h.1))
decoded-spelling (carry seq ack k message) w rest h =
    let size = length-holds h.kind (field_size k) message h.field h.holds in
    let read = decoded-data h.kind seq ack k message h.field rest h.code h.seq_below h.ack_below h.holds in
    let count : length w ≡ HEADER_SIZE + field_size k = omega (arith, ap length h.joined, size) in
    rw (count, h.joined) read

-- ---- what is read is spelled

-- a step that gives a value, taken apart
pub bind_ok : {A B : Type 0} (r : Result A NoPacket) (f : A → Result B NoPacket) (y : B) → (r >>= f) ≡ Ok y → (x : A) × (r ≡ Ok x) × (f x ≡ Ok y)
bind_ok (Ok x) f y h = (x, refl, h)
bind_ok (Err e) f y h = cc

-- the parts of two equal pairs
ok_pair : {A B : Type 0} (a c : A) (b d : B) → ◌≡◌ {A = Result (A × B) NoPacket} (Ok (a, b)) (Ok (c, d)) → (a ≡ c) × (b ≡ d)
ok_pair {A} {B} a c b d e =
    let same : ◌≡◌ {A = A × B} (a, b) (c, d) = cc in (ap (λ z. z.0) same, ap (λ z. z.1) same)

-- what was read: the bytes at the front spell it
pub record ReadsPacket (s : List ℕ) (p : PacketValue) (n : ℕ) : Type 0 where
  pub spelled : IsSpelling p (take n s)
  pub long : n ≤ length s

-- the control byte says the control packet that is read from it
pub IsControlByte-control_of : (p : ControlValue) (c : ℕ) → control_of c ≡ Some p → IsControlByte p c
IsControlByte-control_of close c h = (c % 8, grind (arith, nat_tests), grind (arith, nat_tests))
IsControlByte-control_of (rj y) c h = (grind (arith, nat_tests), grind (arith, nat_tests))
IsControlByte-control_of (srj y) c h = (grind (arith, nat_tests), grind (arith, nat_tests))
IsControlByte-control_of (rr y) c h = (grind (arith, nat_tests), grind (arith, nat_tests))
IsControlByte-control_of (init_c y) c h = (grind (arith, nat_tests), grind (arith, nat_tests))
IsControlByte-control_of (init_b y) c h = (grind (arith, nat_tests), grind (arith, nat_tests))
IsControlByte-control_of (init_a y) c h = (grind (arith, nat_tests), grind (arith, nat_tests))

pub record DecodesControl (h : Header) (p : PacketValue) (n : ℕ) : Type 0 where
  pub kind : ControlValue
  pub says : control_of h.control ≡ Some kind
  pub sum : h.checksum ≡ checksum_of h.control
  pub packet_is : p ≡ control kind
  pub length_is : n ≡ HEADER_SIZE

pub decodes_control : (h : Header) (p : PacketValue) (n : ℕ) → control_decoded h ≡ Ok (p, n) → DecodesControl h p n
decodes_control h p n e =
    let step = bind_ok (ok_or (control_of h.control) BadKind) _ (p, n) e in
    record {
      kind = step.0;
      says = grind (arith, step);
      sum = grind (arith, nat_tests, step);
      packet_is = grind (arith, nat_tests, step);
      length_is = grind (arith, nat_tests, step);
    }

reads_control : (s : List ℕ) (h : Header) (p : PacketValue) (n : ℕ) → ReadsHeader s h → h.k ≡ CONTROL_K → DecodesControl h p n → ReadsPacket s p n
reads_control s h p n reads k d =
    let front : take HEADER_SIZE s ≡ header h.k h.checksum h.control = ap (take HEADER_SIZE) reads.spelled in
    rw (d.packet_is, d.length_is) (record {
      spelled = (h.control, IsControlByte-control_of d.kind h.control d.says, front ∙ rw (k, d.sum) refl);
      long = reads.long;
    })

pub record DecodesData (h : Header) (rest : List ℕ) (p : PacketValue) (n : ℕ) : Type 0 where
  pub kind : FieldKind
  pub field : List ℕ
  pub message : List ℕ
  pub says : kind_of h.control ≡ Some kind
  pub field_is : take (field_size h.k) rest ≡ field
  pub complete : field_size h.k ≤ length rest
  pub sum : h.checksum ≡ checksum_of (bit_xor (check field) h.control)
  pub valid : message_at kind field ≡ Ok message
  pub packet_is : p ≡ carry (h.control / 8 % 8) (h.control % 8) h.k message
  pub length_is : n ≡ HEADER_SIZE + field_size h.k

kind_ok : (o : Option FieldKind) (kind : FieldKind) → ok_or o BadKind ≡ Ok kind → o ≡ Some kind
kind_ok None kind e = cc
kind_ok (Some found) kind e = cc

pub field_at-ok : (size : ℕ) (rest field : List ℕ) → field_at size rest ≡ Ok field → (take size rest ≡ field) × (size ≤ length rest)
field_at-ok size rest field e = (grind (arith, nat_tests), grind (arith, nat_tests))

checked-ok : (right : Bool) (read : Result (List ℕ) NoPacket) (message : List ℕ) → checked right read ≡ Ok message → (right ≡ true) × (read ≡ Ok message)
checked-ok true read message e = (refl, e)
checked-ok false read message e = cc

pub same_number : (a b : ℕ) → (a == b) ≡ true → a ≡ b
same_number a b e = grind (arith, nat_tests)

pub decodes_data : (h : Header) (rest : List ℕ) (p : PacketValue) (n : ℕ) → data_decoded h rest ≡ Ok (p, n) → DecodesData h rest p n
decodes_data h rest p n e =
    let first = bind_ok (ok_or (kind_of h.control) BadKind) _ (p, n) e in
    let second = bind_ok (field_at (field_size h.k) rest) _ (p, n) first.2 in
    let third = bind_ok (checked (h.checksum == checksum_of (bit_xor (check second.0) h.control)) (message_at first.0 second.0)) _ (p, n) second.2 in
    let last = ok_pair _ _ _ _ third.2 in
    let whole = field_at-ok (field_size h.k) rest second.0 second.1 in
    let right = checked-ok _ _ _ third.1 in
    record {
      kind = first.0;
      field = second.0;
      message = third.0;
      says = kind_ok _ _ first.1;
      field_is = whole.0;
      complete = whole.1;
      sum = same_number _ _ right.0;
      valid = right.1;
      packet_is = sym last.0;
      length_is = sym last.1;
    }

-- the control byte of a data packet is put together again
pub data_byte-parts : (kind : FieldKind) (c : ℕ) → kind_of c ≡ Some kind → data_byte kind (c / 8 % 8) (c % 8) ≡ c
data_byte-parts Long c e = grind (arith, nat_tests)
data_byte-parts Short c e = grind (arith, nat_tests)

AreBytes-take : (n : ℕ) (s : List ℕ) → AreBytes s → AreBytes (take n s)
AreBytes-take n s bytes i =
    elim (cases_lt i n) [
      | inl before ↦ rw (get_or-take n s i 0 before) (bytes i)
      | inr past ↦ rw (get_or_past (take n s) i 0 (omega (arith, length-take n s))) (lit< tt)
    ]

AreBytes-drop : (n : ℕ) (s : List ℕ) → AreBytes s → AreBytes (drop n s)
AreBytes-drop n s bytes i = rw (get_or-drop n s i 0) (bytes (n + i))

-- a header and the field behind it
take-header : (k checksum c size : ℕ) (s rest : List ℕ) → s ≡ header k checksum c ++ rest → take (HEADER_SIZE + size) s ≡ header k checksum c ++ take size rest
take-header k checksum c size s rest e = rw e (take-append-add (header k checksum c) rest size)

-- the field that was read holds the message
holds_read : (h : Header) (rest : List ℕ) (p : PacketValue) (n : ℕ) → AreBytes rest → 1 ≤ h.k → (d : DecodesData h rest p n) → Holds d.kind (field_size h.k) d.message d.field
holds_read h rest p n bytes low d =
    let size : length d.field ≡ field_size h.k = ap length (sym d.field_is) ∙ length-take-le (field_size h.k) rest d.complete in
    let field_bytes : AreBytes d.field = let P : List ℕ → Type 0 = AreBytes in subst P d.field_is (AreBytes-take (field_size h.k) rest bytes) in
    let long : FIELD_MIN ≤ length d.field = omega (arith, size, field_size-least h.k low) in
    let P : ℕ → Type 0 = λ size. Holds d.kind size d.message d.field in
    subst P size (holds-message_at d.kind d.field d.message field_bytes long d.valid)

reads_data : (s : List ℕ) (h : Header) (p : PacketValue) (n : ℕ) → AreBytes s → ReadsHeader s h → h.k ≢ CONTROL_K → DecodesData h (drop HEADER_SIZE s) p n → ReadsPacket s p n
reads_data s h p n bytes reads other d =
    let rest = drop HEADER_SIZE s in
    let holds = holds_read h rest p n (AreBytes-drop HEADER_SIZE s bytes) reads.k_low d in
    let front : take (HEADER_SIZE + field_size h.k) s ≡ header h.k h.checksum h.control ++ d.field =
    take-header h.k h.checksum h.control (field_size h.k) s rest reads.spelled ∙ ap (λ field. header h.k h.checksum h.control ++ field) d.field_is in
    let spelled : take (HEADER_SIZE + field_size h.k) s ≡ with_field d.kind (h.control / 8 % 8) (h.control % 8) h.k d.field =
    front ∙ rw (data_byte-parts d.kind h.control d.says, d.sum) refl in
    rw (d.packet_is, d.length_is) (record {
      spelled = record {
        kind = d.kind;
        field = d.field;
        code = (reads.k_low, omega (arith, reads.k_high, other));
        seq_below = omega arith;
        ack_below = omega arith;
        holds = holds;
        joined = spelled;
      };
      long = omega (arith, d.complete, length-drop HEADER_SIZE s, reads.long);
    })

reads_part : (s : List ℕ) (h : Header) (p : PacketValue) (n : ℕ) → AreBytes s → ReadsHeader s h → (b : Bool) → (h.k == CONTROL_K) ≡ b → (if b then control_decoded h else data_decoded h (drop HEADER_SIZE s)) ≡ Ok (p, n) → ReadsPacket s p n
reads_part s h p n bytes reads true k e =
    reads_control s h p n reads (same_number _ _ k) (decodes_control h p n e)
reads_part s h p n bytes reads false k e =
    let other : h.k ≢ CONTROL_K = grind (arith, nat_tests) in
    reads_data s h p n bytes reads other (decodes_data h (drop HEADER_SIZE s) p n e)

-- what is read is spelled
pub spelling-decoded : (s : List ℕ) (p : PacketValue) (n : ℕ) → AreBytes s → decoded s ≡ Ok (p, n) → ReadsPacket s p n
unfolding decoded
spelling-decoded s p n bytes e =
    let step = bind_ok (header_at s) _ (p, n) e in
    reads_part s step.0 p n bytes (header-header_at s step.0 bytes step.1) (step.0.k == CONTROL_K) refl step.2

-- ---- one list, one packet

-- no spelling is a prefix of another, and no list spells two packets
pub same_spelling : (p q : PacketValue) (w v x y : List ℕ) → IsSpelling p w → IsSpelling q v → w ++ x ≡ v ++ y → (p ≡ q) × (w ≡ v)
same_spelling p q w v x y left right e =
    let first : decoded (w ++ x) ≡ Ok (p, length w) = decoded-spelling p w x left in
    let second : decoded (v ++ y) ≡ Ok (q, length v) = decoded-spelling q v y right in
    let same = ok_pair p q (length w) (length v) (cc) in
    (same.0, sym (take-append_seam w x) ∙ ap (take (length w)) e ∙ rw same.1 (take-append_seam v y))

-- ---- what is written is a spelling

pub fits-holds : (kind : FieldKind) (size : ℕ) (message field : List ℕ) → Holds kind size message field → length message ≤ size
fits-holds Long size message field h = omega (arith, h.0)
fits-holds Short size message field h = omega (arith, h.fewer)

pub spells-written : (seq ack k : ℕ) (message : List ℕ) → IsFieldCode k → seq < 8 → ack < 8 → length message ≤ field_size k → IsSpelling (carry seq ack k message) (canonical (carry seq ack k message))
spells-written seq ack k message code seq_below ack_below fits =
    record {
      kind = canonical_kind (field_size k) message;
      field = canonical_field (field_size k) message;
      code = code;
      seq_below = seq_below;
      ack_below = ack_below;
      holds = holds-canonical (field_size k) message fits;
      joined = refl;
    }

-- the spelling that is written is one, of each packet that has any
pub IsSpelling-canonical : (p : PacketValue) (w : List ℕ) → IsSpelling p w → IsSpelling p (canonical p)
IsSpelling-canonical (control close) w h = (8, (0, omega arith, refl), refl)
IsSpelling-canonical (control (rj y)) w h = (_, (h.1.0, refl), refl)
IsSpelling-canonical (control (srj y)) w h = (_, (h.1.0, refl), refl)
IsSpelling-canonical (control (rr y)) w h = (_, (h.1.0, refl), refl)
IsSpelling-canonical (control (init_c y)) w h = (_, (h.1.0, refl), refl)
IsSpelling-canonical (control (init_b y)) w h = (_, (h.1.0, refl), refl)
IsSpelling-canonical (control (init_a y)) w h = (_, (h.1.0, refl), refl)
IsSpelling-canonical (carry seq ack k message) w h =
    spells-written seq ack k message h.code h.seq_below h.ack_below
    (fits-holds h.kind (field_size k) message h.field h.holds)
