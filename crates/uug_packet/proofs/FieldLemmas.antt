-- Fields and their messages: what is held is found, what is found is held, and what is written is held.
use Rattle.std.proofs.Common.{◌≡◌, ℕ, ◌+◌, ◌-◌, ◌*◌, ◌/◌, ◌%◌, ◌^◌, ◌<◌, ◌≤◌, List, [], ◌∷◌, ◌++◌, length, append-nil, length-append, length-drop, length-take, take, drop, slice_index, replicate, Ok, refl, sym, ap, ◌∙◌, arith, lit<, inl, inr}
use Rattle.std.proofs.Math.Nat.{pow-le-pow_right}
use Rattle.std.proofs.Math.Seq.{take-append_seam, drop-append_seam}
use Rattle.std.proofs.lemmas.List.{length-replicate, take-append-drop}
use Rattle.std.proofs.lemmas.Bool.{cases_lt}
use Rattle.std.proofs.lemmas.Bool.Decides.{nat_tests}
use Rattle.uug_packet.specs.declared.field.FieldKind.{FieldKind}
use Rattle.uug_packet.specs.declared.field.FieldKind.TheVariants.{Long, Short}
use Rattle.uug_packet.specs.declared.field.TheConstants.{FIELD_CODE_MAX, FIELD_MIN, FIELD_MAX, ONE_BYTE_MAX}
use Rattle.uug_packet.specs.declared.packet.TheConstants.{PACKET_MAX}
use Rattle.uug_packet.specs.Bytes.{AreBytes}
use Rattle.uug_packet.specs.Waits.{Waits}
use Rattle.uug_packet.specs.Field.{field_size, SpellsMissing, HoldsShort, Holds, canonical_kind, canonical_front, canonical_field}
use Rattle.uug_packet.specs.Decoded.{valid_bytes, message_at}

-- ---- sizes

grows : (i j : ℕ) → i ≤ j → 2 ^ i ≤ 2 ^ j
grows i j h = pow-le-pow_right (lit< tt) h

pub field_size-least : (k : ℕ) → 1 ≤ k → FIELD_MIN ≤ field_size k
field_size-least k h = grows 5 (k + 4) (omega arith)

pub field_size-most : (k : ℕ) → k ≤ FIELD_CODE_MAX → field_size k ≤ FIELD_MAX
field_size-most k h = grows (k + 4) 12 (omega arith)

-- bytes that wait are fewer than those of the longest packet
pub Waits-fits : (s : List ℕ) → Waits s → length s < PACKET_MAX
Waits-fits [] (inl cut) = omega arith
Waits-fits (b ∷ s) (inl cut) = omega (arith, cut.1)
Waits-fits s (inr w) = omega (arith, ap length w.2.joined, w.3, field_size-most w.0 w.2.code.1)

-- ---- what is held is found

-- the valid bytes lie behind the front
valid_bytes-joined : (front message padding : List ℕ) (missing : ℕ) → length front ≤ missing → length padding + length front ≡ missing → valid_bytes (front ++ (message ++ padding)) (length front) missing ≡ Ok message
valid_bytes-joined front message padding missing low whole =
    let count : length (front ++ (message ++ padding)) - missing ≡ length message =
    omega (arith, length-append front (message ++ padding), length-append message padding) in
    let fits : missing ≤ length (front ++ (message ++ padding)) =
    omega (arith, length-append front (message ++ padding), length-append message padding) in
    let rest : drop (length front) (front ++ (message ++ padding)) ≡ message ++ padding = drop-append_seam front (message ++ padding) in
    let first : take (length message) (message ++ padding) ≡ message = take-append_seam message padding in
    grind (arith, nat_tests, count, fits, rest, first)

short_one : (d : ℕ) (message padding : List ℕ) → 1 ≤ d → d ≤ ONE_BYTE_MAX → length padding + 1 ≡ d → message_at Short ((d ∷ []) ++ (message ++ padding)) ≡ Ok message
short_one d message padding low high whole =
    let read : valid_bytes (d ∷ (message ++ padding)) 1 d ≡ Ok message = valid_bytes-joined (d ∷ []) message padding d low whole in
    grind (arith, nat_tests, read)

short_two : (d : ℕ) (message padding : List ℕ) → 2 ≤ d → length padding + 2 ≡ d → message_at Short (((128 + d % 128) ∷ (d / 128) ∷ []) ++ (message ++ padding)) ≡ Ok message
short_two d message padding low whole =
    let said : (128 + d % 128) % 128 + 128 * (d / 128) ≡ d = omega arith in
    let read : valid_bytes ((128 + d % 128) ∷ (d / 128) ∷ (message ++ padding)) 2 d ≡ Ok message = valid_bytes-joined ((128 + d % 128) ∷ (d / 128) ∷ []) message padding d low whole in
    let larger : ONE_BYTE_MAX < 128 + d % 128 = omega arith in
    grind (arith, nat_tests, said, read, larger)

message_at-short : (size : ℕ) (message field : List ℕ) → HoldsShort size message field → message_at Short field ≡ Ok message
message_at-short size message field h =
    let whole : length h.padding + length h.front ≡ h.missing =
    omega (arith, h.fewer, h.whole, ap length h.joined, length-append h.front (message ++ h.padding), length-append message h.padding) in
    elim h.says [
      | inl one ↦
          rw (h.joined, one.2) (short_one h.missing message h.padding one.0 one.1 (omega (arith, whole, ap length one.2)))
      | inr two ↦
          rw (h.joined, two.1) (short_two h.missing message h.padding two.0 (omega (arith, whole, ap length two.1)))
    ]

pub message_at-holds : (kind : FieldKind) (size : ℕ) (message field : List ℕ) → Holds kind size message field → message_at kind field ≡ Ok message
message_at-holds Long size message field h = ap Ok h.1
message_at-holds Short size message field h = message_at-short size message field h

-- ---- what is found is held

-- what `valid_bytes` has tested, and where the message lies
pub record IsValid (field : List ℕ) (front missing : ℕ) (message : List ℕ) : Type 0 where
  pub low : front ≤ missing
  pub high : missing ≤ length field
  pub message_is : take (length field - missing) (drop front field) ≡ message

pub is_valid : (field : List ℕ) (front missing : ℕ) (message : List ℕ) → valid_bytes field front missing ≡ Ok message → IsValid field front missing message
is_valid field front missing message e =
    record { low = grind (arith, nat_tests); high = grind (arith, nat_tests); message_is = grind (arith, nat_tests) }

-- a field is its front, the message and the rest
holds-valid : (field : List ℕ) (front missing : ℕ) (message : List ℕ) → IsValid field front missing message → SpellsMissing missing (take front field) → HoldsShort (length field) message field
holds-valid field front missing message v says =
    let count : length (drop front field) ≡ length field - front = length-drop front field in
    let size : length message ≡ length field - missing =
    omega (arith, ap length v.message_is, length-take (length field - missing) (drop front field), count, v.low, v.high) in
    let split : drop front field ≡ message ++ drop (length field - missing) (drop front field) =
    sym (take-append-drop (length field - missing) (drop front field)) ∙ rw v.message_is refl in
    record {
      missing = missing;
      front = take front field;
      padding = drop (length field - missing) (drop front field);
      fewer = omega (arith, size, v.high);
      says = says;
      joined = sym (take-append-drop front field) ∙ ap (λ rest. take front field ++ rest) split;
      whole = refl;
    }

-- a list of two or more, with its first two named
take_one : (s : List ℕ) → 1 ≤ length s → take 1 s ≡ slice_index s 0 ∷ []
take_one (a ∷ rest) h = refl
take_one [] h = absurd (omega arith)

take_two : (s : List ℕ) → 2 ≤ length s → take 2 s ≡ slice_index s 0 ∷ slice_index s 1 ∷ []
take_two (a ∷ b ∷ rest) h = refl
take_two (a ∷ []) h = absurd (omega arith)
take_two [] h = absurd (omega arith)

-- the front of a short field that was read in two bytes
spells_two : (first second : ℕ) → first < 256 → ONE_BYTE_MAX < first → 2 ≤ first % 128 + 128 * second → SpellsMissing (first % 128 + 128 * second) (first ∷ second ∷ [])
spells_two first second byte high low =
    let one : first ≡ 128 + (first % 128 + 128 * second) % 128 = omega arith in
    let two : second ≡ (first % 128 + 128 * second) / 128 = omega arith in
    inr (low, cc)

holds-message_at-short : (field message : List ℕ) → AreBytes field → FIELD_MIN ≤ length field → message_at Short field ≡ Ok message → HoldsShort (length field) message field
holds-message_at-short field message bytes long e =
    let first = slice_index field 0 in
    let second = slice_index field 1 in
    elim (cases_lt ONE_BYTE_MAX first) [
      | inl high ↦
          let read : valid_bytes field 2 (first % 128 + 128 * second) ≡ Ok message = grind (arith, nat_tests) in
          let v = is_valid field 2 (first % 128 + 128 * second) message read in
          holds-valid field 2 (first % 128 + 128 * second) message v
          (rw (take_two field (omega arith)) (spells_two first second (bytes 0) high v.low))
      | inr low ↦
          let read : valid_bytes field 1 first ≡ Ok message = grind (arith, nat_tests) in
          let v = is_valid field 1 first message read in
          holds-valid field 1 first message v (rw (take_one field (omega arith)) (inl (v.low, low, refl)))
    ]

pub holds-message_at : (kind : FieldKind) (field message : List ℕ) → AreBytes field → FIELD_MIN ≤ length field → message_at kind field ≡ Ok message → Holds kind (length field) message field
holds-message_at Long field message bytes long e = let same : field ≡ message = cc in (ap length (sym same), same)
holds-message_at Short field message bytes long e = holds-message_at-short field message bytes long e

-- ---- what is written is held

spells-canonical_front : (missing : ℕ) → 1 ≤ missing → SpellsMissing missing (canonical_front missing)
spells-canonical_front missing h =
    elim (cases_lt ONE_BYTE_MAX missing) [
      | inl high ↦
          let front : canonical_front missing ≡ (128 + missing % 128) ∷ (missing / 128) ∷ [] = grind (arith, nat_tests) in
          inr (omega arith, front)
      | inr low ↦
          let front : canonical_front missing ≡ missing ∷ [] = grind (arith, nat_tests) in
          inl (h, low, front)
    ]

length-spells : (missing : ℕ) (front : List ℕ) → SpellsMissing missing front → length front ≤ missing
length-spells missing front says =
    elim says [
      | inl one ↦ omega (arith, ap length one.2)
      | inr two ↦ omega (arith, ap length two.1)
    ]

canonical_field-full : (size : ℕ) (message : List ℕ) → length message ≡ size → canonical_field size message ≡ message
canonical_field-full size message full =
    let none : size - length message ≡ 0 = omega arith in
    let front : canonical_front (size - length message) ≡ [] = rw none refl in
    rw (front, none) (append-nil message)

-- the field that is written holds the message
pub holds-canonical : (size : ℕ) (message : List ℕ) → length message ≤ size → Holds (canonical_kind size message) size message (canonical_field size message)
holds-canonical size message fits =
    elim (cases_lt (length message) size) [
      | inl short ↦
          let kind : canonical_kind size message ≡ Short = grind (arith, nat_tests) in
          let says = spells-canonical_front (size - length message) (omega arith) in
          let few = length-spells (size - length message) (canonical_front (size - length message)) says in
          rw kind (record {
            missing = size - length message;
            front = canonical_front (size - length message);
            padding = replicate (size - length message - length (canonical_front (size - length message))) 0;
            fewer = omega arith;
            says = says;
            joined = refl;
            whole = simp (length-append, length-replicate) (omega arith);
          })
      | inr full ↦
          let same : length message ≡ size = omega arith in
          let kind : canonical_kind size message ≡ Long = grind (arith, nat_tests) in
          rw kind (same, canonical_field-full size message same)
    ]
