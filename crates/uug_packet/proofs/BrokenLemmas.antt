-- When a data packet begins and is complete, but no packet stands at the front.
use Rattle.std.proofs.Common.{◌≡◌, ◌≢◌, ℕ, ◌+◌, ◌/◌, ◌%◌, ◌≤◌, ◌==◌, bit_xor, Bool, true, false, if◌then◌else◌, List, ◌++◌, length, take, drop, slice_index, Option, Some, None, Result, Ok, Err, subst, refl, sym, ap, ◌∙◌, arith, ◌↔◌, ◌⊎◌, inl, inr}
use Rattle.std.proofs.lemmas.Bool.Decides.{nat_tests}
use Rattle.std.proofs.lemmas.List.{take-append-drop}
use Rattle.std.specs.Option.{ok_or}
use Rattle.std.specs.Result.{IsErrAnd}
use Rattle.uug_packet.specs.declared.decoding.NoPacket.{NoPacket}
use Rattle.uug_packet.specs.declared.decoding.NoPacket.TheVariants.{BadStart, BadK, BadXor, BadKind, BadSum, BadLength}
use Rattle.uug_packet.specs.declared.decoding.NoPacket.TheVariants as refusals
use Rattle.uug_packet.specs.declared.field.FieldKind.{FieldKind}
use Rattle.uug_packet.specs.declared.field.FieldKind.TheVariants as kinds
use Rattle.uug_packet.specs.declared.header.Header.{Header}
use Rattle.uug_packet.specs.declared.header.TheConstants.{CONTROL_K, HEADER_SIZE}
use Rattle.uug_packet.specs.declared.packet.Packet.{Packet}
use Rattle.uug_packet.specs.Bytes.{AreBytes}
use Rattle.uug_packet.specs.Checksum.{check}
use Rattle.uug_packet.specs.Field.{field_size}
use Rattle.uug_packet.specs.Decoded.{◌>>=◌, header_at, control_decoded, kind_of, field_at, message_at, checked, data_decoded, decoded}
use Rattle.uug_packet.specs.Packet.{PacketValue, carry}
use Rattle.uug_packet.specs.Spelling.{IsSpelling, checksum_of, data_byte}
use Rattle.uug_packet.specs.Waits.{BeginsData, IsBroken, IsDamage}
use Rattle.uug_packet.proofs.HeaderLemmas.{header-header_at, ReadsHeader}
use Rattle.uug_packet.proofs.DecodedLemmas.{spelling-decoded, decoded-spelling, kind_of-data_byte, field_at-ok, same_number}
use Rattle.uug_packet.proofs.DecodeLemmas.{Gives, bind_err, kind_ok, begins_data, decoded-begins}

-- ---- what is broken is refused as damage

data_decoded-whole : (h : Header) (rest : List ℕ) (kind : FieldKind) → kind_of h.control ≡ Some kind → field_size h.k ≤ length rest → data_decoded h rest ≡ (checked (h.checksum == checksum_of (bit_xor (check (take (field_size h.k) rest)) h.control)) (message_at kind (take (field_size h.k) rest)) >>= (λ message. Ok (carry (h.control / 8 % 8) (h.control % 8) h.k message, HEADER_SIZE + field_size h.k)))
data_decoded-whole h rest kind says whole =
    let field : field_at (field_size h.k) rest ≡ Ok (take (field_size h.k) rest) = grind (arith, nat_tests) in
    rw (says, field) refl

-- of a complete field the sum is wrong or the length is bad
abbrev IsOfField : NoPacket → Type 0
IsOfField e = (e ≡ BadSum) ⊎ (e ≡ BadLength)

message_at-err : (kind : FieldKind) (field : List ℕ) (e : NoPacket) → message_at kind field ≡ Err e → e ≡ BadLength
message_at-err kinds.Long field e h = cc
message_at-err kinds.Short field e h = grind (arith, nat_tests)

checked-err : (right : Bool) (kind : FieldKind) (field : List ℕ) (e : NoPacket) → checked right (message_at kind field) ≡ Err e → IsOfField e
checked-err true kind field e h = inr (message_at-err kind field e h)
checked-err false kind field e h = inl (cc)

-- either a packet stands there, or the field is refused
by_field : (s : List ℕ) (read : Result (List ℕ) NoPacket) (f : List ℕ → PacketValue × ℕ) → decoded s ≡ (read >>= (λ message. Ok (f message))) → ((e : NoPacket) → read ≡ Err e → IsOfField e) → ((p : PacketValue) (n : ℕ) → decoded s ≡ Ok (p, n) → ⊥) → (e : NoPacket) × (decoded s ≡ Err e) × IsOfField e
by_field s (Ok message) f whole of_field none = absurd (none (f message).0 (f message).1 whole)
by_field s (Err e) f whole of_field none = (e, whole, of_field e refl)

none_decoded : (s : List ℕ) → AreBytes s → ((p : PacketValue) (w more : List ℕ) → IsSpelling p w → s ≡ w ++ more → ⊥) → (p : PacketValue) (n : ℕ) → decoded s ≡ Ok (p, n) → ⊥
none_decoded s bytes none p n e =
    none p (take n s) (drop n s) (spelling-decoded s p n bytes e).spelled (sym (take-append-drop n s))

k_of_begins : (s : List ℕ) (k : ℕ) (rest : List ℕ) → BeginsData s k rest → slice_index s 1 ≢ CONTROL_K
k_of_begins s k rest d e =
    let second : slice_index s 1 ≡ k = ap (λ x. slice_index x 1) d.joined in
    omega (arith, second, e, d.code.1)

IsDamage-field : (e : NoPacket) (s : List ℕ) → IsOfField e → slice_index s 1 ≢ CONTROL_K → IsDamage e s
IsDamage-field e s (inl sum) other = rw sum other
IsDamage-field e s (inr bad) other = rw bad tt

pub damage_of_broken : (s : List ℕ) → AreBytes s → IsBroken s → (e : NoPacket) × (decoded s ≡ Err e) × IsDamage e s
damage_of_broken s bytes b =
    let d = b.begins in
    let h : Header = record { k = b.k; checksum = d.checksum; control = data_byte d.kind d.seq d.ack } in
    let read = decoded-begins s b.k b.rest d ∙ data_decoded-whole h b.rest d.kind (kind_of-data_byte d.kind d.seq d.ack d.seq_below d.ack_below) b.complete in
    let refused = by_field s _ _ read (λ e. checked-err _ d.kind _ e) (none_decoded s bytes b.none) in
    (refused.0, refused.1, IsDamage-field refused.0 s refused.2 (k_of_begins s b.k b.rest d))

-- ---- what is refused as damage is broken

header_at-damage : (s : List ℕ) (e : NoPacket) → header_at s ≡ Err e → IsDamage e s → ⊥
unfolding header_at
header_at-damage s BadSum h damage = grind (arith, nat_tests)
header_at-damage s BadLength h damage = grind (arith, nat_tests)
header_at-damage s refusals.Short h damage = damage
header_at-damage s BadStart h damage = damage
header_at-damage s BadK h damage = damage
header_at-damage s BadXor h damage = damage
header_at-damage s BadKind h damage = damage

control_damage : (s : List ℕ) (h : Header) (e : NoPacket) → slice_index s 1 ≡ CONTROL_K → control_decoded h ≡ Err e → IsDamage e s → ⊥
control_damage s h BadSum k read damage = damage k
control_damage s h BadLength k read damage = grind (arith, nat_tests)
control_damage s h refusals.Short k read damage = damage
control_damage s h BadStart k read damage = damage
control_damage s h BadK k read damage = damage
control_damage s h BadXor k read damage = damage
control_damage s h BadKind k read damage = damage

kind_damage : (o : Option FieldKind) (s : List ℕ) (e : NoPacket) → ok_or o BadKind ≡ Err e → IsDamage e s → ⊥
kind_damage (Some kind) s e h damage = cc
kind_damage None s e h damage = let is : e ≡ BadKind = cc in let P : NoPacket → Type 0 = λ x. IsDamage x s in subst P is damage

field_damage : (size : ℕ) (rest s : List ℕ) (e : NoPacket) → field_at size rest ≡ Err e → IsDamage e s → ⊥
field_damage size rest s e h damage =
    let is : e ≡ refusals.Short = grind (arith, nat_tests) in
    let P : NoPacket → Type 0 = λ x. IsDamage x s in subst P is damage

record Complete (h : Header) (rest : List ℕ) : Type 0 where
  kind : FieldKind
  says : kind_of h.control ≡ Some kind
  complete : field_size h.k ≤ length rest

data_damage : (s : List ℕ) (h : Header) (rest : List ℕ) (e : NoPacket) → data_decoded h rest ≡ Err e → IsDamage e s → Complete h rest
data_damage s h rest e read damage =
    elim (bind_err (ok_or (kind_of h.control) BadKind) _ e read) [
      | inl kind ↦ absurd (kind_damage _ s e kind damage)
      | inr known ↦ elim (bind_err (field_at (field_size h.k) rest) _ e known.2) [
        | inl cut ↦ absurd (field_damage _ rest s e cut damage)
        | inr whole ↦ record { kind = known.0; says = kind_ok _ _ known.1; complete = (field_at-ok _ rest whole.0 whole.1).1 }
      ]
    ]

not_spelled : (s : List ℕ) (e : NoPacket) → decoded s ≡ Err e → (p : PacketValue) (w more : List ℕ) → IsSpelling p w → s ≡ w ++ more → ⊥
not_spelled s e refused p w more h front =
    let read : decoded (w ++ more) ≡ Ok (p, length w) = decoded-spelling p w more h in
    let same : decoded s ≡ Ok (p, length w) = ap decoded front ∙ read in
    let clash : ◌≡◌ {A = Result (PacketValue × ℕ) NoPacket} (Ok (p, length w)) (Err e) = sym same ∙ refused in
    cc

broken_part : (s : List ℕ) (h : Header) (e : NoPacket) → ReadsHeader s h → decoded s ≡ Err e → IsDamage e s → (b : Bool) → (h.k == CONTROL_K) ≡ b → (if b then control_decoded h else data_decoded h (drop HEADER_SIZE s)) ≡ Err e → IsBroken s
broken_part s h e reads refused damage true k read =
    let same : slice_index s 1 ≡ h.k = ap (λ x. slice_index x 1) reads.spelled in
    absurd (control_damage s h e (same ∙ same_number _ _ k) read damage)
broken_part s h e reads refused damage false k read =
    let other : h.k ≢ CONTROL_K = grind (arith, nat_tests) in
    let c = data_damage s h (drop HEADER_SIZE s) e read damage in
    record {
      k = h.k;
      rest = drop HEADER_SIZE s;
      begins = begins_data s h c.kind reads other c.says;
      complete = c.complete;
      none = not_spelled s e refused;
    }

pub broken_of_damage : (s : List ℕ) (e : NoPacket) → AreBytes s → decoded s ≡ Err e → IsDamage e s → IsBroken s
unfolding decoded
broken_of_damage s e bytes refused damage =
    elim (bind_err (header_at s) _ e refused) [
      | inl cut ↦ absurd (header_at-damage s e cut damage)
      | inr read ↦ broken_part s read.0 e (header-header_at s read.0 bytes read.1) refused damage (read.0.k == CONTROL_K) refl read.2
    ]

pub damage_iff_broken : (s : List ℕ) (r : Result (Packet × ℕ) NoPacket) → AreBytes s → Gives r (decoded s) → IsErrAnd r (λ fault. IsDamage fault s) ↔ IsBroken s
damage_iff_broken s (Ok found) bytes e =
    (λ h. absurd h, λ b. let d = damage_of_broken s bytes b in let read : decoded s ≡ Err d.0 = d.1 in cc)
damage_iff_broken s (Err fault) bytes e =
    (λ h. broken_of_damage s fault bytes e h, λ b. let d = damage_of_broken s bytes b in let read : decoded s ≡ Err d.0 = d.1 in let is : d.0 ≡ fault = cc in let P : NoPacket → Type 0 = λ x. IsDamage x s in subst P is d.2)
