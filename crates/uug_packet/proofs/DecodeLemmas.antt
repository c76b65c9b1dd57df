-- The clauses of `decode` in terms of spellings, from the one that says that it gives what `decoded` gives.
use Rattle.std.proofs.Common.{◌≡◌, ◌≢◌, ℕ, ◌/◌, ◌%◌, ◌<◌, ◌≤◌, ◌==◌, Bool, true, false, if◌then◌else◌, List, [], ◌∷◌, ◌++◌, length, take, drop, Option, Some, None, Result, Ok, Err, MatchResult, IfOk, IsOkAnd, IsErrOf, refl, ap, ◌∙◌, arith, ◌↔◌, ◌⊎◌, inl, inr}
use Rattle.std.proofs.lemmas.Bool.Decides.{nat_tests}
use Rattle.std.specs.Option.{ok_or}
use Rattle.uug_packet.specs.declared.decoding.NoPacket.{NoPacket}
use Rattle.uug_packet.specs.declared.decoding.NoPacket.TheVariants.{Short, BadKind}
use Rattle.uug_packet.specs.declared.field.FieldKind.{FieldKind}
use Rattle.uug_packet.specs.declared.field.FieldKind.TheVariants as kinds
use Rattle.uug_packet.specs.declared.header.Header.{Header}
use Rattle.uug_packet.specs.declared.header.TheConstants.{CONTROL_K, HEADER_SIZE}
use Rattle.uug_packet.specs.declared.packet.Packet.{Packet}
use Rattle.uug_packet.specs.Bytes.{AreBytes}
use Rattle.uug_packet.specs.Field.{field_size}
use Rattle.uug_packet.specs.Decoded.{◌>>=◌, header_at, control_decoded, kind_of, field_at, message_at, checked, data_decoded, decoded}
use Rattle.uug_packet.specs.Packet.{PacketValue, shown}
use Rattle.uug_packet.specs.Spelling.{IsSpelling, header, data_byte}
use Rattle.uug_packet.specs.Waits.{IsCutHeader, BeginsData, Waits}
use Rattle.uug_packet.proofs.HeaderLemmas.{header_at-header, header-header_at, ReadsHeader}
use Rattle.uug_packet.proofs.DecodedLemmas.{spelling-decoded, decoded-spelling, kind_of-data_byte, data_byte-parts}

-- the result is what `decoded` gives
abbrev pub Gives : Result (Packet × ℕ) NoPacket → Result (PacketValue × ℕ) NoPacket → Type 0
Gives r read = MatchResult r (λ found. read ≡ Ok (shown found.0, found.1)) (λ fault. read ≡ Err fault)

-- what is read is spelled so
pub found_is_spelled : (s : List ℕ) (r : Result (Packet × ℕ) NoPacket) → AreBytes s → Gives r (decoded s) → IfOk r (λ found. IsSpelling (shown found.0) (take found.1 s))
found_is_spelled s (Ok found) bytes e = (spelling-decoded s (shown found.0) found.1 bytes e).spelled
found_is_spelled s (Err fault) bytes e = tt

pub found_is_within : (s : List ℕ) (r : Result (Packet × ℕ) NoPacket) → AreBytes s → Gives r (decoded s) → IfOk r (λ found. found.1 ≤ length s)
found_is_within s (Ok found) bytes e = (spelling-decoded s (shown found.0) found.1 bytes e).long
found_is_within s (Err fault) bytes e = tt

-- what is spelled so is read
pub spelled_is_found : (s : List ℕ) (r : Result (Packet × ℕ) NoPacket) → Gives r (decoded s) → (p : PacketValue) (w rest : List ℕ) → IsSpelling p w → s ≡ w ++ rest → IsOkAnd r (λ found. (shown found.0 ≡ p) × (found.1 ≡ length w))
spelled_is_found s (Ok found) e p w rest h front =
    let read : decoded (w ++ rest) ≡ Ok (p, length w) = decoded-spelling p w rest h in
    let same : ◌≡◌ {A = PacketValue × ℕ} (shown found.0, found.1) (p, length w) = cc in
    (ap (λ z. z.0) same, ap (λ z. z.1) same)
spelled_is_found s (Err fault) e p w rest h front =
    let read : decoded (w ++ rest) ≡ Ok (p, length w) = decoded-spelling p w rest h in
    let same : decoded s ≡ Ok (p, length w) = cc in
    cc

-- ---- when more bytes are needed

-- a step that fails, or one behind it
pub bind_err : {A B : Type 0} (r : Result A NoPacket) (f : A → Result B NoPacket) (e : NoPacket) → (r >>= f) ≡ Err e → (r ≡ Err e) ⊎ ((x : A) × (r ≡ Ok x) × (f x ≡ Err e))
bind_err (Ok x) f e h = inr (x, refl, h)
bind_err (Err d) f e h = inl (cc)

header_at-short : (s : List ℕ) → header_at s ≡ Err Short → IsCutHeader s
unfolding header_at
header_at-short [] e = tt
header_at-short (b ∷ bytes) e = (grind (arith, nat_tests), grind (arith, nat_tests))

short-cut : (s : List ℕ) → IsCutHeader s → header_at s ≡ Err Short
unfolding header_at
short-cut [] h = refl
short-cut (b ∷ bytes) h = grind (arith, nat_tests)

control_not_short : (h : Header) → control_decoded h ≡ Err Short → ⊥
control_not_short h e = grind (arith, nat_tests)

kind_not_short : (o : Option FieldKind) → ok_or o BadKind ≡ Err Short → ⊥
kind_not_short None e = cc
kind_not_short (Some kind) e = cc

message_not_short : (kind : FieldKind) (field : List ℕ) → message_at kind field ≡ Err Short → ⊥
message_not_short kinds.Long field e = cc
message_not_short kinds.Short field e = grind (arith, nat_tests)

checked_not_short : (right : Bool) (kind : FieldKind) (field : List ℕ) → checked right (message_at kind field) ≡ Err Short → ⊥
checked_not_short true kind field e = message_not_short kind field e
checked_not_short false kind field e = cc

field_at-short : (size : ℕ) (rest : List ℕ) → field_at size rest ≡ Err Short → length rest < size
field_at-short size rest e = grind (arith, nat_tests)

-- a data packet waits where its field is not complete
record DataWaits (h : Header) (rest : List ℕ) : Type 0 where
  kind : FieldKind
  says : kind_of h.control ≡ Some kind
  cut : length rest < field_size h.k

pub kind_ok : (o : Option FieldKind) (kind : FieldKind) → ok_or o BadKind ≡ Ok kind → o ≡ Some kind
kind_ok None kind e = cc
kind_ok (Some found) kind e = cc

data_waits : (h : Header) (rest : List ℕ) → data_decoded h rest ≡ Err Short → DataWaits h rest
data_waits h rest e =
    elim (bind_err (ok_or (kind_of h.control) BadKind) _ Short e) [
      | inl kind ↦ absurd (kind_not_short _ kind)
      | inr known ↦ elim (bind_err (field_at (field_size h.k) rest) _ Short known.2) [
        | inl cut ↦ record { kind = known.0; says = kind_ok _ _ known.1; cut = field_at-short _ _ cut }
        | inr whole ↦ elim (bind_err (checked _ (message_at known.0 whole.0)) _ Short whole.2) [
          | inl message ↦ absurd (checked_not_short _ known.0 whole.0 message)
          | inr found ↦ cc
        ]
      ]
    ]

pub begins_data : (s : List ℕ) (h : Header) (kind : FieldKind) → ReadsHeader s h → h.k ≢ CONTROL_K → kind_of h.control ≡ Some kind → BeginsData s h.k (drop HEADER_SIZE s)
begins_data s h kind reads other says =
    record {
      kind = kind;
      seq = h.control / 8 % 8;
      ack = h.control % 8;
      checksum = h.checksum;
      code = (reads.k_low, omega (arith, reads.k_high, other));
      seq_below = omega arith;
      ack_below = omega arith;
      joined = reads.spelled ∙ rw (data_byte-parts kind h.control says) refl;
    }

waits_part : (s : List ℕ) (h : Header) → ReadsHeader s h → (b : Bool) → (h.k == CONTROL_K) ≡ b → (if b then control_decoded h else data_decoded h (drop HEADER_SIZE s)) ≡ Err Short → Waits s
waits_part s h reads true k e = absurd (control_not_short h e)
waits_part s h reads false k e =
    let other : h.k ≢ CONTROL_K = grind (arith, nat_tests) in
    let w = data_waits h (drop HEADER_SIZE s) e in
    inr (h.k, drop HEADER_SIZE s, begins_data s h w.kind reads other w.says, w.cut)

pub Waits-decoded : (s : List ℕ) → AreBytes s → decoded s ≡ Err Short → Waits s
unfolding decoded
Waits-decoded s bytes e =
    elim (bind_err (header_at s) _ Short e) [
      | inl cut ↦ inl (header_at-short s cut)
      | inr read ↦ waits_part s read.0 (header-header_at s read.0 bytes read.1) (read.0.k == CONTROL_K) refl read.2
    ]

-- a data packet that begins, and is tested no further than its kind
pub decoded-begins : (s : List ℕ) (k : ℕ) (rest : List ℕ) → (d : BeginsData s k rest) → decoded s ≡ data_decoded (record { k = k; checksum = d.checksum; control = data_byte d.kind d.seq d.ack }) rest
unfolding decoded
decoded-begins s k rest d =
    let read : header_at (header k d.checksum (data_byte d.kind d.seq d.ack) ++ rest) ≡ Ok (record { k = k; checksum = d.checksum; control = data_byte d.kind d.seq d.ack }) =
    header_at-header k d.checksum (data_byte d.kind d.seq d.ack) rest d.code.0 (omega (arith, d.code.1)) in
    let other : (k == CONTROL_K) ≡ false = grind (arith, nat_tests, d.code.1) in
    rw (d.joined, read, other) refl

data_decoded-cut : (h : Header) (rest : List ℕ) (kind : FieldKind) → kind_of h.control ≡ Some kind → length rest < field_size h.k → data_decoded h rest ≡ Err Short
data_decoded-cut h rest kind says cut =
    let short : field_at (field_size h.k) rest ≡ Err Short = grind (arith, nat_tests) in
    rw (says, short) refl

pub decoded-Waits : (s : List ℕ) → Waits s → decoded s ≡ Err Short
unfolding decoded
decoded-Waits s (inl cut) = rw (short-cut s cut) refl
decoded-Waits s (inr w) =
    let d = w.2 in
    decoded-begins s w.0 w.1 d
    ∙ data_decoded-cut (record { k = w.0; checksum = d.checksum; control = data_byte d.kind d.seq d.ack }) w.1 d.kind (kind_of-data_byte d.kind d.seq d.ack d.seq_below d.ack_below) w.3

pub short_waits : (s : List ℕ) (r : Result (Packet × ℕ) NoPacket) → AreBytes s → Gives r (decoded s) → IsErrOf r Short ↔ Waits s
short_waits s (Ok found) bytes e = (λ h. cc, λ h. let short = decoded-Waits s h in cc)
short_waits s (Err fault) bytes e =
    (λ h. let is : fault ≡ Short = cc in let short : decoded s ≡ Err Short = rw is at e in Waits-decoded s bytes short, λ h. let short = decoded-Waits s h in cc)
