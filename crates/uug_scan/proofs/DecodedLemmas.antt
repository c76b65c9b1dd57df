-- What is refused stays so with more bytes behind it, unless more were needed.
use Rattle.std.proofs.Common.{◌≡◌, ℕ, ◌+◌, ◌/◌, ◌%◌, ◌<◌, ◌≤◌, ◌==◌, bit_xor, Bool, true, false, if◌then◌else◌, List, [], ◌∷◌, ◌++◌, length, length-append, drop, Result, Ok, Err, refl, sym, ap, ◌∙◌, arith, ◌⊎◌, inl, inr}
use Rattle.std.proofs.lemmas.Bool.{cases_lt}
use Rattle.std.proofs.lemmas.Bool.Decides.{nat_tests}
use Rattle.std.proofs.lemmas.List.{take-append-le}
use Rattle.std.specs.Option.{ok_or}
use Rattle.uug_packet.specs.declared.decoding.NoPacket.{NoPacket}
use Rattle.uug_packet.specs.declared.decoding.NoPacket.TheVariants.{Short, BadStart, BadKind}
use Rattle.uug_packet.specs.declared.field.FieldKind.{FieldKind}
use Rattle.uug_packet.specs.declared.header.Header.{Header}
use Rattle.uug_packet.specs.declared.header.TheConstants.{CONTROL_K, HEADER_SIZE}
use Rattle.uug_packet.specs.Checksum.{check}
use Rattle.uug_packet.specs.Decoded.{◌>>=◌, header_at, control_decoded, kind_of, field_at, message_at, checked, data_decoded, decoded}
use Rattle.uug_packet.specs.Field.{field_size}
use Rattle.uug_packet.specs.Packet.{PacketValue, carry}
use Rattle.uug_packet.specs.Spelling.{checksum_of}

-- ---- the header

-- a header that is there is the same
header_behind : (s t : List ℕ) → HEADER_SIZE ≤ length s → header_at (s ++ t) ≡ header_at s
unfolding header_at
header_behind (a ∷ b ∷ c ∷ d ∷ e ∷ f ∷ rest) t long = grind (arith, nat_tests)
header_behind _ t long = absurd (omega arith)

-- what is too short for one and is refused begins with another byte
cut_behind : (s t : List ℕ) → length s < HEADER_SIZE → (header_at s ≡ Err Short → ⊥) → (header_at s ≡ Err BadStart) × (header_at (s ++ t) ≡ Err BadStart)
unfolding header_at
cut_behind [] t short refused = absurd (refused refl)
cut_behind (b ∷ s) t short refused = (grind (arith, nat_tests, refused), grind (arith, nat_tests, refused))

-- ---- the field

field_behind : (size : ℕ) (rest t : List ℕ) → (field_at size rest ≡ Err Short) ⊎ (field_at size rest ≡ field_at size (rest ++ t))
field_behind size rest t =
    elim (cases_lt (length rest) size) [
      | inl short ↦ inl (grind (arith, nat_tests))
      | inr whole ↦ let same = take-append-le size rest t whole in inr (grind (arith, nat_tests, same, length-append rest t))
    ]

by_kind : (k : Result FieldKind NoPacket) (x y : Result (List ℕ) NoPacket) (f : FieldKind → List ℕ → Result (PacketValue × ℕ) NoPacket) → (x ≡ Err Short) ⊎ (x ≡ y) → ((k >>= (λ kind. x >>= f kind)) ≡ Err Short → ⊥) → (k >>= (λ kind. y >>= f kind)) ≡ (k >>= (λ kind. x >>= f kind))
by_kind (Err e) x y f either refused = refl
by_kind (Ok kind) x y f (inl short) refused = absurd (refused (ap (λ z. z >>= f kind) short))
by_kind (Ok kind) x y f (inr same) refused = ap (λ z. z >>= f kind) (sym same)

abbrev field_read : Header → FieldKind → List ℕ → Result (PacketValue × ℕ) NoPacket
field_read h kind field =
    checked (h.checksum == checksum_of (bit_xor (check field) h.control)) (message_at kind field)
    >>= (λ message. Ok (carry (h.control / 8 % 8) (h.control % 8) h.k message, HEADER_SIZE + field_size h.k))

data_behind : (h : Header) (rest t : List ℕ) → (data_decoded h rest ≡ Err Short → ⊥) → data_decoded h (rest ++ t) ≡ data_decoded h rest
data_behind h rest t refused =
    by_kind (ok_or (kind_of h.control) BadKind) (field_at (field_size h.k) rest) (field_at (field_size h.k) (rest ++ t)) (field_read h)
    (field_behind (field_size h.k) rest t) refused

-- ---- the whole

by_test : (control : Bool) (x y z : Result (PacketValue × ℕ) NoPacket) → ((y ≡ Err Short → ⊥) → z ≡ y) → ((if control then x else y) ≡ Err Short → ⊥) → (if control then x else z) ≡ (if control then x else y)
by_test true x y z same refused = refl
by_test false x y z same refused = same refused

abbrev packet_read : List ℕ → Header → Result (PacketValue × ℕ) NoPacket
packet_read rest h = if h.k == CONTROL_K then control_decoded h else data_decoded h rest

packet_behind : (rest t : List ℕ) (h : Header) → (packet_read rest h ≡ Err Short → ⊥) → packet_read (rest ++ t) h ≡ packet_read rest h
packet_behind rest t h refused =
    by_test (h.k == CONTROL_K) (control_decoded h) (data_decoded h rest) (data_decoded h (rest ++ t)) (data_behind h rest t) refused

by_header : (r : Result Header NoPacket) (rest t : List ℕ) → ((r >>= packet_read rest) ≡ Err Short → ⊥) → (r >>= packet_read (rest ++ t)) ≡ (r >>= packet_read rest)
by_header (Ok h) rest t refused = packet_behind rest t h refused
by_header (Err e) rest t refused = refl

drop_header : (s t : List ℕ) → HEADER_SIZE ≤ length s → drop HEADER_SIZE (s ++ t) ≡ drop HEADER_SIZE s ++ t
drop_header (a ∷ b ∷ c ∷ d ∷ e ∷ f ∷ rest) t long = refl
drop_header _ t long = absurd (omega arith)

pub decoded_behind : (s t : List ℕ) → (decoded s ≡ Err Short → ⊥) → decoded (s ++ t) ≡ decoded s
unfolding decoded
decoded_behind s t refused =
    elim (cases_lt (length s) HEADER_SIZE) [
      | inl short ↦
          let cut = cut_behind s t short (λ e. refused (ap (λ r. r >>= packet_read (drop HEADER_SIZE s)) e)) in
          ap (λ r. r >>= packet_read (drop HEADER_SIZE (s ++ t))) cut.1 ∙ sym (ap (λ r. r >>= packet_read (drop HEADER_SIZE s)) cut.0)
      | inr long ↦
          ap (λ r. r >>= packet_read (drop HEADER_SIZE (s ++ t))) (header_behind s t long)
          ∙ ap (λ rest. header_at s >>= packet_read rest) (drop_header s t long)
          ∙ by_header (header_at s) (drop HEADER_SIZE s) t refused
    ]
