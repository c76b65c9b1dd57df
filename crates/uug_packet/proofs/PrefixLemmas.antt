-- What the front of some bytes says of the bytes, and the other way round.
use Rattle.std.proofs.Common.{◌≡◌, ℕ, ◌+◌, ◌<◌, ◌≤◌, List, [], ◌∷◌, ◌++◌, length, length-append, length-drop, take, drop, slice_index, bit_xor, subst, Result, Ok, Err, sym, ap, ◌∙◌, arith, ◌⊎◌, inl, inr}
use Rattle.std.proofs.Math.Seq.{take-append_seam}
use Rattle.std.proofs.lemmas.Bool.{cases_lt}
use Rattle.std.proofs.lemmas.List.{take-append-drop, take-append-le, append_cancel_left, append_assoc}
use Rattle.uug_packet.specs.declared.decoding.NoPacket.{NoPacket}
use Rattle.uug_packet.specs.declared.decoding.NoPacket.TheVariants as refusals
use Rattle.uug_packet.specs.declared.header.TheConstants.{START, CONTROL_K, HEADER_SIZE}
use Rattle.uug_packet.specs.Checksum.{check}
use Rattle.uug_packet.specs.Field.{field_size}
use Rattle.uug_packet.specs.Packet.{PacketValue, control, carry}
use Rattle.uug_packet.specs.Spelling.{header, checksum_of, data_byte, IsSpelling}
use Rattle.uug_packet.specs.Decoded.{decoded}
use Rattle.uug_packet.specs.Waits.{IsCutHeader, BeginsData, Waits, IsBroken}
use Rattle.uug_packet.proofs.DecodedLemmas.{decoded-spelling, length-holds}
use Rattle.uug_packet.proofs.DecodeLemmas.{decoded-Waits}

-- bytes that begin with a packet don't wait
pub waits_not-spelling : (p : PacketValue) (w x : List ℕ) → IsSpelling p w → Waits (w ++ x) → ⊥
waits_not-spelling p w x h waits =
    let read : decoded (w ++ x) ≡ Ok (p, length w) = decoded-spelling p w x h in
    let short : decoded (w ++ x) ≡ Err refusals.Short = decoded-Waits (w ++ x) waits in
    let clash : ◌≡◌ {A = Result (PacketValue × ℕ) NoPacket} (Ok (p, length w)) (Err refusals.Short) = sym read ∙ short in
    cc

-- ---- a header that is cut, or is there

cut_header : (k sum c : ℕ) (s t rest : List ℕ) → s ++ t ≡ header k sum c ++ rest → length s < HEADER_SIZE → IsCutHeader s
cut_header k sum c [] t rest e short = tt
cut_header k sum c (b ∷ s) t rest e short = let first : b ≡ START = cc in (first, short)

-- where the front of a list that begins with h is no shorter than h, it begins with h, and leaves less
record Keeps (h s t rest : List ℕ) : Type 0 where
  front : s ≡ h ++ drop (length h) s
  behind : drop (length h) s ++ t ≡ rest

keeps : (h s t rest : List ℕ) → s ++ t ≡ h ++ rest → length h ≤ length s → Keeps h s t rest
keeps h s t rest e long =
    let first : take (length h) s ≡ h = sym (take-append-le (length h) s t long) ∙ ap (take (length h)) e ∙ take-append_seam h rest in
    let split : s ≡ h ++ drop (length h) s = sym (take-append-drop (length h) s) ∙ ap (λ x. x ++ drop (length h) s) first in
    let joined : h ++ (drop (length h) s ++ t) ≡ h ++ rest = sym (append_assoc h (drop (length h) s) t) ∙ ap (λ x. x ++ t) (sym split) ∙ e in
    record { front = split; behind = append_cancel_left h (drop (length h) s ++ t) rest joined }

-- ---- the front of what waits waits

shorter_data : (s t : List ℕ) (k : ℕ) (rest : List ℕ) → (d : BeginsData (s ++ t) k rest) → HEADER_SIZE ≤ length s → BeginsData s k (drop HEADER_SIZE s)
shorter_data s t k rest d long =
    let kept = keeps (header k d.checksum (data_byte d.kind d.seq d.ack)) s t rest d.joined long in
    record {
      kind = d.kind;
      seq = d.seq;
      ack = d.ack;
      checksum = d.checksum;
      code = d.code;
      seq_below = d.seq_below;
      ack_below = d.ack_below;
      joined = kept.front;
    }

shorter_rest : (s t : List ℕ) (k : ℕ) (rest : List ℕ) → (d : BeginsData (s ++ t) k rest) → HEADER_SIZE ≤ length s → drop HEADER_SIZE s ++ t ≡ rest
shorter_rest s t k rest d long =
    (keeps (header k d.checksum (data_byte d.kind d.seq d.ack)) s t rest d.joined long).behind

shorter_cut : (s t : List ℕ) → IsCutHeader (s ++ t) → IsCutHeader s
shorter_cut [] t h = tt
shorter_cut (b ∷ s) t h = (h.0, omega (arith, h.1, length-append s t))

pub Waits-shorter : (s t : List ℕ) → Waits (s ++ t) → Waits s
Waits-shorter s t (inl cut) = inl (shorter_cut s t cut)
Waits-shorter s t (inr w) =
    elim (cases_lt (length s) HEADER_SIZE) [
      | inl short ↦
          inl (cut_header w.0 w.2.checksum (data_byte w.2.kind w.2.seq w.2.ack) s t w.1 w.2.joined short)
      | inr long ↦
          let behind = shorter_rest s t w.0 w.1 w.2 long in
          inr (
            w.0,
            drop HEADER_SIZE s,
            shorter_data s t w.0 w.1 w.2 long,
            omega (arith, w.3, ap length behind, length-append (drop HEADER_SIZE s) t),
          )
    ]

-- ---- a spelling that is cut waits

pub waits_cut-spelling : (p : PacketValue) (s t : List ℕ) → IsSpelling p (s ++ t) → 0 < length t → Waits s
waits_cut-spelling (control p) s t h more =
    let whole : length s + length t ≡ HEADER_SIZE = sym (length-append s t) ∙ ap length h.2 in
    inl (cut_header CONTROL_K (checksum_of h.0) h.0 s t [] h.2 (omega (arith, whole)))
waits_cut-spelling (carry seq ack k message) s t h more =
    let c = data_byte h.kind seq ack in
    let sum = checksum_of (bit_xor (check h.field) c) in
    elim (cases_lt (length s) HEADER_SIZE) [
      | inl short ↦ inl (cut_header k sum c s t h.field h.joined short)
      | inr long ↦
          let kept = keeps (header k sum c) s t h.field h.joined long in
          let size : length h.field ≡ field_size k = length-holds h.kind (field_size k) message h.field h.holds in
          let begins : BeginsData s k (drop HEADER_SIZE s) = record {
            kind = h.kind;
            seq = seq;
            ack = ack;
            checksum = sum;
            code = h.code;
            seq_below = h.seq_below;
            ack_below = h.ack_below;
            joined = kept.front;
          } in
          inr (
            k,
            drop HEADER_SIZE s,
            begins,
            omega (arith, size, ap length kept.behind, length-append (drop HEADER_SIZE s) t, more),
          )
    ]

-- ---- what neither waits nor begins with a packet keeps on not to

-- where the front is no shorter than the spelling, it begins with it; else it waits
pub settled : (p : PacketValue) (w more s t : List ℕ) → IsSpelling p w → s ++ t ≡ w ++ more → Waits s ⊎ ((others : List ℕ) × (s ≡ w ++ others))
settled p w more s t h e =
    elim (cases_lt (length s) (length w)) [
      | inl short ↦
          let kept = keeps s w more t (sym e) (omega arith) in
          let spelled : IsSpelling p (s ++ drop (length s) w) = let P : List ℕ → Type 0 = IsSpelling p in subst P kept.front h in
          inl (waits_cut-spelling p s (drop (length s) w) spelled (omega (arith, length-drop (length s) w)))
      | inr long ↦ inr (drop (length w) s, (keeps w s t more e long).front)
    ]

same_begin : (s : List ℕ) (k : ℕ) (rest : List ℕ) (j : ℕ) (other : List ℕ) → BeginsData s k rest → BeginsData s j other → (k ≡ j) × (rest ≡ other)
same_begin s k rest j other d f =
    let same = sym d.joined ∙ f.joined in
    (ap (λ x. slice_index x 1) same, ap (λ x. drop HEADER_SIZE x) same)

not_cut : (s : List ℕ) → HEADER_SIZE ≤ length s → IsCutHeader s → ⊥
not_cut [] long cut = omega arith
not_cut (b ∷ s) long cut = omega (arith, cut.1)

pub waits_not-broken : (s : List ℕ) → IsBroken s → Waits s → ⊥
waits_not-broken s b (inr w) =
    let same = same_begin s b.k b.rest w.0 w.1 b.begins w.2 in
    let sizes : field_size b.k ≡ field_size w.0 = ap field_size same.0 in
    omega (arith, b.complete, w.3, sizes, ap length same.1)
waits_not-broken s b (inl cut) =
    not_cut s (omega (arith, ap length b.begins.joined)) cut

longer_data : (s t : List ℕ) (k : ℕ) (rest : List ℕ) → BeginsData s k rest → BeginsData (s ++ t) k (rest ++ t)
longer_data s t k rest d = record {
  kind = d.kind;
  seq = d.seq;
  ack = d.ack;
  checksum = d.checksum;
  code = d.code;
  seq_below = d.seq_below;
  ack_below = d.ack_below;
  joined = ap (λ x. x ++ t) d.joined ∙ append_assoc (header k d.checksum (data_byte d.kind d.seq d.ack)) rest t;
}

pub IsBroken-longer : (s t : List ℕ) → IsBroken s → IsBroken (s ++ t)
IsBroken-longer s t b = record {
  k = b.k;
  rest = b.rest ++ t;
  begins = longer_data s t b.k b.rest b.begins;
  complete = omega (arith, b.complete, length-append b.rest t);
  none = λ p w more h e. elim (settled p w more s t h e) [
    | inl waits ↦ waits_not-broken s b waits
    | inr front ↦ b.none p w front.0 h front.1
  ];
}

-- a header that is there has not been cut
long_begins : (s t : List ℕ) (k : ℕ) (rest : List ℕ) → (Waits s → ⊥) → BeginsData (s ++ t) k rest → HEADER_SIZE ≤ length s
long_begins s t k rest waits_not d =
    elim (cases_lt (length s) HEADER_SIZE) [
      | inl short ↦ absurd (waits_not (inl (cut_header k d.checksum (data_byte d.kind d.seq d.ack) s t rest d.joined short)))
      | inr long ↦ long
    ]

complete_rest : (s : List ℕ) (k : ℕ) (rest : List ℕ) → (Waits s → ⊥) → BeginsData s k rest → field_size k ≤ length rest
complete_rest s k rest waits_not d =
    elim (cases_lt (length rest) (field_size k)) [
      | inl short ↦ absurd (waits_not (inr (k, rest, d, short)))
      | inr whole ↦ whole
    ]

pub IsBroken-shorter : (s t : List ℕ) → (Waits s → ⊥) → IsBroken (s ++ t) → IsBroken s
IsBroken-shorter s t waits_not b =
    let long = long_begins s t b.k b.rest waits_not b.begins in
    let d = shorter_data s t b.k b.rest b.begins long in
    record {
      k = b.k;
      rest = drop HEADER_SIZE s;
      begins = d;
      complete = complete_rest s b.k (drop HEADER_SIZE s) waits_not d;
      none = λ p w more h e. b.none p w (more ++ t) h (ap (λ x. x ++ t) e ∙ append_assoc w more t);
    }
