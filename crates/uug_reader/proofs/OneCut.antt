-- That a stream is cut in exactly one way.
use Rattle.std.proofs.Common.{◌≡◌, ◌≢◌, ℕ, zero, suc, ◌+◌, ◌<◌, ◌≤◌, List, [], ◌∷◌, ◌++◌, length, take, drop, slice_index, Ok, Err, Result, refl, sym, ap, ◌∙◌, arith, subst, length-drop, ◌⊎◌, inl, inr}
use Rattle.std.proofs.lemmas.Bool.{cases_eq}
use Rattle.std.proofs.lemmas.List.{take-append-drop, get_or-drop, append_cancel_left}
use Rattle.uug_packet.specs.Bytes.{AreBytes}
use Rattle.uug_packet.specs.Packet.{PacketValue}
use Rattle.uug_packet.specs.Spelling.{IsSpelling}
use Rattle.uug_packet.specs.Decoded.{decoded}
use Rattle.uug_packet.specs.Waits.{Waits, IsBroken, IsDamage}
use Rattle.uug_packet.specs.declared.decoding.NoPacket.{NoPacket}
use Rattle.uug_packet.specs.declared.decoding.NoPacket.TheVariants as refusals
use Rattle.uug_packet.specs.declared.header.TheConstants.{CONTROL_K}
use Rattle.uug_packet.proofs.BrokenLemmas.{damage_of_broken, broken_of_damage}
use Rattle.uug_packet.proofs.DecodeLemmas.{decoded-Waits, Waits-decoded}
use Rattle.uug_packet.proofs.DecodedLemmas.{same_spelling, spelling-decoded, decoded-spelling}
use Rattle.uug_packet.proofs.PrefixLemmas.{waits_not-spelling, waits_not-broken}
use Rattle.uug_reader.specs.Cut.{BeginsWithPacket, IsNoise, Part, packet, broken, noise, CutsOff, IsCut}
use Rattle.uug_reader.proofs.CutLemmas.{some_spelled, CutsOff-append, CutsOff-join}

-- a part at the front of the bytes, which leaves fewer
record TakesPart (s : List ℕ) : Type 0 where
  part : Part
  more : List ℕ
  bytes : AreBytes more
  fewer : length more < length s
  cuts : (parts : List Part) (rest : List ℕ) → CutsOff more parts rest → CutsOff s (part ∷ parts) rest

record Cuts (s : List ℕ) : Type 0 where
  parts : List Part
  rest : List ℕ
  cut : IsCut s parts rest

-- ---- at most one

-- a part that isn't there: the parts end where a packet begins
ends_at_packet : (p : PacketValue) (s w more rest : List ℕ) → s ≡ rest → Waits rest → IsSpelling p w → s ≡ w ++ more → ⊥
ends_at_packet p s w more rest ended waits h front =
    waits_not-spelling p w more h (subst Waits (sym ended ∙ front) waits)

CutsOff-unique : (s : List ℕ) (parts : List Part) (rest : List ℕ) (others : List Part) (other : List ℕ) → CutsOff s parts rest → Waits rest → CutsOff s others other → Waits other → (parts ≡ others) × (rest ≡ other)
CutsOff-unique s [] rest [] other h waits k waits' = (refl, sym h ∙ k)
CutsOff-unique s [] rest (packet q v ∷ others) other h waits k waits' =
    absurd (ends_at_packet q s v k.1 rest h waits k.0 k.2)
CutsOff-unique s [] rest (broken c ∷ others) other h waits k waits' =
    absurd (waits_not-broken s k.0 (subst Waits (sym h) waits))
CutsOff-unique s [] rest (noise c ∷ others) other h waits k waits' =
    absurd (k.0.settled (subst Waits (sym h) waits))
CutsOff-unique s (packet p w ∷ parts) rest [] other h waits k waits' =
    absurd (ends_at_packet p s w h.1 other k waits' h.0 h.2)
CutsOff-unique s (broken b ∷ parts) rest [] other h waits k waits' =
    absurd (waits_not-broken s h.0 (subst Waits (sym k) waits'))
CutsOff-unique s (noise b ∷ parts) rest [] other h waits k waits' =
    absurd (h.0.settled (subst Waits (sym k) waits'))
CutsOff-unique s (packet p w ∷ parts) rest (broken c ∷ others) other h waits k waits' =
    absurd (k.0.none p w h.1 h.0 h.2)
CutsOff-unique s (packet p w ∷ parts) rest (noise c ∷ others) other h waits k waits' =
    absurd (k.0.no_packet (p, w, h.1, h.0, h.2))
CutsOff-unique s (broken b ∷ parts) rest (packet q v ∷ others) other h waits k waits' =
    absurd (h.0.none q v k.1 k.0 k.2)
CutsOff-unique s (broken b ∷ parts) rest (noise c ∷ others) other h waits k waits' = absurd (k.0.not_broken h.0)
CutsOff-unique s (noise b ∷ parts) rest (broken c ∷ others) other h waits k waits' = absurd (h.0.not_broken k.0)
CutsOff-unique s (noise b ∷ parts) rest (packet q v ∷ others) other h waits k waits' =
    absurd (h.0.no_packet (q, v, k.1, k.0, k.2))
CutsOff-unique s (packet p w ∷ parts) rest (packet q v ∷ others) other h waits k waits' =
    let same = same_spelling p q w v h.1 k.1 h.0 k.0 (sym h.2 ∙ k.2) in
    let joined : w ++ h.1 ≡ w ++ k.1 = sym h.2 ∙ k.2 ∙ ap (λ x. x ++ k.1) (sym same.1) in
    let behind : h.1 ≡ k.1 = append_cancel_left w h.1 k.1 joined in
    let later = CutsOff-unique h.1 parts rest others other h.3 waits (subst (λ x. CutsOff x others other) (sym behind) k.3) waits' in
    let first : packet p w ≡ packet q v = cc (same.0, same.1) in
    (cc (first, later.0), later.1)
CutsOff-unique s (broken b ∷ parts) rest (broken c ∷ others) other h waits k waits' =
    let both : b ∷ h.1 ≡ c ∷ k.1 = sym h.2 ∙ k.2 in
    let behind : h.1 ≡ k.1 = cc in
    let byte : b ≡ c = cc in
    let later = CutsOff-unique h.1 parts rest others other h.3 waits (subst (λ x. CutsOff x others other) (sym behind) k.3) waits' in
    (cc (byte, later.0), later.1)
CutsOff-unique s (noise b ∷ parts) rest (noise c ∷ others) other h waits k waits' =
    let both : b ∷ h.1 ≡ c ∷ k.1 = sym h.2 ∙ k.2 in
    let behind : h.1 ≡ k.1 = cc in
    let byte : b ≡ c = cc in
    let later = CutsOff-unique h.1 parts rest others other h.3 waits (subst (λ x. CutsOff x others other) (sym behind) k.3) waits' in
    (cc (byte, later.0), later.1)

pub IsCut-unique : (s rest other : List ℕ) (parts others : List Part) → IsCut s parts rest → IsCut s others other → (parts ≡ others) × (rest ≡ other)
IsCut-unique s rest other parts others h k =
    CutsOff-unique s parts rest others other h.parts_are h.rest_waits k.parts_are k.rest_waits

-- ---- at least one

pub AreBytes-drop : (s : List ℕ) (n : ℕ) → AreBytes s → AreBytes (drop n s)
AreBytes-drop s n bytes = λ i. subst (λ x. x < 256) (sym (get_or-drop n s i 0)) (bytes (n + i))

result_cases : {A E : Type 0} (r : Result A E) → ((x : A) × (r ≡ Ok x)) ⊎ ((e : E) × (r ≡ Err e))
result_cases (Ok x) = inl (x, refl)
result_cases (Err e) = inr (e, refl)

takes_packet : (s : List ℕ) (p : PacketValue) (n : ℕ) → AreBytes s → decoded s ≡ Ok (p, n) → TakesPart s
takes_packet s p n bytes e =
    let read = spelling-decoded s p n bytes e in
    record {
      part = packet p (take n s);
      more = drop n s;
      bytes = AreBytes-drop s n bytes;
      fewer = omega (arith, read.long, some_spelled p n s read.spelled, length-drop n s);
      cuts = λ parts rest h. (read.spelled, drop n s, sym (take-append-drop n s), h);
    }

pub refused : (s : List ℕ) (e : NoPacket) → decoded s ≡ Err e → BeginsWithPacket s → ⊥
refused s e is begins =
    let read : decoded (begins.1 ++ begins.2) ≡ Ok (begins.0, length begins.1) = decoded-spelling begins.0 begins.1 begins.2 begins.3 in
    let same : decoded s ≡ decoded (begins.1 ++ begins.2) = ap decoded begins.4 in
    let clash : ◌≡◌ {A = Result (PacketValue × ℕ) NoPacket} (Ok (begins.0, length begins.1)) (Err e) = sym read ∙ sym same ∙ is in
    cc

-- one byte at the front
takes_broken : (s : List ℕ) → AreBytes s → IsBroken s → TakesPart s
takes_broken [] bytes b = absurd (waits_not-broken [] b (inl tt))
takes_broken (b ∷ s) bytes is_broken = record {
  part = broken b;
  more = s;
  bytes = AreBytes-drop (b ∷ s) 1 bytes;
  fewer = omega arith;
  cuts = λ parts rest h. (is_broken, s, refl, h);
}

takes_noise : (s : List ℕ) → AreBytes s → IsNoise s → TakesPart s
takes_noise [] bytes is_noise = absurd (is_noise.settled (inl tt))
takes_noise (b ∷ s) bytes is_noise = record {
  part = noise b;
  more = s;
  bytes = AreBytes-drop (b ∷ s) 1 bytes;
  fewer = omega arith;
  cuts = λ parts rest h. (is_noise, s, refl, h);
}

by_damage : (e : NoPacket) (s : List ℕ) → (e ≡ refusals.Short) ⊎ ((IsDamage e s) ⊎ ((e ≢ refusals.Short) × (IsDamage e s → ⊥)))
by_damage refusals.Short s = inl refl
by_damage refusals.BadStart s = inr (inr (λ e. cc, λ d. d))
by_damage refusals.BadK s = inr (inr (λ e. cc, λ d. d))
by_damage refusals.BadXor s = inr (inr (λ e. cc, λ d. d))
by_damage refusals.BadKind s = inr (inr (λ e. cc, λ d. d))
by_damage refusals.BadLength s = inr (inl tt)
by_damage refusals.BadSum s =
    elim (cases_eq (slice_index s 1) CONTROL_K) [
      | inl same ↦ inr (inr (λ e. cc, λ d. d same))
      | inr other ↦ inr (inl other)
    ]

err_same : {A : Type 0} {e d : NoPacket} → ◌≡◌ {A = Result A NoPacket} (Err e) (Err d) → e ≡ d
err_same h = cc

-- where it is refused, and neither waits nor is broken, it is noise
pub refused_noise : (s : List ℕ) (e : NoPacket) → AreBytes s → decoded s ≡ Err e → e ≢ refusals.Short → (IsDamage e s → ⊥) → IsNoise s
refused_noise s e bytes is not_short no_damage = record {
  no_packet = refused s e is;
  settled = λ w. not_short (err_same (sym is ∙ decoded-Waits s w));
  not_broken = λ b. let d = damage_of_broken s bytes b in no_damage (subst (λ x. IsDamage x s) (err_same (sym d.1 ∙ is)) d.2);
}

-- what stands at the front: bytes that wait, or a part
first_part : (s : List ℕ) → AreBytes s → (Waits s) ⊎ (TakesPart s)
first_part s bytes =
    elim (result_cases (decoded s)) [
      | inl found ↦ inr (takes_packet s found.0.0 found.0.1 bytes found.1)
      | inr other ↦ elim (by_damage other.0 s) [
        | inl short ↦ inl (Waits-decoded s bytes (other.1 ∙ ap Err short))
        | inr later ↦ elim later [
          | inl damage ↦ inr (takes_broken s bytes (broken_of_damage s other.0 bytes other.1 damage))
          | inr none ↦ inr (takes_noise s bytes (refused_noise s other.0 bytes other.1 none.0 none.1))
        ]
      ]
    ]

cuts_waiting : (s : List ℕ) → Waits s → Cuts s
cuts_waiting s waits = record { parts = []; rest = s; cut = record { parts_are = refl; rest_waits = waits } }

cuts_part : (s : List ℕ) (first : TakesPart s) → Cuts first.more → Cuts s
cuts_part s first later = record {
  parts = first.part ∷ later.parts;
  rest = later.rest;
  cut = record { parts_are = first.cuts later.parts later.rest later.cut.parts_are; rest_waits = later.cut.rest_waits };
}

cut_by_length : (n : ℕ) (s : List ℕ) → length s ≤ n → AreBytes s → Cuts s
cut_by_length zero s short bytes =
    elim (first_part s bytes) [
      | inl waits ↦ cuts_waiting s waits
      | inr first ↦ absurd (omega (arith, first.fewer))
    ]
cut_by_length (suc n) s short bytes =
    elim (first_part s bytes) [
      | inl waits ↦ cuts_waiting s waits
      | inr first ↦ cuts_part s first (cut_by_length n first.more (omega (arith, first.fewer)) first.bytes)
    ]

pub IsCut-some : (s : List ℕ) → AreBytes s → (parts : List Part) × (rest : List ℕ) × IsCut s parts rest
IsCut-some s bytes =
    let found = cut_by_length (length s) s (omega arith) bytes in (found.parts, found.rest, found.cut)

-- ---- in pieces

pub IsCut-append : (s t rest last : List ℕ) (parts more : List Part) → IsCut s parts rest → IsCut (rest ++ t) more last → IsCut (s ++ t) (parts ++ more) last
IsCut-append s t rest last parts more h k = record {
  parts_are = CutsOff-join (s ++ t) parts (rest ++ t) more last (CutsOff-append s parts rest t h.parts_are) k.parts_are;
  rest_waits = k.rest_waits;
}
