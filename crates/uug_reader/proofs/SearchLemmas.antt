-- That the search as a function gives what is found first, and the search of a reader.
use Rattle.std.proofs.Common.{◌≡◌, ℕ, ◌+◌, ◌-◌, ◌<◌, ◌≤◌, ◌==◌, Bool, true, false, if◌then◌else◌, List, [], ◌∷◌, length, take, drop, slice_index, Result, Ok, Err, ◌↔◌, refl, sym, ap, ◌∙◌, arith, subst, length-drop, inl}
use Rattle.std.proofs.lemmas.Bool.Decides.{nat_tests}
use Rattle.std.proofs.lemmas.List.{take_rest, drop-drop}
use Rattle.uug_packet.specs.Bytes.{AreBytes}
use Rattle.uug_packet.specs.Decoded.{decoded}
use Rattle.uug_packet.specs.Packet.{PacketValue, shown}
use Rattle.uug_packet.specs.declared.packet.Packet.{Packet}
use Rattle.uug_packet.specs.Waits.{Waits, IsDamage}
use Rattle.uug_packet.specs.declared.decoding.NoPacket.{NoPacket}
use Rattle.uug_packet.specs.declared.decoding.NoPacket.TheVariants as refusals
use Rattle.uug_packet.specs.declared.header.TheConstants.{CONTROL_K}
use Rattle.uug_packet.proofs.BrokenLemmas.{broken_of_damage}
use Rattle.uug_packet.proofs.DecodeLemmas.{Waits-decoded}
use Rattle.uug_packet.proofs.DecodedLemmas.{spelling-decoded}
use Rattle.uug_reader.specs.declared.search.FirstPart.{FirstPart}
use Rattle.uug_reader.specs.declared.search.FirstPart.TheVariants.{Noise}
use Rattle.uug_reader.specs.declared.search.FirstPart.TheVariants as parts
use Rattle.uug_reader.specs.declared.place.Place.{Place}
use Rattle.uug_reader.specs.declared.place.Place.TheVariants as places
use Rattle.uug_reader.specs.Cut.{IsNoise, noise, Item, bad, found}
use Rattle.uug_reader.specs.Finding.{StandsFirst, PassesNoise}
use Rattle.uug_reader.specs.Code.Place.{BeginsWith, IsFirst, item_at, LiesIn}
use Rattle.uug_reader.specs.Search.{Search, waiting, standing, search_by, search_of}
use Rattle.uug_reader.proofs.FindingLemmas.{StandsFirst-not-Waits, StandsFirst-unique, StandsFirst-not-noise, PassesNoise-unique}
use Rattle.uug_reader.proofs.OneCut.{AreBytes-drop, refused_noise}
use Rattle.uug_reader.proofs.ScanLemmas.{Finds-none, Finds-join}

pub record Passed (bytes : List ℕ) (at : ℕ) : Type 0 where
  pub within : at ≤ length bytes
  pub passes : PassesNoise bytes (drop at bytes)

-- ---- where a search ends

pub begins_packet : (part : FirstPart) (packet : Packet) (size : ℕ) (s : List ℕ) → part ≡ parts.Packet packet size → BeginsWith part s → BeginsWith (parts.Packet packet size) s
begins_packet part packet size s is begins = subst (λ (p : FirstPart). BeginsWith p s) is begins

pub first_packet : (part : FirstPart) (packet : Packet) (size : ℕ) (place : Place) (bytes : List ℕ) (at : ℕ) → part ≡ parts.Packet packet size → BeginsWith part (take (length bytes - at) (drop at bytes)) → item_at place (take (length bytes - at) (drop at bytes)) ≡ found (shown packet) → LiesIn place (take (length bytes - at) (drop at bytes)) → IsFirst (record { place = place; size = size }) (drop at bytes)
first_packet part packet size place bytes at is begins item lies =
    let rest = take_rest bytes at in
    let first : BeginsWith (parts.Packet packet size) (drop at bytes) =
    begins_packet part packet size (drop at bytes) is (subst (BeginsWith part) rest begins) in
    let there : item_at place (drop at bytes) ≡ found (shown packet) =
    subst (λ (s : List ℕ). item_at place s ≡ found (shown packet)) rest item in
    record {
      stands = subst (λ (i : Item). StandsFirst i size (drop at bytes)) (sym there) (first.2, first.1);
      some = first.0;
      within = first.1;
      lies = subst (LiesIn place) rest lies;
    }

pub first_broken : (part : FirstPart) (bytes : List ℕ) (at : ℕ) → part ≡ parts.Bad → BeginsWith part (take (length bytes - at) (drop at bytes)) → IsFirst (record { place = places.Bad; size = 1 }) (drop at bytes)
first_broken part bytes at is begins =
    let first : BeginsWith parts.Bad (drop at bytes) =
    subst (λ (p : FirstPart). BeginsWith p (drop at bytes)) is (subst (BeginsWith part) (take_rest bytes at) begins) in
    record {
      stands = (first.1, refl);
      some = omega arith;
      within = omega (arith, first.0);
      lies = tt;
    }

pub PassesNoise-byte : (s : List ℕ) → 0 < length s → IsNoise s → PassesNoise s (drop 1 s)
PassesNoise-byte [] some h = absurd (omega arith)
PassesNoise-byte (b ∷ s) some h = (noise b ∷ [], (h, s, refl, refl), refl)

-- ---- the loop of a search

-- one byte more of noise
pub passes_byte : (part : FirstPart) (bytes : List ℕ) (at : ℕ) → part ≡ Noise → BeginsWith part (take (length bytes - at) (drop at bytes)) → at ≤ length bytes → PassesNoise bytes (drop at bytes) → Passed bytes (at + 1)
passes_byte part bytes at is begins within passes =
    let here : BeginsWith part (drop at bytes) = subst (BeginsWith part) (take_rest bytes at) begins in
    let first : BeginsWith Noise (drop at bytes) = subst (λ p. BeginsWith p (drop at bytes)) is here in
    let byte : PassesNoise (drop at bytes) (drop 1 (drop at bytes)) = PassesNoise-byte (drop at bytes) first.0 first.1 in
    record {
      within = omega (arith, first.0, within, length-drop at bytes);
      passes = Finds-join bytes (drop at bytes) (drop (at + 1) bytes) [] [] passes (subst (PassesNoise (drop at bytes)) (drop-drop 1 at bytes) byte);
    }

-- ---- the function

-- what is told of a stream by what the search finds in it
abbrev pub Tells : Search → List ℕ → Type 0
Tells (waiting rest) s = PassesNoise s rest × Waits rest
Tells (standing item n others) s = PassesNoise s others × StandsFirst item n others

Tells-noise : (x : Search) (b : ℕ) (s : List ℕ) → IsNoise (b ∷ s) → Tells x s → Tells x (b ∷ s)
Tells-noise (waiting rest) b s is_noise h =
    (Finds-join (b ∷ s) s rest [] [] (PassesNoise-byte (b ∷ s) (omega arith) is_noise) h.0, h.1)
Tells-noise (standing item n others) b s is_noise h =
    (Finds-join (b ∷ s) s others [] [] (PassesNoise-byte (b ∷ s) (omega arith) is_noise) h.0, h.1)

Tells-broken : (s : List ℕ) (e : NoPacket) → AreBytes s → decoded s ≡ Err e → IsDamage e s → Tells (standing bad 1 s) s
Tells-broken s e bytes is damage = (Finds-none s, (broken_of_damage s e bytes is damage, refl))

Tells-if : (c : Bool) (x y : Search) (s : List ℕ) → (c ≡ true → Tells x s) → (c ≡ false → Tells y s) → Tells (if c then x else y) s
Tells-if true x y s h k = h refl
Tells-if false x y s h k = k refl

Tells-by : (r : Result (PacketValue × ℕ) NoPacket) (b : ℕ) (s : List ℕ) (later : Search) → AreBytes (b ∷ s) → decoded (b ∷ s) ≡ r → Tells later s → Tells (search_by r (b ∷ s) later) (b ∷ s)
Tells-by (Ok front) b s later bytes is h =
    let read = spelling-decoded (b ∷ s) front.0 front.1 bytes is in
    (Finds-none (b ∷ s), (read.spelled, read.long))
Tells-by (Err refusals.Short) b s later bytes is h = (Finds-none (b ∷ s), Waits-decoded (b ∷ s) bytes is)
Tells-by (Err refusals.BadLength) b s later bytes is h = Tells-broken (b ∷ s) refusals.BadLength bytes is tt
Tells-by (Err refusals.BadSum) b s later bytes is h =
    Tells-if (slice_index (b ∷ s) 1 == CONTROL_K) later (standing bad 1 (b ∷ s)) (b ∷ s)
    (λ e. Tells-noise later b s (refused_noise (b ∷ s) refusals.BadSum bytes is (λ x. cc) (λ d. d (grind (arith, nat_tests)))) h)
    (λ e. Tells-broken (b ∷ s) refusals.BadSum bytes is (λ x. grind (arith, nat_tests)))
Tells-by (Err refusals.BadStart) b s later bytes is h =
    Tells-noise later b s (refused_noise (b ∷ s) refusals.BadStart bytes is (λ x. cc) (λ d. d)) h
Tells-by (Err refusals.BadK) b s later bytes is h =
    Tells-noise later b s (refused_noise (b ∷ s) refusals.BadK bytes is (λ x. cc) (λ d. d)) h
Tells-by (Err refusals.BadXor) b s later bytes is h =
    Tells-noise later b s (refused_noise (b ∷ s) refusals.BadXor bytes is (λ x. cc) (λ d. d)) h
Tells-by (Err refusals.BadKind) b s later bytes is h =
    Tells-noise later b s (refused_noise (b ∷ s) refusals.BadKind bytes is (λ x. cc) (λ d. d)) h

pub search_of-tells : (s : List ℕ) → AreBytes s → Tells (search_of s) s
search_of-tells [] bytes = (Finds-none [], inl tt)
search_of-tells (b ∷ s) bytes =
    Tells-by (decoded (b ∷ s)) b s (search_of s) bytes refl (search_of-tells s (AreBytes-drop (b ∷ s) 1 bytes))

Tells-unique : (x y : Search) (s : List ℕ) → Tells x s → Tells y s → x ≡ y
Tells-unique (waiting rest) (waiting other) s h k =
    ap waiting (PassesNoise-unique s rest other h.0 (λ n. n.settled h.1) k.0 (λ n. n.settled k.1))
Tells-unique (waiting rest) (standing item n others) s h k =
    let same : rest ≡ others = PassesNoise-unique s rest others h.0 (λ n. n.settled h.1) k.0 (StandsFirst-not-noise item n others k.1) in
    absurd (StandsFirst-not-Waits item n others k.1 (subst Waits same h.1))
Tells-unique (standing item n others) (waiting rest) s h k =
    let same : rest ≡ others = PassesNoise-unique s rest others k.0 (λ n. n.settled k.1) h.0 (StandsFirst-not-noise item n others h.1) in
    absurd (StandsFirst-not-Waits item n others h.1 (subst Waits same k.1))
Tells-unique (standing item n others) (standing other m behind) s h k =
    let same : behind ≡ others = PassesNoise-unique s behind others k.0 (StandsFirst-not-noise other m behind k.1) h.0 (StandsFirst-not-noise item n others h.1) in
    let one = StandsFirst-unique item other n m others h.1 (subst (StandsFirst other m) same k.1) in
    ap (λ x. standing x n others) one.0 ∙ ap (λ x. standing other x others) one.1 ∙ ap (standing other m) (sym same)

pub search_of-iff : (x : Search) (s : List ℕ) → AreBytes s → (search_of s ≡ x) ↔ Tells x s
search_of-iff x s bytes = (
  λ is. subst (λ y. Tells y s) is (search_of-tells s bytes),
  λ h. Tells-unique (search_of s) x s (search_of-tells s bytes) h,
)

pub search_finds_item : (s others : List ℕ) (item : Item) (n : ℕ) → AreBytes s → (search_of s ≡ standing item n others) ↔ (PassesNoise s others × StandsFirst item n others)
search_finds_item s others item n bytes = search_of-iff (standing item n others) s bytes

pub search_finds_rest : (s rest : List ℕ) → AreBytes s → (search_of s ≡ waiting rest) ↔ (PassesNoise s rest × Waits rest)
search_finds_rest s rest bytes = search_of-iff (waiting rest) s bytes
