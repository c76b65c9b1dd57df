-- Laws of what is found first.
use Rattle.std.proofs.Common.{◌≡◌, ℕ, ◌<◌, List, [], ◌∷◌, ◌++◌, length, take, drop, refl, sym, ap, ◌∙◌, arith, subst, length-append, length-take}
use Rattle.std.proofs.lemmas.List.{take-append-drop, take-append-le}
use Rattle.uug_packet.specs.Spelling.{IsSpelling}
use Rattle.uug_packet.specs.Waits.{Waits}
use Rattle.uug_packet.proofs.DecodedLemmas.{same_spelling}
use Rattle.uug_packet.proofs.FieldLemmas.{Waits-fits}
use Rattle.uug_packet.proofs.PrefixLemmas.{waits_not-spelling, waits_not-broken, IsBroken-longer}
use Rattle.uug_reader.specs.declared.reader.TheConstants.{READER_SIZE}
use Rattle.uug_reader.specs.Cut.{IsNoise, Part, packet, broken, noise, CutsOff, Item, found, bad, items_of}
use Rattle.uug_reader.specs.Finding.{StandsFirst, PassesNoise, FindsNothing}
use Rattle.uug_reader.proofs.ScanLemmas.{Finds-none}

-- bytes that wait leave room
pub waiting_fits : (s : List ℕ) → Waits s → length s < READER_SIZE
waiting_fits = Waits-fits

-- ---- an item at the front

pub StandsFirst-not-Waits : (item : Item) (n : ℕ) (s : List ℕ) → StandsFirst item n s → Waits s → ⊥
StandsFirst-not-Waits (found p) n s h waits =
    waits_not-spelling p (take n s) (drop n s) h.0 (subst Waits (sym (take-append-drop n s)) waits)
StandsFirst-not-Waits bad n s h waits = waits_not-broken s h.0 waits

pub StandsFirst-not-noise : (item : Item) (n : ℕ) (s : List ℕ) → StandsFirst item n s → IsNoise s → ⊥
StandsFirst-not-noise (found p) n s h is_noise = is_noise.no_packet (p, take n s, drop n s, h.0, sym (take-append-drop n s))
StandsFirst-not-noise bad n s h is_noise = is_noise.not_broken h.0

pub StandsFirst-append : (s t : List ℕ) (item : Item) (n : ℕ) → StandsFirst item n s → StandsFirst item n (s ++ t)
StandsFirst-append s t (found p) n h =
    (subst (IsSpelling p) (sym (take-append-le n s t h.1)) h.0, omega (arith, h.1, length-append s t))
StandsFirst-append s t bad n h = (IsBroken-longer s t h.0, h.1)

pub StandsFirst-unique : (item other : Item) (n m : ℕ) (s : List ℕ) → StandsFirst item n s → StandsFirst other m s → (item ≡ other) × (n ≡ m)
StandsFirst-unique (found p) (found q) n m s h k =
    let same = same_spelling p q (take n s) (take m s) (drop n s) (drop m s) h.0 k.0 (take-append-drop n s ∙ sym (take-append-drop m s)) in
    (ap found same.0, omega (arith, length-take n s, length-take m s, ap length same.1, h.1, k.1))
StandsFirst-unique (found p) bad n m s h k = absurd (k.0.none p (take n s) (drop n s) h.0 (sym (take-append-drop n s)))
StandsFirst-unique bad (found q) n m s h k = absurd (h.0.none q (take m s) (drop m s) k.0 (sym (take-append-drop m s)))
StandsFirst-unique bad bad n m s h k = (refl, h.1 ∙ sym k.1)

-- ---- noise in front

-- noise ends where none follows, whichever parts it is cut into
noise_ends : (s : List ℕ) (front parts : List Part) (a b : List ℕ) → CutsOff s front a → items_of front ≡ [] → (IsNoise a → ⊥) → CutsOff s parts b → items_of parts ≡ [] → (IsNoise b → ⊥) → a ≡ b
noise_ends s [] [] a b h none ended k none' ended' = sym h ∙ k
noise_ends s [] (noise c ∷ parts) a b h none ended k none' ended' = absurd (ended (subst IsNoise h k.0))
noise_ends s (noise c ∷ front) [] a b h none ended k none' ended' = absurd (ended' (subst IsNoise k h.0))
noise_ends s (packet p w ∷ front) parts a b h none ended k none' ended' = absurd (cc)
noise_ends s (broken c ∷ front) parts a b h none ended k none' ended' = absurd (cc)
noise_ends s front (packet p w ∷ parts) a b h none ended k none' ended' = absurd (cc)
noise_ends s front (broken c ∷ parts) a b h none ended k none' ended' = absurd (cc)
noise_ends s (noise c ∷ front) (noise d ∷ parts) a b h none ended k none' ended' =
    let both : c ∷ h.1 ≡ d ∷ k.1 = sym h.2 ∙ k.2 in
    let behind : k.1 ≡ h.1 = cc in
    noise_ends h.1 front parts a b h.3 none ended (subst (λ x. CutsOff x parts b) behind k.3) none' ended'

pub PassesNoise-unique : (s a b : List ℕ) → PassesNoise s a → (IsNoise a → ⊥) → PassesNoise s b → (IsNoise b → ⊥) → a ≡ b
PassesNoise-unique s a b h ended k ended' = noise_ends s h.0 k.0 a b h.1 h.2 ended k.1 k.2 ended'

-- in front of an item that stands first there is none
pub stands_unpassed : (item : Item) (n : ℕ) (s others : List ℕ) → StandsFirst item n s → PassesNoise s others → others ≡ s
stands_unpassed item n s others h ([], cut, none) = sym cut
stands_unpassed item n s others h (packet p w ∷ parts, cut, none) = absurd (cc)
stands_unpassed item n s others h (broken b ∷ parts, cut, none) = absurd (cc)
stands_unpassed item n s others h (noise b ∷ parts, cut, none) = absurd (StandsFirst-not-noise item n s h cut.0)

-- where an item stands behind noise, the stream is not noise and a rest
pub stands_not_nothing : (s others : List ℕ) (item : Item) (n : ℕ) → PassesNoise s others → StandsFirst item n others → FindsNothing s → ⊥
stands_not_nothing s others item n passes stands nothing =
    let same : others ≡ nothing.0 = PassesNoise-unique s others nothing.0 passes (StandsFirst-not-noise item n others stands) nothing.1.finds (λ h. h.settled nothing.1.waits) in
    StandsFirst-not-Waits item n others stands (subst Waits (sym same) nothing.1.waits)

-- ---- a further search

pub stands_again : (s t others : List ℕ) (item other : Item) (n m : ℕ) → StandsFirst item n s → PassesNoise (s ++ t) others → StandsFirst other m others → (others ≡ s ++ t) × (other ≡ item) × (m ≡ n)
stands_again s t others item other n m h passes k =
    let whole : StandsFirst item n (s ++ t) = StandsFirst-append s t item n h in
    let same : others ≡ s ++ t = stands_unpassed item n (s ++ t) others whole passes in
    let one = StandsFirst-unique other item m n (s ++ t) (subst (StandsFirst other m) same k) whole in
    (same, one.0, one.1)

pub stands_always : (s t : List ℕ) (item : Item) (n : ℕ) → StandsFirst item n s → FindsNothing (s ++ t) → ⊥
stands_always s t item n h nothing =
    stands_not_nothing (s ++ t) (s ++ t) item n (Finds-none (s ++ t)) (StandsFirst-append s t item n h) nothing
