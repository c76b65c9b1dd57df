-- Laws of what is found in a stream.
use Rattle.std.proofs.Common.{◌≡◌, ℕ, ◌+◌, ◌≤◌, List, [], ◌∷◌, ◌++◌, length, length-append, take, drop, refl, sym, ap, ◌∙◌, arith, subst, inl}
use Rattle.std.proofs.lemmas.List.{take-append-drop}
use Rattle.std.proofs.Math.Seq.{drop-append_seam}
use Rattle.uug_packet.specs.Bytes.{AreBytes}
use Rattle.uug_packet.specs.Waits.{Waits}
use Rattle.uug_packet.proofs.PrefixLemmas.{waits_not-broken}
use Rattle.uug_reader.specs.Cut.{Part, packet, broken, noise, CutsOff, IsCut, Item, found, bad, items_of}
use Rattle.uug_reader.specs.Finding.{StandsFirst, PassesNoise}
use Rattle.uug_reader.specs.Scan.{Finds, IsScan}
use Rattle.uug_reader.proofs.CutLemmas.{CutsOff-append, CutsOff-join, items_of-append, some_in_spelling}
use Rattle.uug_reader.proofs.OneCut.{AreBytes-drop, IsCut-some, IsCut-unique}

-- ---- in steps

pub Finds-none : (s : List ℕ) → Finds s [] s
Finds-none s = ([], refl, refl)

pub Finds-item : (s : List ℕ) (item : Item) (n : ℕ) → StandsFirst item n s → Finds s (item ∷ []) (drop n s)
Finds-item s (found p) n h = (packet p (take n s) ∷ [], (h.0, drop n s, sym (take-append-drop n s), refl), refl)
Finds-item [] bad n h = absurd (waits_not-broken [] h.0 (inl tt))
Finds-item (b ∷ s) bad n h = (broken b ∷ [], (h.0, s, refl, sym (ap (λ m. drop m (b ∷ s)) h.1)), refl)

pub Finds-join : (s middle others : List ℕ) (items more : List Item) → Finds s items middle → Finds middle more others → Finds s (items ++ more) others
Finds-join s middle others items more h k =
    let both : items_of h.0 ++ items_of k.0 ≡ items ++ more = ap (λ x. x ++ items_of k.0) h.2 ∙ ap (λ x. items ++ x) k.2 in
    (h.0 ++ k.0, CutsOff-join s h.0 middle k.0 others h.1 k.1, items_of-append h.0 k.0 ∙ both)

pub Finds-append : (s others t : List ℕ) (items : List Item) → Finds s items others → Finds (s ++ t) items (others ++ t)
Finds-append s others t items h = (h.0, CutsOff-append s h.0 others t h.1, h.2)

-- each part takes at least a byte
CutsOff-fewer : (s : List ℕ) (parts : List Part) (others : List ℕ) → CutsOff s parts others → length others + length (items_of parts) ≤ length s
CutsOff-fewer s [] others h = omega (arith, ap length h)
CutsOff-fewer s (packet p w ∷ parts) others h =
    omega (arith, CutsOff-fewer h.1 parts others h.3, ap length h.2, length-append w h.1, some_in_spelling p w h.0)
CutsOff-fewer s (broken b ∷ parts) others h = omega (arith, CutsOff-fewer h.1 parts others h.3, ap length h.2)
CutsOff-fewer s (noise b ∷ parts) others h = omega (arith, CutsOff-fewer h.1 parts others h.3, ap length h.2)

pub Finds-fewer : (s others : List ℕ) (items : List Item) → Finds s items others → length others + length items ≤ length s
Finds-fewer s others items h = omega (arith, CutsOff-fewer s h.0 others h.1, ap length h.2)

-- ---- the scan

pub IsScan-cut : (s rest : List ℕ) (parts : List Part) → IsCut s parts rest → IsScan s (items_of parts) rest
IsScan-cut s rest parts h = record { finds = (parts, h.parts_are, refl); waits = h.rest_waits }

cut_of : (s rest : List ℕ) (items : List Item) → (h : IsScan s items rest) → IsCut s h.finds.0 rest
cut_of s rest items h = record { parts_are = h.finds.1; rest_waits = h.waits }

pub IsScan-some : (s : List ℕ) → AreBytes s → (items : List Item) × (rest : List ℕ) × IsScan s items rest
IsScan-some s bytes =
    let cut = IsCut-some s bytes in (items_of cut.0, cut.1, IsScan-cut s cut.1 cut.0 cut.2)

pub IsScan-unique : (s rest other : List ℕ) (items others : List Item) → IsScan s items rest → IsScan s others other → (items ≡ others) × (rest ≡ other)
IsScan-unique s rest other items others h k =
    let same = IsCut-unique s rest other h.finds.0 k.finds.0 (cut_of s rest items h) (cut_of s other others k) in
    (sym h.finds.2 ∙ ap items_of same.0 ∙ k.finds.2, same.1)

pub IsScan-behind : (s middle rest : List ℕ) (items more : List Item) → Finds s items middle → IsScan middle more rest → IsScan s (items ++ more) rest
IsScan-behind s middle rest items more h k =
    record { finds = Finds-join s middle rest items more h k.finds; waits = k.waits }

pub IsScan-append : (s t rest last : List ℕ) (items more : List Item) → IsScan s items rest → IsScan (rest ++ t) more last → IsScan (s ++ t) (items ++ more) last
IsScan-append s t rest last items more h k =
    IsScan-behind (s ++ t) (rest ++ t) last items more (Finds-append s rest t items h.finds) k

pub IsScan-item : (s others rest : List ℕ) (item : Item) (n : ℕ) (items : List Item) → PassesNoise s others → StandsFirst item n others → IsScan (drop n others) items rest → IsScan s (item ∷ items) rest
IsScan-item s others rest item n items passes stands k =
    let first : Finds s (item ∷ []) (drop n others) = Finds-join s others (drop n others) [] (item ∷ []) passes (Finds-item others item n stands) in
    IsScan-behind s (drop n others) rest (item ∷ []) items first k

pub IsScan-rest : (s rest : List ℕ) → PassesNoise s rest → Waits rest → IsScan s [] rest
IsScan-rest s rest passes waits = record { finds = passes; waits = waits }

-- ---- what is left of bytes

AreBytes-behind : (w s more : List ℕ) → s ≡ w ++ more → AreBytes s → AreBytes more
AreBytes-behind w s more joined bytes =
    subst AreBytes (ap (drop (length w)) joined ∙ drop-append_seam w more) (AreBytes-drop s (length w) bytes)

AreBytes-left : (s : List ℕ) (parts : List Part) (others : List ℕ) → CutsOff s parts others → AreBytes s → AreBytes others
AreBytes-left s [] others h bytes = subst AreBytes h bytes
AreBytes-left s (packet p w ∷ parts) others h bytes = AreBytes-left h.1 parts others h.3 (AreBytes-behind w s h.1 h.2 bytes)
AreBytes-left s (broken b ∷ parts) others h bytes = AreBytes-left h.1 parts others h.3 (AreBytes-behind (b ∷ []) s h.1 h.2 bytes)
AreBytes-left s (noise b ∷ parts) others h bytes = AreBytes-left h.1 parts others h.3 (AreBytes-behind (b ∷ []) s h.1 h.2 bytes)

pub AreBytes-found : (s others : List ℕ) (items : List Item) → Finds s items others → AreBytes s → AreBytes others
AreBytes-found s others items h bytes = AreBytes-left s h.0 others h.1 bytes
