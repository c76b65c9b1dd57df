-- That a reader drops what the scan of all bytes finds.
use Rattle.std.proofs.Common.{◌≡◌, ℕ, ◌<◌, List, [], ◌∷◌, ◌++◌, refl, sym, ap, ◌∙◌, subst, append_assoc, ◌⊎◌, inl, inr}
use Rattle.std.proofs.lemmas.List.{append-nil}
use Rattle.uug_packet.specs.Bytes.{AreBytes}
use Rattle.uug_packet.specs.Waits.{Waits}
use Rattle.uug_reader.specs.Calls.{Call, pushed, searched, showed, dropped, Make, all_accepted, all_dropped}
use Rattle.uug_reader.specs.Cut.{Item}
use Rattle.uug_reader.specs.Finding.{StandsFirst, PassesNoise}
use Rattle.uug_reader.specs.Reading.{Reading, fresh, Shows, IsWaiting}
use Rattle.uug_reader.specs.Scan.{Finds, IsScan}
use Rattle.uug_reader.proofs.FindingLemmas.{StandsFirst-not-Waits, StandsFirst-append, StandsFirst-unique, stands_unpassed}
use Rattle.uug_reader.proofs.ScanLemmas.{Finds-item, Finds-join, Finds-append, IsScan-some, IsScan-unique, IsScan-behind, AreBytes-found}

-- what some calls drop is found from the front of what was held and what they accept
all_dropped-found : (calls : List Call) (old new : Reading) → Make calls old new → Finds (old.bytes ++ all_accepted calls) (all_dropped calls) new.bytes
all_dropped-found [] old new h = ([], append-nil old.bytes ∙ ap (λ (r : Reading). r.bytes) h, refl)
all_dropped-found (pushed bytes ∷ calls) old new h =
    let same : h.0.bytes ++ all_accepted calls ≡ old.bytes ++ (bytes ++ all_accepted calls) = ap (λ x. x ++ all_accepted calls) h.1.0 ∙ append_assoc old.bytes bytes (all_accepted calls) in
    subst (λ x. Finds x (all_dropped calls) new.bytes) same (all_dropped-found calls h.0 new h.2)
all_dropped-found (searched ∷ calls) old new h =
    Finds-join (old.bytes ++ all_accepted calls) (h.0.bytes ++ all_accepted calls) new.bytes [] (all_dropped calls)
    (Finds-append old.bytes h.0.bytes (all_accepted calls) [] h.1.0) (all_dropped-found calls h.0 new h.2)
all_dropped-found (showed item ∷ calls) old new h =
    subst (λ (r : Reading). Finds (r.bytes ++ all_accepted calls) (all_dropped calls) new.bytes) h.1.0 (all_dropped-found calls h.0 new h.2)
all_dropped-found (dropped item ∷ calls) old new h =
    let one : Finds old.bytes (item ∷ []) h.0.bytes = subst (Finds old.bytes (item ∷ [])) (sym h.1.2) (Finds-item old.bytes item old.shown_size h.1.1) in
    Finds-join (old.bytes ++ all_accepted calls) (h.0.bytes ++ all_accepted calls) new.bytes (item ∷ []) (all_dropped calls)
    (Finds-append old.bytes h.0.bytes (all_accepted calls) (item ∷ []) one) (all_dropped-found calls h.0 new h.2)

pub dropped_are_found : (calls : List Call) (now : Reading) → Make calls fresh now → Finds (all_accepted calls) (all_dropped calls) now.bytes
dropped_are_found calls now made = all_dropped-found calls fresh now made

-- the items dropped are the first, and those of what is held are the others
pub dropped_are_first : (calls : List Call) (now : Reading) (items : List Item) (rest : List ℕ) → AreBytes (all_accepted calls) → Make calls fresh now → IsScan (all_accepted calls) items rest → (later : List Item) × IsScan now.bytes later rest × (items ≡ all_dropped calls ++ later)
dropped_are_first calls now items rest bytes made scan =
    let taken : Finds (all_accepted calls) (all_dropped calls) now.bytes = dropped_are_found calls now made in
    let more = IsScan-some now.bytes (AreBytes-found (all_accepted calls) now.bytes (all_dropped calls) taken bytes) in
    let whole : IsScan (all_accepted calls) (all_dropped calls ++ more.0) more.1 = IsScan-behind (all_accepted calls) now.bytes more.1 (all_dropped calls) more.0 taken more.2 in
    let same = IsScan-unique (all_accepted calls) rest more.1 items (all_dropped calls ++ more.0) scan whole in
    (more.0, subst (IsScan now.bytes more.0) (sym same.1) more.2, same.0)

-- ---- from a showing to a drop

Shows-searched : (item : Item) (old new : Reading) → Shows item old → PassesNoise old.bytes new.bytes → ((other : Item) × Shows other new) ⊎ IsWaiting new → Shows item new
Shows-searched item old new h passes (inl found) =
    let same : new.bytes ≡ old.bytes = stands_unpassed item old.shown_size old.bytes new.bytes h.0 passes in
    let one = StandsFirst-unique found.0 item new.shown_size old.shown_size old.bytes (subst (StandsFirst found.0 new.shown_size) same found.1.0) h.0 in
    (subst (λ i. StandsFirst i new.shown_size new.bytes) one.0 found.1.0, found.1.1)
Shows-searched item old new h passes (inr waits) =
    let same : new.bytes ≡ old.bytes = stands_unpassed item old.shown_size old.bytes new.bytes h.0 passes in
    absurd (StandsFirst-not-Waits item old.shown_size old.bytes h.0 (subst Waits same waits.0))

pub shown_stays : (item : Item) (calls : List Call) (old new : Reading) → Shows item old → Make calls old new → all_dropped calls ≡ [] → Shows item new
shown_stays item [] old new h made none = subst (Shows item) made h
shown_stays item (pushed bytes ∷ calls) old new h made none =
    let longer : StandsFirst item old.shown_size (old.bytes ++ bytes) = StandsFirst-append old.bytes bytes item old.shown_size h.0 in
    let here : StandsFirst item made.0.shown_size made.0.bytes = subst (λ n. StandsFirst item n made.0.bytes) (sym made.1.1) (subst (StandsFirst item old.shown_size) (sym made.1.0) longer) in
    shown_stays item calls made.0 new (here, subst (λ n. 0 < n) (sym made.1.1) h.1) made.2 none
shown_stays item (searched ∷ calls) old new h made none =
    shown_stays item calls made.0 new (Shows-searched item old made.0 h made.1.0 made.1.1) made.2 none
shown_stays item (showed other ∷ calls) old new h made none =
    shown_stays item calls made.0 new (subst (Shows item) (sym made.1.0) h) made.2 none
shown_stays item (dropped other ∷ calls) old new h made none = absurd (cc)

pub shown_is_dropped : (item other : Item) (now : Reading) → Shows item now → StandsFirst other now.shown_size now.bytes → other ≡ item
shown_is_dropped item other now h k = (StandsFirst-unique other item now.shown_size now.shown_size now.bytes k h.0).0
