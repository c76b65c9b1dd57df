-- Items and their places among bytes.
use Rattle.std.proofs.Common.{◌≡◌, ℕ, ◌+◌, ◌-◌, ◌<◌, ◌≤◌, ◌↔◌, Bool, true, false, IsTrue, IsFalse, List, ◌++◌, length, take, drop, Option, Some, None, IfSome, IsNone, MatchOption, refl, sym, ap, ◌∙◌, arith, subst, [], ◌∷◌, zero, suc, length-append, length-take}
use Rattle.std.proofs.lemmas.List.{append-nil, nil_from_length, drop-append-le, take-take, drop-take, drop-drop}
use Rattle.circular_buffer.specs.Buffer.{Buffer, buffer}
use Rattle.std.specs.Option.{is_some}
use Rattle.uug_packet.specs.Bytes.{AreBytes}
use Rattle.uug_packet.specs.Message.{LiesAt}
use Rattle.uug_packet.specs.Waits.{Waits}
use Rattle.uug_reader.specs.declared.found.Found.{Found}
use Rattle.uug_reader.specs.declared.place.Standing.{Standing}
use Rattle.uug_reader.specs.Cut.{Item}
use Rattle.uug_reader.specs.Finding.{StandsFirst, PassesNoise, FindsFirst, FindsNothing}
use Rattle.uug_reader.specs.Code.Place.{item_at, item_beside, IsFirst, IsBeside, StandsBeside, StandsThere, size_of, left, Holds}
use Rattle.uug_reader.specs.Reading.{Reading, Shows, IsWaiting}
use Rattle.uug_reader.specs.Shown.{item_of}
use Rattle.uug_reader.specs.Search.{left_by, after_search}
use Rattle.uug_reader.proofs.FindingLemmas.{StandsFirst-append, stands_not_nothing}
use Rattle.uug_reader.proofs.ScanLemmas.{Finds-none, Finds-append, Finds-join, IsScan-rest}
use Rattle.uug_reader.proofs.SearchLemmas.{search_finds_item, search_finds_rest}

pub record ShowsSearched (s : List ℕ) (result : Option Found) (new : Reading) : Type 0 where
  pub shows : MatchOption result (IsWaiting new) (λ found. Shows (item_of found) new)
  pub none : IsNone result ↔ FindsNothing s
  pub first : IfSome result (λ found. FindsFirst s (item_of found))

-- the item shown
pub shown_item : (shown : Option Standing) (beside s : List ℕ) → 0 < size_of shown → IfSome shown (λ standing. IsBeside standing beside s) → (item : Item) × StandsFirst item (size_of shown) s
shown_item None beside s some h = absurd (omega (arith, some))
shown_item (Some standing) beside s some h = (item_beside standing.place beside, h.stands)

-- an item that lies among the bytes stands first with its message laid beside
pub laid : (standing : Standing) (beside s : List ℕ) → IsFirst standing s → item_beside standing.place beside ≡ item_at standing.place s → IsBeside standing beside s
laid standing beside s h is = record {
  stands = subst (λ i. StandsFirst i standing.size s) (sym is) h.stands;
  some = h.some;
  within = h.within;
}

pub shown_stands : (shown : Option Standing) (beside s : List ℕ) → is_some shown ≡ true → IfSome shown (λ standing. IsBeside standing beside s) → StandsBeside shown beside s
shown_stands None beside s some h = absurd (cc)
shown_stands (Some standing) beside s some h = h

-- what lies in the front of some bytes lies there in all of them
pub lies_in_front : (message bytes : List ℕ) (start size : ℕ) → LiesAt message start (take size bytes) → take (start + length message - start) (drop start bytes) ≡ message
lies_in_front message bytes start size h =
    let n = length message in
    let whole : size ≡ start + (size - start) = omega (arith, h.fits, length-take size bytes) in
    let count : start + n - start ≡ n = omega arith in
    ap (λ m. take m (drop start bytes)) count
    ∙ sym (take-take n (size - start) (drop start bytes) (omega (arith, h.fits, length-take size bytes)))
    ∙ ap (take n) (sym (drop-take start (size - start) bytes))
    ∙ ap (λ m. take n (drop start (take m bytes))) (sym whole)
    ∙ h.is

-- where the first piece is searched to its end and the second is empty, both wait
pub nothing_in_piece : (first : Option Standing) (front back beside : List ℕ) (passed : ℕ) → length back ≡ 0 → first ≡ None → StandsThere first (drop passed front) → StandsBeside first beside (drop passed (front ++ back))
nothing_in_piece first front back beside passed empty is h =
    subst (λ (f : Option Standing). StandsBeside f beside (drop passed (front ++ back))) (sym is)
    (subst (λ (s : List ℕ). Waits (drop passed s)) (sym (ap (λ (b : List ℕ). front ++ b) (nil_from_length back empty) ∙ append-nil front))
    (subst (λ (f : Option Standing). StandsThere f (drop passed front)) is h))

-- what is kept of bytes that were passed
pub kept : (bytes : List ℕ) (passed start end : ℕ) → start ≤ end → drop (passed + start) (take (passed + end) bytes) ≡ take (end - start) (drop start (drop passed bytes))
kept bytes passed start end low =
    let count : passed + end ≡ passed + start + (end - start) = omega (arith, low) in
    ap (λ n. drop (passed + start) (take n bytes)) count
    ∙ drop-take (passed + start) (end - start) bytes
    ∙ ap (take (end - start)) (sym (drop-drop start passed bytes))

pub AreBytes-append : (s t : List ℕ) → AreBytes s → AreBytes t → AreBytes (s ++ t)
AreBytes-append [] t h k i = k i
AreBytes-append (b ∷ s) t h k zero = h zero
AreBytes-append (b ∷ s) t h k (suc i) = AreBytes-append s t (λ j. h (suc j)) k i

IsBeside-append : (standing : Standing) (beside s t : List ℕ) → IsBeside standing beside s → IsBeside standing beside (s ++ t)
IsBeside-append standing beside s t h = record {
  stands = StandsFirst-append s t (item_beside standing.place beside) standing.size h.stands;
  some = h.some;
  within = omega (arith, h.within, length-append s t);
}

shown-append : (shown : Option Standing) (beside s t : List ℕ) → IfSome shown (λ standing. IsBeside standing beside s) → IfSome shown (λ standing. IsBeside standing beside (s ++ t))
shown-append None beside s t h = tt
shown-append (Some standing) beside s t h = IsBeside-append standing beside s t h

-- ---- two pieces

-- noise at the front of the first is noise at the front of both
pub passes_piece : (front back : List ℕ) (passed : ℕ) → passed ≤ length front → PassesNoise front (drop passed front) → PassesNoise (front ++ back) (drop passed (front ++ back))
passes_piece front back passed within passes =
    subst (PassesNoise (front ++ back)) (sym (drop-append-le passed front back within)) (Finds-append front (drop passed front) back [] passes)

-- what stands first in the first piece does so in both
pub stands_in_piece : (front back beside : List ℕ) (passed : ℕ) (standing : Standing) → passed ≤ length front → IsBeside standing beside (drop passed front) → IsBeside standing beside (drop passed (front ++ back))
stands_in_piece front back beside passed standing within h =
    subst (IsBeside standing beside) (sym (drop-append-le passed front back within)) (IsBeside-append standing beside (drop passed front) back h)

-- what more is passed
drop-joined : (front back : List ℕ) (passed later : ℕ) → passed ≤ length front → drop later (drop passed front ++ back) ≡ drop (passed + later) (front ++ back)
drop-joined front back passed later within =
    ap (drop later) (sym (drop-append-le passed front back within)) ∙ drop-drop later passed (front ++ back)

pub passes_joined : (front back : List ℕ) (passed later : ℕ) → passed ≤ length front → PassesNoise front (drop passed front) → (let joined = drop passed front ++ back in PassesNoise joined (drop later joined)) → PassesNoise (front ++ back) (drop (passed + later) (front ++ back))
passes_joined front back passed later within passes more =
    subst (PassesNoise (front ++ back)) (drop-joined front back passed later within)
    (Finds-join (front ++ back) (drop passed front ++ back) (drop later (drop passed front ++ back)) [] [] (Finds-append front (drop passed front) back [] passes) more)

pub stands_joined : (front back beside : List ℕ) (passed later : ℕ) (first : Option Standing) → passed ≤ length front → StandsBeside first beside (drop later (drop passed front ++ back)) → StandsBeside first beside (drop (passed + later) (front ++ back))
stands_joined front back beside passed later first within h =
    subst (StandsBeside first beside) (drop-joined front back passed later within) h

-- ---- what a reader does

-- bytes are appended
pub Holds-pushed : (old new : Buffer ℕ) (beside t : List ℕ) (shown : Option Standing) → Holds old beside shown → new ≡ buffer (old.items ++ t) old.capacity → length old.items + length t ≤ old.capacity → Holds new beside shown
Holds-pushed old new beside t shown h is fits = record {
  room = ap (λ (b : Buffer ℕ). b.capacity) is ∙ h.room;
  fits = omega (arith, ap (λ (b : Buffer ℕ). length b.items) is, length-append old.items t, fits, h.room);
  first = subst (λ (b : Buffer ℕ). IfSome shown (λ standing. IsBeside standing beside b.items)) (sym is) (shown-append shown beside old.items t h.first);
}

-- what a search finds is what the function finds
pub found_exactly : (s beside : List ℕ) (passed : ℕ) (first : Option Standing) → AreBytes s → PassesNoise s (drop passed s) → StandsBeside first beside (drop passed s) → after_search s ≡ left passed first s
found_exactly s beside passed None bytes passes waits =
    ap left_by ((search_finds_rest s (drop passed s) bytes).1 (passes, waits))
found_exactly s beside passed (Some first) bytes passes h =
    ap left_by ((search_finds_item s (drop passed s) (item_beside first.place beside) first.size bytes).1 (passes, h.stands))

pub shown_exactly : (s beside : List ℕ) (shown : Option Standing) → AreBytes s → is_some shown ≡ true → IfSome shown (λ standing. IsBeside standing beside s) → after_search s ≡ left 0 shown s
shown_exactly s beside shown bytes some h =
    found_exactly s beside 0 shown bytes (Finds-none s) (shown_stands shown beside s some h)

pub nothing_found : (s others beside : List ℕ) (first : Option Standing) → PassesNoise s others → StandsBeside first beside others → IsFalse (is_some first) ↔ FindsNothing s
nothing_found s others beside None passes waits = (λ h. (others, IsScan-rest s others passes waits), λ h. refl)
nothing_found s others beside (Some first) passes h =
    (λ h'. absurd (cc), λ nothing. absurd (stands_not_nothing s others (item_beside first.place beside) first.size passes h.stands nothing))

-- ---- what a reader shows then

pub shows_searched : (s : List ℕ) (new : Reading) (answer : Bool) (result : Option Found) → PassesNoise s new.bytes → (IsTrue answer → (item : Item) × Shows item new) → (IsFalse answer → IsWaiting new) → (IsFalse answer ↔ FindsNothing s) → MatchOption result (new.shown_size ≡ 0) (λ found. Shows (item_of found) new) → ShowsSearched s result new
shows_searched s new true None passes here ends nothing shows =
    absurd (omega (arith, (here refl).1.1, shows))
shows_searched s new false None passes here ends nothing shows = record {
  shows = ends refl;
  none = (λ _. nothing.0 refl, λ _. refl);
  first = tt;
}
shows_searched s new false (Some item) passes here ends nothing shows = absurd (omega (arith, shows.1, (ends refl).2))
shows_searched s new true (Some item) passes here ends nothing shows = record {
  shows = shows;
  none = (λ h. absurd (cc), λ h. absurd (cc (nothing.1 h)));
  first = (new.bytes, new.shown_size, passes, shows.0);
}
