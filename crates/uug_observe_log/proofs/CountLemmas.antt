-- What is counted one item after the other.
use Rattle.std.proofs.Common.{◌≡◌, ℕ, ◌-◌, ◌<◌, min, List, [], ◌∷◌, ◌++◌, length, take, drop, refl, sym, ap, ◌∙◌, arith, append_assoc, subst, length-drop}
use Rattle.std.proofs.lemmas.List.{take-append-drop, take_rest}
use Rattle.uug_reader.specs.Cut.{Item}
use Rattle.uug_reader.specs.Finding.{StandsFirst, PassesNoise}
use Rattle.uug_reader.specs.Reading.{Reading, Shows}
use Rattle.uug_reader.proofs.ScanLemmas.{Finds-item, Finds-join, Finds-append, Finds-fewer}
use Rattle.uug_observe_log.specs.Losses.{AddsCounts, passed_after, passed_with}
use Rattle.uug_observe_log.specs.declared.passed.Passed.{Passed}

passed_with-append : (p : Passed) (items more : List Item) → passed_with p (items ++ more) ≡ passed_with (passed_with p items) more
passed_with-append p [] more = refl
passed_with-append p (item ∷ items) more = passed_with-append (passed_after p item) items more

-- items and then more items
pub counts_join : (s middle others : List ℕ) (p q r : Passed) → AddsCounts s middle p q → AddsCounts middle others q r → AddsCounts s others p r
counts_join s middle others p q r h k = (
  h.0 ++ k.0,
  Finds-join s middle others h.0 k.0 h.1 k.1,
  k.2 ∙ ap (λ x. passed_with x k.0) h.2 ∙ sym (passed_with-append p h.0 k.0),
)

-- noise in front is not counted
pub counts_noise : (s others : List ℕ) (p : Passed) → PassesNoise s others → AddsCounts s others p p
counts_noise s others p h = ([], h, refl)

pub counts_append : (s others t : List ℕ) (p q : Passed) → AddsCounts s others p q → AddsCounts (s ++ t) (others ++ t) p q
counts_append s others t p q h = (h.0, Finds-append s others t h.0 h.1, h.2)

pub record AddsItem (first old new : List ℕ) (p r : Passed) : Type 0 where
  pub fewer : length new < length old
  pub added : AddsCounts first new p r

-- an item is found, counted, and dropped
pub counts_item : (item : Item) (n : ℕ) (first old middle new : List ℕ) (p q r : Passed) → AddsCounts first old p q → PassesNoise old middle → StandsFirst item n middle → new ≡ drop n middle → r ≡ passed_after q item → AddsItem first old new p r
counts_item item n first old middle new p q r added passes stands new_is counted_is =
    let found_middle : AddsCounts first middle p q = counts_join first old middle p q q added (counts_noise old middle q passes) in
    let counted_item : AddsCounts middle (drop n middle) q r = (item ∷ [], Finds-item middle item n stands, counted_is) in
    let next : AddsCounts first (drop n middle) p r = counts_join first middle (drop n middle) p q r found_middle counted_item in
    record {
      fewer = omega (arith, Finds-fewer old middle [] passes, Finds-fewer middle (drop n middle) (item ∷ []) (Finds-item middle item n stands), ap length new_is);
      added = subst (λ t. AddsCounts first t p r) (sym new_is) next;
    }

pub record AddsTaken (first rest old new : List ℕ) (p r : Passed) : Type 0 where
  pub fewer : length new < length old
  pub added : AddsCounts first (rest ++ new) p r

-- the reader takes the first bytes of what is left of a piece, and its items are counted
pub counts_taken : (n size : ℕ) (first held rest grown left behind : List ℕ) (p q r : Passed) → AddsCounts first (held ++ rest) p q → n ≡ min (size - length held) (length rest) → length held < size → 0 < length rest → grown ≡ held ++ take n rest → left ≡ take (length rest - n) (drop n rest) → AddsCounts grown behind q r → AddsTaken first behind rest left p r
counts_taken n size first held rest grown left behind p q r added count room some grown_is left_is next =
    let left_rest : left ≡ drop n rest = left_is ∙ take_rest rest n in
    let same : held ++ rest ≡ grown ++ left = ap (λ t. held ++ t) (sym (take-append-drop n rest)) ∙ sym (append_assoc held (take n rest) (drop n rest)) ∙ ap (λ t. t ++ drop n rest) (sym grown_is) ∙ ap (λ t. grown ++ t) (sym left_rest) in
    record {
      fewer = omega (arith, count, room, some, ap length left_rest, length-drop n rest);
      added = counts_join first (grown ++ left) (behind ++ left) p q r (subst (λ t. AddsCounts first t p q) same added) (counts_append grown behind left q r next);
    }

-- the item that is shown is counted, and dropped
pub counts_shown : (first old new : List ℕ) (searched shown : Reading) (p q r : Passed) → AddsCounts first old p q → PassesNoise old searched.bytes → shown ≡ searched → ((item : Item) × Shows item searched × (r ≡ passed_after q item)) → new ≡ drop shown.shown_size shown.bytes → AddsItem first old new p r
counts_shown first old new searched shown p q r added passes same counted dropped =
    counts_item counted.0 searched.shown_size first old searched.bytes new p q r added passes counted.1.0
    (subst (λ (reader : Reading). new ≡ drop reader.shown_size reader.bytes) same dropped) counted.2

-- nothing more is found
pub counts_ended : (first old ended : List ℕ) (p q : Passed) → AddsCounts first old p q → PassesNoise old ended → AddsCounts first ended p q
counts_ended first old ended p q added passes = counts_join first old ended p q q added (counts_noise old ended q passes)
