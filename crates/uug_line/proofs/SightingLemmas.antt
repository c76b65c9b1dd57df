-- The place at which a packet's spelling stands is the packet's place.
use Rattle.std.proofs.Common.{◌≡◌, ◌≢◌, ◌↔◌, ◌⊎◌, inl, inr, ℕ, zero, suc, ◌+◌, ◌<◌, ◌≤◌, Bool, IsTrue, List, [], ◌∷◌, length, get_or, slice_get, Vec, Option, Some, ap, sym, subst, ◌∙◌, refl, arith}
use Rattle.std.proofs.lemmas.Bool.{cases_lt}
use Rattle.std.proofs.lemmas.List.{length-map}
use Rattle.std.proofs.lemmas.Option.{slice_get-map, slice_get_read, slice_get_within}
use Rattle.std.specs.Option.{option_map}
use Rattle.uug_packet.specs.WellFormed.{IsWritten}
use Rattle.uug_line.specs.JournalValue.{packet_in}
use Rattle.uug_line.specs.LineEndValue.{AreWritten}
use Rattle.uug_line.specs.Shown.{lists_in}
use Rattle.uug_line.specs.Code.Sightings.{StandsNowhere}

-- what is read at a place is what stands there
reads_there : {A : Type 0} (others : List (Vec ℕ A)) (i : ℕ) (v : Vec ℕ A) → i < length others → v ≡ get_or others i v
    → slice_get (lists_in others) i ≡ Some v.items
reads_there {A} others i v within there =
    let items : Vec ℕ A → List ℕ = λ x. x.items in
    slice_get-map items others i ∙ ap (option_map items) (slice_get_read others (length others) i v refl within there)

pub stands_there : {A : Type 0} (bytes : List ℕ) (others : List (Vec ℕ A)) (i : ℕ) (v : Vec ℕ A) (same : Bool) → i < length others
    → v ≡ get_or others i v → IsTrue same ↔ (v.items ≡ bytes) → IsTrue same ↔ (slice_get (lists_in others) i ≡ Some bytes)
stands_there {A} bytes others i v same within there is =
    let at = reads_there others i v within there in
    (λ yes. at ∙ ap Some (is.0 yes), λ stands. is.1 (some_same v.items bytes (sym at ∙ stands))) where
      some_same : (x y : List ℕ) → ◌≡◌ {A = Option (List ℕ)} (Some x) (Some y) → x ≡ y
      some_same x y e = cc

written_at : (others : List (List ℕ)) (i : ℕ) (b : List ℕ) → AreWritten others → slice_get others i ≡ Some b → IsWritten b
written_at [] i b written at = absurd cc
written_at (x ∷ xs) zero b written at =
    let same : x ≡ b = cc in subst IsWritten same (record { packet = packet_in x; well_formed = written.0.1; is = written.0.0 })
written_at (x ∷ xs) (suc i) b written at = written_at xs i b written.1 at

-- each of them is a packet as it is written
pub written_there : {A : Type 0} (others : List (Vec ℕ A)) (i : ℕ) (v : Vec ℕ A) → i < length others → v ≡ get_or others i v
    → AreWritten (lists_in others) → IsWritten v.items
written_there others i v within there written =
    written_at (lists_in others) i v.items written (reads_there others i v within there)

-- ---- place by place

pub none_so_far : (bytes : List ℕ) (others : List (List ℕ)) (passed i : ℕ)
    → ((j : ℕ) → passed ≤ j → j < i → slice_get others j ≢ Some bytes) → slice_get others i ≢ Some bytes
    → (j : ℕ) → passed ≤ j → j < i + 1 → slice_get others j ≢ Some bytes
none_so_far bytes others passed i none not_here j behind before at = by (cases_lt j i) where
  by : (j < i) ⊎ (i ≤ j) → ⊥
  by (inl below) = none j behind below at
  by (inr above) = let here : j ≡ i = omega (arith, above, before) in not_here (subst (λ (k : ℕ). slice_get others k ≡ Some bytes) here at)

pub none_behind : {A : Type 0} (bytes : List ℕ) (others : List (Vec ℕ A)) (passed i : ℕ) → length others ≤ i
    → ((j : ℕ) → passed ≤ j → j < i → slice_get (lists_in others) j ≢ Some bytes) → StandsNowhere bytes (lists_in others) passed
none_behind {A} bytes others passed i end none j behind at =
    let items : Vec ℕ A → List ℕ = λ x. x.items in
    let within : j < length (lists_in others) = slice_get_within (lists_in others) j bytes at in
    let same : length (lists_in others) ≡ length others = length-map others items in
    none j behind (omega (arith, within, same, end)) at
