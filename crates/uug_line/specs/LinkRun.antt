-- The run of two links that a session is: what happened at its ends, and which packets each of them heard (this project's
-- profile).
use Rattle.std.specs.Prelude.{◌≡◌, ℕ, suc, List, [], ◌∷◌}
use Rattle.uug_link.specs.TwoLinks.{AllMayOccur, Ends, Happening, Occurrence, after_occurrences, at_far, at_near, hears, misses, moves}
use Rattle.uug_link.specs.WindowMachine.{Machine, Move, after}

-- what happened at one end
abbrev pub happened_near : List Occurrence → List Happening
happened_near [] = []
happened_near (at_near h ∷ os) = h ∷ happened_near os
happened_near (at_far h ∷ os) = happened_near os

abbrev pub happened_far : List Occurrence → List Happening
happened_far [] = []
happened_far (at_near h ∷ os) = happened_far os
happened_far (at_far h ∷ os) = h ∷ happened_far os

-- the places of the packets that an end heard, among those that the other end emitted: so many were heard or skipped
-- before
abbrev pub places_heard : (passed : ℕ) → List Happening → List ℕ
places_heard passed [] = []
places_heard passed (moves event ∷ hs) = places_heard passed hs
places_heard passed (misses ∷ hs) = places_heard (suc passed) hs
places_heard passed (hears p ∷ hs) = passed ∷ places_heard (suc passed) hs

-- From two ends that stand so at first some run leads to these, each step allowed; and at each end the packets at these
-- places were heard, and no others.
pub record LinksRan (first ends : Ends) (near_places far_places : List ℕ) : Type 0 where
  pub occurrences : List Occurrence
  pub allowed : AllMayOccur first occurrences
  pub leads : after_occurrences first occurrences ≡ ends
  pub near_heard : places_heard 0 (happened_near occurrences) ≡ near_places
  pub far_heard : places_heard 0 (happened_far occurrences) ≡ far_places

-- the machine behind the moves of each occurrence, one after the other
abbrev pub after_all : Machine → List (List Move) → Machine
after_all m [] = m
after_all m (made ∷ more) = after_all (after m made) more
