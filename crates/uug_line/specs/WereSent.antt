-- What the verdict of a run means: which packets that an end found were sent to it (this project's profile). Packets are
-- compared as values, so all spellings of one packet are equal.
use Rattle.std.specs.Prelude.{◌≡◌, ℕ, suc, ◌≤◌, List, [], ◌∷◌, slice_get, Some, ⊤}
use Rattle.uug_link.specs.Arrivals.{IsPlace}
use Rattle.uug_packet.specs.Packet.{PacketValue}

-- each packet stands at its place in the list, the first from `from` on, each other one behind the one before it
abbrev pub StandAt : (packets : List PacketValue) → (places : List ℕ) → (list : List PacketValue) → (from : ℕ) → Type 0
StandAt [] [] list from = ⊤
StandAt (p ∷ ps) (i ∷ is) list from = (from ≤ i) × (slice_get list i ≡ Some p) × StandAt ps is list (suc i)
StandAt _ _ list from = ⊥

-- The packets that were found were sent, in that order and none more often: they are some of those that were emitted,
-- the others being lost.
abbrev pub WereSent : (found emitted : List PacketValue) → Type 0
WereSent found emitted = (places : List ℕ) × StandAt found places emitted 0

-- the places that a run gives them: each the least behind the one before it
abbrev pub HavePlaces : (found : List PacketValue) → (places : List ℕ) → (emitted : List PacketValue) → (from : ℕ) → Type 0
HavePlaces [] [] emitted from = ⊤
HavePlaces (p ∷ ps) (i ∷ is) emitted from = IsPlace p emitted from i × HavePlaces ps is emitted (suc i)
HavePlaces _ _ emitted from = ⊥

-- how many of those emitted were then found or skipped
abbrev pub passed_at : (places : List ℕ) → (from : ℕ) → ℕ
passed_at [] from = from
passed_at (i ∷ is) from = passed_at is (suc i)
