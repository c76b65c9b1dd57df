-- What a ladder never tells (this project's profile): that something arrives, or is lost, before it was sent.
use Rattle.std.specs.Prelude.{ℕ, ◌≤◌, ⊤, List, [], ◌∷◌, Option, Some, None}
use Rattle.uug_sim_ladder.specs.declared.rung.Fate.{Fate}
use Rattle.uug_sim_ladder.specs.declared.rung.Fate.TheVariants.{OnTheWay, Arrives, Lost}
use Rattle.uug_sim_ladder.specs.Rungs.{LadderValue, RungValue}

-- at the event at which something was sent, or behind it
abbrev pub IsSince : (sent : Option ℕ) → (event : ℕ) → Type 0
IsSince None event = ⊤
IsSince (Some sent) event = sent ≤ event

abbrev pub ComesSince : (sent : Option ℕ) → Fate → Type 0
ComesSince sent OnTheWay = ⊤
ComesSince sent (Arrives event) = IsSince sent event
ComesSince sent (Lost event) = IsSince sent event

-- each rung has a fate, which is none before it
abbrev pub ComeSince : List RungValue → List Fate → Type 0
ComeSince [] [] = ⊤
ComeSince [] (fate ∷ fates) = ⊥
ComeSince (r ∷ rungs) [] = ⊥
ComeSince (r ∷ rungs) (fate ∷ fates) = ComesSince r.event fate × ComeSince rungs fates

abbrev pub NothingComesBefore : LadderValue → Type 0
NothingComesBefore l = ComeSince l.rungs l.fates
