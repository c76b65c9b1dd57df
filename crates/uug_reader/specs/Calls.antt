-- What calls of a reader do, one after the other, as their clauses say (this project's profile).
use Rattle.std.specs.Prelude.{◌≡◌, ℕ, ◌<◌, List, [], ◌∷◌, ◌++◌, drop, ◌⊎◌}
use Rattle.uug_reader.specs.Cut.{Item}
use Rattle.uug_reader.specs.Finding.{StandsFirst, PassesNoise}
use Rattle.uug_reader.specs.Reading.{Reading, Shows, IsWaiting}

-- a call: these bytes were accepted, a first item was looked for, this one was shown, or this one was dropped; `find` is
-- a search and a showing
pub data Call : Type 0 where
  pushed : List ℕ → Call
  searched : Call
  showed : Item → Call
  dropped : Item → Call

-- the clauses of `push`, `search`, `showing` and `drop_found`, whose condition is that an item is shown
abbrev pub Makes : Call → Reading → Reading → Type 0
Makes (pushed accepted) old new = (new.bytes ≡ old.bytes ++ accepted) × (new.shown_size ≡ old.shown_size)
Makes searched old new = PassesNoise old.bytes new.bytes × (((item : Item) × Shows item new) ⊎ IsWaiting new)
Makes (showed item) old new = (new ≡ old) × Shows item old
Makes (dropped item) old new =
    (0 < old.shown_size) × StandsFirst item old.shown_size old.bytes
    × (new.bytes ≡ drop old.shown_size old.bytes) × (new.shown_size ≡ 0)

-- the calls, one after the other
abbrev pub Make : List Call → Reading → Reading → Type 0
Make [] old new = old ≡ new
Make (call ∷ calls) old new = (middle : Reading) × Makes call old middle × Make calls middle new

-- all bytes that were accepted
abbrev pub all_accepted : List Call → List ℕ
all_accepted [] = []
all_accepted (pushed accepted ∷ calls) = accepted ++ all_accepted calls
all_accepted (searched ∷ calls) = all_accepted calls
all_accepted (showed item ∷ calls) = all_accepted calls
all_accepted (dropped item ∷ calls) = all_accepted calls

-- the items that were dropped, in order
abbrev pub all_dropped : List Call → List Item
all_dropped [] = []
all_dropped (pushed accepted ∷ calls) = all_dropped calls
all_dropped (searched ∷ calls) = all_dropped calls
all_dropped (showed item ∷ calls) = all_dropped calls
all_dropped (dropped item ∷ calls) = item ∷ all_dropped calls
