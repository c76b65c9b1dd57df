-- Calls on a `Hail`, one after the other, each of which does what its contract says.
use Rattle.std.specs.Prelude.{◌≡◌, ℕ, ◌≤◌, List, [], ◌∷◌, ◌++◌, length, take}
use Rattle.uug_talk.specs.Texts.{Heard, Passing, Whole, Holds, IsTooLong}

-- a piece, of which so many bytes were used; or a text that was whole, and a clear behind it
pub data HailCall : Type 0 where
  Pushed : List ℕ → ℕ → HailCall
  Cleared : List ℕ → HailCall

-- all bytes that were used
abbrev pub all_used : List HailCall → List ℕ
all_used [] = []
all_used (Pushed piece used ∷ calls) = take used piece ++ all_used calls
all_used (Cleared text ∷ calls) = all_used calls

-- all texts that were shown
abbrev pub all_shown : List HailCall → List (List ℕ)
all_shown [] = []
all_shown (Pushed piece used ∷ calls) = all_shown calls
all_shown (Cleared text ∷ calls) = text ∷ all_shown calls

-- what is heard with so many bytes of a piece more is what the stream says with them behind
abbrev pub Hears : Heard → List ℕ → ℕ → Heard → Type 0
Hears old piece used new = (stream : List ℕ) → Holds old stream → Holds new (stream ++ take used piece)

-- the stream has in this piece the place where its first text is too long
abbrev pub FindsTooLong : Heard → List ℕ → Type 0
FindsTooLong old piece = (stream : List ℕ) → Holds old stream → (n : ℕ) × (n ≤ length piece) × IsTooLong (stream ++ take n piece)

-- the calls lead from what was heard to what is heard then
abbrev pub Lead : Heard → List HailCall → Heard → Type 0
Lead old [] new = old ≡ new
Lead old (Pushed piece used ∷ calls) new = (heard : Heard) × Hears old piece used heard × Lead heard calls new
Lead old (Cleared text ∷ calls) new = (old ≡ Whole text) × Lead Passing calls new
