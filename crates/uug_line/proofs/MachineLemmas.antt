-- The window machine behind the moves of all that occurs at two links.
use Rattle.std.proofs.Common.{◌≡◌, ℕ, List, [], ◌∷◌, ◌++◌, refl, sym, subst, ◌∙◌, ap}
use Rattle.uug_link.specs.Moves.{AllMoveWith, ReadsBoth}
use Rattle.uug_link.specs.TwoLinks.{Ends, Occurrence, after_occurrence, after_occurrences}
use Rattle.uug_link.specs.WindowMachine.{AllAllowed, IsReached, Machine, Move, after, after_move, start}
use Rattle.uug_line.specs.LinkRun.{after_all}

after-append : (m : Machine) (moves more : List Move) → after m (moves ++ more) ≡ after (after m moves) more
after-append m [] more = refl
after-append m (move ∷ moves) more = after-append (after_move m move) moves more

AllAllowed-append : (m : Machine) (moves more : List Move) → AllAllowed m moves → AllAllowed (after m moves) more →
    AllAllowed m (moves ++ more)
AllAllowed-append m [] more h k = k
AllAllowed-append m (move ∷ moves) more h k = (h.0, AllAllowed-append (after_move m move) moves more h.1 k)

IsReached-after : (window other : ℕ) (m : Machine) (more : List Move) → IsReached window other m → AllAllowed m more →
    IsReached window other (after m more)
IsReached-after window other m more h k =
    let first : Machine = start window other in
    let allowed : AllAllowed (after first h.0) more = subst (λ (x : Machine). AllAllowed x more) (sym h.2) k in (
      h.0 ++ more,
      AllAllowed-append first h.0 more h.1 allowed,
      after-append first h.0 more ∙ ap (λ (x : Machine). after x more) h.2,
    )

-- a run leads there, and the machine reads the ends as they then are
pub record StandsBehind (window other : ℕ) (ends : Ends) (m : Machine) : Type 0 where
  pub reached : IsReached window other m
  pub reads : ReadsBoth ends m

pub stands_behind : (window other : ℕ) (ends : Ends) (os : List Occurrence) (m : Machine) (made : List (List Move)) →
    StandsBehind window other ends m → AllMoveWith ends os m made →
    StandsBehind window other (after_occurrences ends os) (after_all m made)
stands_behind window other ends [] m [] before moved = before
stands_behind window other ends [] m (one ∷ more) before moved = absurd moved
stands_behind window other ends (o ∷ os) m [] before moved = absurd moved
stands_behind window other ends (o ∷ os) m (one ∷ more) before moved =
    stands_behind window other (after_occurrence ends o) os (after m one) more
    (record { reached = IsReached-after window other m one before.reached moved.0.allowed; reads = moved.0.reads }) moved.1

-- nothing has occurred yet
pub stands_first : (window other : ℕ) (ends : Ends) → ReadsBoth ends (start window other) →
    StandsBehind window other ends (start window other)
stands_first window other ends reads = record { reached = ([], tt, refl); reads = reads }
