-- What is so at each side of the line.
use Rattle.std.proofs.Common.{◌≡◌, refl, ap₂}
use Rattle.uug_conversation.specs.Turns.{other}
use Rattle.uug_conversation.specs.declared.side.Side.{Side}
use Rattle.uug_conversation.specs.declared.side.Side.TheVariants.{Caller, Called}
use Rattle.uug_conversation.specs.DialogueState.{DialogueState}
use Rattle.uug_line.specs.Run.{Run, end_at}
use Rattle.uug_line.specs.World.{counted, counted_hearer}
use Rattle.uug_conversation.specs.Sides.{AtBoth, at, at_each, with_at}

pub each : (P : Side → Type 0) → P Caller → P Called → (side : Side) → P side
each P caller called Caller = caller
each P caller called Called = called

pub other_twice : (side : Side) → side ≡ other (other side)
other_twice Caller = refl
other_twice Called = refl

-- by the side
pub at_each_is : {A : Type 0} (f : Side → A) (side : Side) → at side (at_each f) ≡ f side
at_each_is f Caller = refl
at_each_is f Called = refl

pub each_are : {A : Type 0} (f g : Side → A) → ((side : Side) → f side ≡ g side) → at_each f ≡ at_each g
each_are {A} f g same = let both : (x y : A) → AtBoth A = λ x y. record { at_caller = x; at_called = y } in ap₂ both (same Caller) (same Called)

pub counted_at : (run : Run DialogueState) (side : Side) → end_at side (counted run) ≡ counted_hearer (end_at side run)
counted_at run side = at_each_is (λ (s : Side). counted_hearer (end_at s run)) side

-- ---- one becomes another

pub at_here : {A : Type 0} (side : Side) (x : A) (both : AtBoth A) → at side (with_at side x both) ≡ x
at_here Caller x both = refl
at_here Called x both = refl

pub at_there : {A : Type 0} (side : Side) (x : A) (both : AtBoth A) → at (other side) (with_at side x both) ≡ at (other side) both
at_there Caller x both = refl
at_there Called x both = refl

pub other_stays : {A : Type 0} (side : Side) (x : A) (both : AtBoth A) → with_at side x (with_at (other side) (at (other side) both) both) ≡ with_at side x both
other_stays Caller x both = refl
other_stays Called x both = refl

-- ---- what is said of a side, of what there is at it, and of what there is at the other

-- as it is seen from the other side
pub from_other : {A : Type 0} (P : Side → A → A → Type 0) (both : AtBoth A) → ((side : Side) → P side (at side both) (at (other side) both))
    → (side : Side) → P (other side) (at (other side) both) (at side both)
from_other P both so Caller = so Called
from_other P both so Called = so Caller

-- where both become others
pub with_both : {A : Type 0} (P : Side → A → A → Type 0) (side : Side) (x y : A) (both : AtBoth A) → P side x y → P (other side) y x
    → (let now = with_at side x (with_at (other side) y both) in (s : Side) → P s (at s now) (at (other s) now))
with_both P Caller x y both here there Caller = here
with_both P Caller x y both here there Called = there
with_both P Called x y both here there Caller = there
with_both P Called x y both here there Called = here

-- where one does
pub with_here : {A : Type 0} (P : Side → A → A → Type 0) (side : Side) (x : A) (both : AtBoth A) → P side x (at (other side) both)
    → P (other side) (at (other side) both) x → (s : Side) → P s (at s (with_at side x both)) (at (other s) (with_at side x both))
with_here P Caller x both here there Caller = here
with_here P Caller x both here there Called = there
with_here P Called x both here there Caller = there
with_here P Called x both here there Called = here

-- the same of one side
pub here_so : {A : Type 0} (P : A → A → Type 0) (side : Side) (x y : A) (both : AtBoth A) → P x y
    → (let now = with_at side x (with_at (other side) y both) in P (at side now) (at (other side) now))
here_so P Caller x y both so = so
here_so P Called x y both so = so
