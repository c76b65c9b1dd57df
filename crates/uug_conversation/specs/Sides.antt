-- The two ends of the line, and what there is at each of them.
use Rattle.uug_conversation.specs.declared.side.Side.{Side}
use Rattle.uug_conversation.specs.declared.side.Side.TheVariants.{Caller, Called}

pub record AtBoth (A : Type 0) : Type 0 where
  pub at_caller : A
  pub at_called : A

abbrev pub at : {A : Type 0} → Side → AtBoth A → A
at Caller both = both.at_caller
at Called both = both.at_called

-- the same at the other side, and this on the side
abbrev pub with_at : {A : Type 0} → Side → A → AtBoth A → AtBoth A
with_at Caller x both = record { at_caller = x; at_called = both.at_called }
with_at Called x both = record { at_caller = both.at_caller; at_called = x }

-- by the side
abbrev pub at_each : {A : Type 0} → (Side → A) → AtBoth A
at_each f = record { at_caller = f Caller; at_called = f Called }
