-- The state of an observer of the bytes that go both ways (this project's profile).
use Rattle.std.specs.Prelude.{◌≡◌, List, [], ◌++◌, ℕ}
use Rattle.uug_packet.specs.Waits.{Waits}
use Rattle.uug_observe_log.specs.Losses.{AddsCounts}
use Rattle.uug_observe_log.specs.declared.passed.Passed.{Passed}
use Rattle.uug_observe_log.specs.declared.way.Way.{Way}
use Rattle.uug_observe_log.specs.declared.way.Way.TheVariants.{Out, In}

-- the state of one way: the bytes in which nothing is found until more arrive, and what has passed before them
pub record Passing : Type 0 where
  pub held : List ℕ
  pub passed : Passed

pub record Watched : Type 0 where
  pub outward : Passing
  pub inward : Passing

abbrev pub passing : Way → Watched → Passing
passing Out w = w.outward
passing In w = w.inward

-- the first data packet has the number 1
abbrev pub nothing_yet : Passing
nothing_yet = record { held = []; passed = record { next = 1; counts = record { rejects = 0; repeats = 0; damaged = 0 } } }

-- a piece is appended to the held bytes. All that is found in them is counted, and the rest is held
pub record Takes (piece : List ℕ) (before after : Passing) : Type 0 where
  pub counts : AddsCounts (before.held ++ piece) after.held before.passed after.passed
  pub waits : Waits after.held

-- a piece goes one way, and nothing goes the other way
abbrev pub Sees : Way → (piece : List ℕ) → (before after : Watched) → Type 0
Sees Out piece before after = Takes piece before.outward after.outward × (after.inward ≡ before.inward)
Sees In piece before after = Takes piece before.inward after.inward × (after.outward ≡ before.outward)
