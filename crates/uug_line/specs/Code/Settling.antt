-- How the program's run comes to the end of what two ends have to say, on a line that has become clean.
use Rattle.std.specs.Prelude.{◌≡◌, ℕ, ◌+◌, Bool, true, false, List, ◌++◌, length}
use Rattle.uug_session.specs.declared.end.End.TheVariants.{Done}
use Rattle.uug_session.specs.EndStep.{ended}
use Rattle.uug_line.specs.declared.event.Event.{Event}
use Rattle.uug_conversation.specs.declared.side.Side.TheVariants.{Caller, Called}
use Rattle.uug_line.specs.Belongings.{SetupValue}
use Rattle.uug_line.specs.OfBytes.{AreOfTypes}
use Rattle.uug_line.specs.RunValue.{Passes, RunValue, StandsAs}
use Rattle.uug_line.specs.Settle.{MaySettle, Settles, events_of, one_if_over}
use Rattle.uug_line.specs.World.{run_of_ends, world}

-- All on the line passes to the called end, and then all to the caller; the answer is false where an end has found a packet
-- that was not sent.
pub data RoundHappens (all_sent : Bool) (old new : RunValue) : Type 0 where
  stops : all_sent ≡ false → Passes Called (length old.ends.at_caller.line) false old new → RoundHappens all_sent old new
  goes : (middle : RunValue) → Passes Called (length old.ends.at_caller.line) true old middle →
      Passes Caller (length middle.ends.at_called.line) all_sent middle new → RoundHappens all_sent old new

-- both sessions are over
abbrev pub AreOver : RunValue → Type 0
AreOver r = (r.ends.at_caller.node.engine.stage ≡ ended Done) × (r.ends.at_called.node.engine.stage ≡ ended Done)

-- how many messages both ends have sent and taken, and how many sessions are over
abbrev pub parts_weight : RunValue → ℕ
parts_weight r =
    (length r.ends.at_caller.journal.taken + length r.ends.at_called.journal.taken)
    + (length r.ends.at_caller.journal.sent + length r.ends.at_called.journal.sent)
    + (one_if_over r.ends.at_caller.node.engine.stage + one_if_over r.ends.at_called.node.engine.stage)

-- it is the run of these events, and may settle
pub record MayFinish (setup : SetupValue) (events : List Event) (r : RunValue) : Type 0 where
  pub types : AreOfTypes setup events
  pub stands : StandsAs setup (run_of_ends setup events) r
  pub settles : MaySettle (world setup events)

-- the run of some events may settle
pub record CanFinish (r : RunValue) : Type 0 where
  pub setup : SetupValue
  pub events : List Event
  pub may : MayFinish setup events r

-- rounds behind the events have led it to the end
pub record IsFinished (setup : SetupValue) (events : List Event) (r : RunValue) : Type 0 where
  pub settles : Settles setup events
  pub stands : StandsAs setup (run_of_ends setup (events ++ events_of settles.rounds)) r
