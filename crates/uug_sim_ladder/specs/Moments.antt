-- What both ends of a run have done by now (this project's profile).
use Rattle.std.specs.Prelude.{ℕ, ◌-◌, List, length, slice_get, Option, Some, None}
use Rattle.uug_conversation.specs.declared.side.Side.{Side}
use Rattle.uug_conversation.specs.declared.side.Side.TheVariants.{Caller, Called}
use Rattle.uug_line.specs.Belongings.{Belongings}
use Rattle.uug_conversation.specs.Sides.{AtBoth}
use Rattle.uug_line.specs.Told.{SpelledEnd, SpelledReport}
use Rattle.uug_line.specs.WholeReport.{WholeReport}
use Rattle.uug_sim_ladder.specs.declared.moment.Mark.{Mark}
use Rattle.uug_sim_ladder.specs.declared.moment.Moment.{Moment}

-- what is told of a run so far, and the bytes that are on the line from each end
pub record Front : Type 0 where
  pub told : SpelledReport
  pub lines : AtBoth (List ℕ)

-- as a program has it
abbrev pub front_shown : WholeReport → Front
front_shown r =
    record { told = r.told; lines = record { at_caller = r.left.at_caller.line; at_called = r.left.at_called.line } }

-- an end, of whose session this is told, and which has this
abbrev pub mark_by : SpelledEnd → Belongings → Mark
mark_by e b = record {
  packets = length e.packets;
  taken = length e.taken;
  phase = e.phase;
  struck = length b.lists.struck;
  failed = length b.lists.failed;
  stored = length b.kept;
}

abbrev pub moment_by : Option (AtBoth SpelledEnd) → SpelledReport → Option Moment
moment_by None r = None
moment_by (Some last) r = Some (record {
  session = length r.sessions;
  caller = mark_by last.at_caller r.belongings.at_caller;
  called = mark_by last.at_called r.belongings.at_called;
})

-- the last of these sessions
abbrev pub last_of : List (AtBoth SpelledEnd) → Option (AtBoth SpelledEnd)
last_of sessions = slice_get sessions (length sessions - 1)

abbrev pub moment_told : SpelledReport → Option Moment
moment_told r = moment_by (last_of r.sessions) r

abbrev pub mark_at : Side → Moment → Mark
mark_at Caller m = m.caller
mark_at Called m = m.called
