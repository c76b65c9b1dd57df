-- The ladder of what a script says, by what its first events bring about (this project's profile).
use Rattle.std.specs.Prelude.{◌≡◌, ℕ, ⊤, List, take}
use Rattle.uug_conversation.specs.declared.side.Side.TheVariants.{Caller, Called}
use Rattle.uug_line.specs.declared.event.Event.{Event}
use Rattle.uug_line.specs.Belongings.{SetupValue}
use Rattle.uug_line.specs.Settle.{line_from}
use Rattle.uug_line.specs.Spelled.{spelled}
use Rattle.uug_line.specs.World.{report_of_world, world}
use Rattle.uug_sim_play.specs.Played.{setup_said}
use Rattle.uug_sim_script.specs.IsScript.{IsFirstBad, IsScript}
use Rattle.uug_sim_script.specs.Script.{ScriptSays}
use Rattle.uug_sim_ladder.specs.declared.fault.LadderFault.{LadderFault}
use Rattle.uug_sim_ladder.specs.declared.fault.LadderFault.TheVariants as faults
use Rattle.uug_sim_ladder.specs.Drawing.{draws, first_drawing}
use Rattle.uug_sim_ladder.specs.Moments.{Front}
use Rattle.uug_sim_ladder.specs.Rungs.{LadderValue}

-- what somebody tells who knows both ends, and what is on the line from each, behind these events
abbrev pub front_behind : SetupValue → List Event → Front
front_behind setup events = record {
  told = spelled (report_of_world setup events);
  lines = record { at_caller = line_from Caller (world setup events); at_called = line_from Called (world setup events) };
}

-- behind the first events, so many or all
abbrev pub front_of : SetupValue → List Event → (count : ℕ) → Front
front_of setup events count = front_behind setup (take count events)

-- what two ends do under these events, drawn
abbrev pub ladder_of : SetupValue → List Event → LadderValue
ladder_of setup events = (draws (front_of setup events) 0 events (first_drawing (front_of setup events 0))).ladder

unfoldable pub ladder_said : ScriptSays → LadderValue
ladder_said s = ladder_of (setup_said s) s.events

-- the text is a script, and this the ladder of what it says
pub record IsLadderOf (text : List ℕ) (ladder : LadderValue) : Type 0 where
  pub says : ScriptSays
  pub script_is : IsScript text says
  pub ladder_is : ladder ≡ ladder_said says

-- the fault says why there is none; out of memory is left open
abbrev pub IsLadderFault : (text : List ℕ) → LadderFault → Type 0
IsLadderFault text (faults.Script line) = IsFirstBad text line
IsLadderFault text faults.Memory = ⊤
