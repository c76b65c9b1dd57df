use Rattle.uug_conversation.specs.DialogueState.{DialogueState}
use Rattle.uug_line.specs.Belongings.{SetupValue}
use Rattle.uug_line.specs.Run.{Run}
use Rattle.uug_line.specs.RunValue.{IsSteady, StandsAs, run_value}
use Rattle.uug_line.proofs.RunLemmas.{StillRuns}
use Rattle.uug_line.proofs.running.RunSoFar.go_through.Given as goal

-- the other events are still to happen
abbrev pub invariant-loop-number : goal.invariant-loop-number
invariant-loop-number g l = record {
  steady : IsSteady (run_value l.self);
  runs : (setup : SetupValue) (run : Run DialogueState) → StandsAs setup run (run_value l.fn.self)
      → StillRuns l.events l.number setup run (run_value l.self);
}
