use Rattle.std.proofs.Common.{◌≡◌, ◌+◌, ◌≤◌, length}
use Rattle.uug_talk.specs.Lines.{lines}
use Rattle.uug_sim_script.specs.ScriptOf.{script_from, script_of, said_by}
use Rattle.uug_sim_script.proofs.script.read_lines.Given as goal

-- what is left leads to the same script, and each line has taken a byte
abbrev pub invariant-loop-line : goal.invariant-loop-line
invariant-loop-line g l = record {
  same : script_from l.number (said_by l.draft) (lines l.rest) ≡ script_of l.fn.text;
  counted : l.number + length l.rest ≤ length l.fn.text + 1;
}

abbrev pub decreases-loop-line : goal.decreases-loop-line
decreases-loop-line g l = length l.rest
