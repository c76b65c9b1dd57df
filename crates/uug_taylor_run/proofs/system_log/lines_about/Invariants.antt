use Rattle.std.proofs.Common.{◌≡◌, ◌++◌, length}
use Rattle.uug_taylor_run.specs.SystemLogs.{lines_about}
use Rattle.uug_talk.specs.Lines.{lines}
use Rattle.uug_taylor_run.proofs.system_log.lines_about.Given as goal

-- the lines so far, and those behind, are all
abbrev pub invariant-loop-line : goal.invariant-loop-line
invariant-loop-line g l = l.about.items ++ lines_about l.system (lines l.rest) ≡ lines_about l.system (lines l.log)

abbrev pub decreases-loop-line : goal.decreases-loop-line
decreases-loop-line g l = length l.rest
