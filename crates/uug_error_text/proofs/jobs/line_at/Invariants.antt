use Rattle.std.proofs.Common.{◌≡◌, length}
use Rattle.uug_talk.specs.Lines.{lines}
use Rattle.uug_error_text.specs.JobsWords.{line_at}
use Rattle.uug_error_text.proofs.jobs.line_at.Given as goal

-- the line that is looked for is among those that are left, at the number that is left
abbrev pub invariant-loop-line : goal.invariant-loop-line
invariant-loop-line l = line_at (lines l.rest) l.left ≡ line_at (lines l.fn.text) l.fn.number

abbrev pub decreases-loop-line : goal.decreases-loop-line
decreases-loop-line l = length l.rest
