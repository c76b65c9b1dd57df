use Rattle.std.proofs.Common.{◌≡◌, ◌++◌, drop}
use Rattle.uug_taylor_run.specs.PublicNames.{named_lines}
use Rattle.uug_taylor_run.proofs.work.named_lines.Given as goal

-- the lines so far, and those behind, are all
abbrev pub invariant-loop-line : goal.invariant-loop-line
invariant-loop-line g l = l.named.items ++ named_lines l.public (drop l.line-index l.lines) ≡ named_lines l.public l.lines
