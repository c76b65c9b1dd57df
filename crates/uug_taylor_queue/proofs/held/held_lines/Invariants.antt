use Rattle.std.proofs.Common.{◌≡◌, ◌++◌, drop}
use Rattle.uug_taylor_queue.specs.HeldLines.{held_lines}
use Rattle.uug_taylor_queue.proofs.held.held_lines.Given as goal

-- the lines so far, and those behind, are all
abbrev pub invariant-loop-line : goal.invariant-loop-line
invariant-loop-line g l = l.held.items ++ held_lines l.unread (drop l.line-index l.lines) ≡ held_lines l.unread l.lines
