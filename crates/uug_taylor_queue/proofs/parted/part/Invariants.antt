use Rattle.std.proofs.Common.{◌≡◌, ◌++◌, drop}
use Rattle.uug_taylor_queue.specs.OpenLines.{lines_gone, lines_left}
use Rattle.uug_taylor_queue.proofs.parted.part.Given as goal

-- those that went and those that stay so far, and what becomes of the others
abbrev pub invariant-loop-line : goal.invariant-loop-line
invariant-loop-line g l = record {
  gone : l.gone.items ++ lines_gone l.rest.items (drop l.line-index l.lines) ≡ l.fn.gone.items ++ lines_gone l.over l.lines;
  left : l.left.items ++ lines_left l.rest.items (drop l.line-index l.lines) ≡ l.fn.left.items ++ lines_left l.over l.lines;
}
