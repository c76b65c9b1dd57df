use Rattle.std.proofs.Common.{◌≤◌}
use Rattle.uug_run.proofs.AnsweredLemmas.{SoFar}
use Rattle.uug_run.proofs.answer.answer_calls.Given as goal

-- no session ended worse than badly, and those so far are reported
abbrev pub invariant-loop-past : goal.invariant-loop-past
invariant-loop-past g l = record {
  status : l.tally.status ≤ 1;
  grows : g.O.Output.fault_count l.fn.output ≤ g.O.Output.fault_count l.output;
  told : SoFar l.fn.run.task.now.side l._past l.tally (g.O.Output.written l.fn.output) (g.O.Output.written l.output);
}
