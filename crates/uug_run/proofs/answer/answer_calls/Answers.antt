use Rattle.std.proofs.Common.{arith, ap, rules, suc, ◌<◌}
use Rattle.uug_run.proofs.AnsweredLemmas.{all_told, one_more, still_well}
use Rattle.uug_run.proofs.answer.answer_calls.Goals as goal
use Rattle.uug_run.proofs.answer.answer_calls.Goals.{else-loop-past-test, then-loop-past-test+in_default+then-not-is_open}

pub loop-past-preserved : goal.loop-past-preserved
loop-past-preserved g c = record {
  status = still_well _ _ _ c.loop-past.invariant.status c.give-given.ensures.answers.status c.count.ensures.greatest c.count.ensures.status;
  grows = omega (arith, c.loop-past.invariant.grows, c.give-given.ensures.grows);
  told = one_more _ _ _ _ _ _ _ _ _ _ _ _ _ c.loop-past.invariant.told c.next_served-outcome.ensures.reported c.give-given.ensures.same
      c.give-given.ensures.answers.reported c.count.ensures.greatest c.count.ensures.failed c.in_default.is;
}

-- all callers were heard, or the socket is closed behind one
pub returns : goal.returns
returns g c = record {
  status = search rules;
  reported = elim c.loop-past-test.branch [
    | else-loop-past-test w ↦
        let some : 0 < c.loop-past._past = omega (arith, w.loop-past-test.false, c.sessions_of-sessions.ensures) in
        all_told _ _ _ _ _ _ _ _ some c.loop-past.invariant.told w.tally-is (ap g.O.Output.written w.output-is)
        c.answer.ensures.failed c.answer.ensures.bad c.answer.ensures.status
    | then-loop-past-test+in_default+then-not-is_open w ↦
        let some : 0 < suc c.loop-past._past = omega arith in
        all_told _ _ _ _ _ _ _ _ some
        (one_more _ _ _ _ _ _ _ _ _ _ _ _ _ c.loop-past.invariant.told w.next_served-outcome.ensures.reported w.give-given.ensures.same
        w.give-given.ensures.answers.reported w.count.ensures.greatest w.count.ensures.failed w.in_default.is) w.tally-is
        (ap g.O.Output.written w.output-is) c.answer.ensures.failed c.answer.ensures.bad c.answer.ensures.status
  ];
  write = λ e. absurd (c.answer.ensures.no_write e);
  no_other = c.answer.ensures.no_other;
}
