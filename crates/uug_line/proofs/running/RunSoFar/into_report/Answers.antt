use Rattle.std.proofs.Common.{◌∙◌, List, ap, subst, sym}
use Rattle.uug_session.specs.Node.{node_of}
use Rattle.uug_session.specs.Phases.{phase_at}
use Rattle.uug_session.specs.declared.node.Node.{Node}
use Rattle.uug_line.specs.JournalValue.{journal_value}
use Rattle.uug_line.specs.LineEndValue.{live_end_value, told_of}
use Rattle.uug_line.specs.OfSomeRun.{IsOfSomeRun}
use Rattle.uug_line.specs.Report.{told_by}
use Rattle.uug_line.specs.Shown.{held_at, owned_by, spool_of, stands_so}
use Rattle.uug_conversation.specs.Sides.{AtBoth}
use Rattle.uug_line.specs.Told.{SpelledEnd}
use Rattle.uug_line.proofs.RunLemmas.{one_more_shown}
use Rattle.uug_line.proofs.running.RunSoFar.into_report.Goals as goal

pub invariant_of-result : goal.invariant_of-result
invariant_of-result g c =
    let run = c.args.self in
    let caller = run.caller.node.value in
    let called = run.called.node.value in
    let sessions = one_more_shown run.past.items c.push.new.self.items c.into_report.result c.into_report-2.result
    (told_of (live_end_value run.caller)) (told_of (live_end_value run.called)) c.in_ok-push.ensures.items
    (c.into_report.ensures ∙ ap (told_by (journal_value run.caller.journal)) c.phase-caller_phase.ensures
    ∙ ap (λ (n : Node _ _). told_by (journal_value run.caller.journal) (phase_at (node_of n).engine.stage (node_of n).engine.link.phase)) c.deref.ensures)
    (c.into_report-2.ensures ∙ ap (told_by (journal_value run.called.journal)) c.phase-called_phase.ensures
    ∙ ap (λ (n : Node _ _). told_by (journal_value run.called.journal) (phase_at (node_of n).engine.stage (node_of n).engine.link.phase)) c.deref-2.ensures) in (
      subst (λ (told : List (AtBoth SpelledEnd)). IsOfSomeRun (record {
        told = record {
          sessions = told;
          ends = record { at_caller = stands_so caller; at_called = stands_so called };
          belongings = record { at_caller = owned_by caller; at_called = owned_by called };
          verdict = c.args.verdict;
        };
        spools = record { at_caller = spool_of caller; at_called = spool_of called };
        held = record { at_caller = held_at caller; at_called = held_at called };
        left = record {
          at_caller = record { node = node_of caller; line = run.caller.line; passed = run.caller.journal.passed };
          at_called = record { node = node_of called; line = run.called.line; passed = run.called.journal.passed };
        };
      })) (sym sessions) c.requires.some_run,
      c.requires.said.caller,
      c.requires.said.called,
    )
