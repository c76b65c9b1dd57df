use Rattle.std.proofs.Common.{◌≡◌, ap, subst, ◌∙◌}
use Rattle.uug_conversation.specs.MemoryHoldings.{held_by}
use Rattle.uug_session.specs.Engine.{BeginsSession, all_ahead}
use Rattle.uug_session.specs.Node.{NodeState, node_of}
use Rattle.uug_session.specs.declared.node.Node.{Node}
use Rattle.uug_line.specs.JournalValue.{journal_value}
use Rattle.uug_line.specs.LineEndValue.{BeginsAgain, IsOrdered, LineEndValue, leaves_spool, live_end_value}
use Rattle.uug_line.proofs.EndCallLemmas.{begun_again}
use Rattle.uug_line.proofs.line_end.LineEnd.call_again.Goals as goal

pub returns-clause-begun : goal.returns-clause-begun
returns-clause-begun g c =
    let old = c.args.self.now in
    let new = live_end_value c.note_call.new.self in
    let first = c.deref_mut.result.now in
    let node = c.call_again.new.self in
    let over : Node _ _ → LineEndValue = λ n. record { node = node_of n; spool = held_by n.spool; journal = journal_value old.journal; line = old.line } in
    let called : LineEndValue = record { node = node_of node; spool = held_by node.spool; journal = journal_value c.replace-journal.new.dest; line = c.clear.new.self } in
    let begins : NodeState → Type 0 = λ n. BeginsSession n.engine.identity n.engine.own n.engine.number (all_ahead n.engine.dialogue.machine.lists)
    n.engine.outbox.entries (node_of node).engine in
    let held : held_by node.spool ≡ leaves_spool (over first) =
    ap held_by c.call_again.ensures.spool ∙ ap (λ (n : Node _ _). held_by n.spool) c.deref_mut-2.ensures.value
    ∙ c.in_ok-hold_what_is_left.ensures.held in
    subst (λ (n : Node _ _). IsOrdered (over n) → BeginsAgain (over n) new) c.deref_mut.ensures.value
    (λ ordered. begun_again (over first) called new ordered
    (subst begins (ap node_of c.deref_mut-2.ensures.value ∙ c.hold_what_is_left.ensures.node) c.in_ok-call_again.ensures.session)
    c.in_ok-call_again.ensures.nothing_held held (ap journal_value c.replace-journal.ensures.after ∙ c.new.ensures) c.clear.ensures c.in_ok-note_call.ensures)
    c.requires.ordered
