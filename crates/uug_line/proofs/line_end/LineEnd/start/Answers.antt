use Rattle.std.proofs.Common.{[], subst}
use Rattle.uug_conversation.specs.MemoryHoldings.{held_by}
use Rattle.uug_session.specs.Engine.{BeginsSession}
use Rattle.uug_session.specs.Node.{node_of}
use Rattle.uug_session.specs.Sessions.{HoldsNothing}
use Rattle.uug_session.specs.declared.node.Node.{Node}
use Rattle.uug_line.specs.JournalValue.{journal_value}
use Rattle.uug_line.specs.LineEndValue.{HasBegun, LineEndValue, live_end_value}
use Rattle.uug_line.proofs.EndCallLemmas.{begun_so}
use Rattle.uug_line.proofs.line_end.LineEnd.start.Goals as goal

pub returns : goal.returns
returns g c = λ id own number l announces session nothing_held.
    let node = c.in_ok-node.node.value in
    let new = live_end_value c.note_call.new.self in
    let called : LineEndValue = record { node = node_of node; spool = held_by node.spool; journal = journal_value c.new-2.result; line = c.new-3.result } in
    subst (λ (n : Node _ _). BeginsSession id own number l [] (node_of n).engine → HoldsNothing (node_of n) → HasBegun id own number l (held_by n.spool) new)
    c.in_ok-node.ensures.ok
    (λ begins holds. begun_so id own number l called new announces begins holds c.new-2.ensures c.new-3.ensures c.in_ok-note_call.ensures)
    session nothing_held
