use Rattle.std.proofs.Common.{refl, ap, subst}
use Rattle.uug_session.specs.EndStep.{line_lost}
use Rattle.uug_conversation.specs.MemoryHoldings.{held_by}
use Rattle.uug_session.specs.Node.{node_of}
use Rattle.uug_session.specs.declared.node.Node.{Node}
use Rattle.uug_line.specs.JournalValue.{journal_value}
use Rattle.uug_line.specs.LineEndValue.{HasRoom, IsCalled, IsOrdered, LineEndValue, live_end_value}
use Rattle.uug_line.proofs.EndCallLemmas.{hung_up_so}
use Rattle.uug_line.proofs.line_end.LineEnd.hang_up.Goals as goal

pub returns : goal.returns
returns g c =
    let old = c.args.self.now in
    let new = live_end_value c.note_call.new.self in
    let over : Node _ _ → LineEndValue = λ n. record {
      node = node_of n;
      spool = held_by n.spool;
      journal = journal_value old.journal;
      line = old.line;
    } in
    subst (λ (n : Node _ _). IsOrdered (over n) → HasRoom (over n) → IsCalled line_lost (over n) new) c.deref_mut.ensures.value
    (λ ordered room. hung_up_so (over c.deref_mut.result.now) (over c.hang_up.new.self) new ordered room
    c.hang_up.ensures.stage (ap held_by c.hang_up.ensures.spool) refl refl c.in_ok-note_call.ensures)
    c.requires.ordered c.requires.room
