use Rattle.uug_conversation.proofs.OutgoingLemmas.{is_first, first_is_sayable}
use Rattle.uug_conversation.proofs.outgoing.Outgoing.take_message.Goals as goal

pub part_of-requires-clause-sayable : goal.part_of-requires-clause-sayable
part_of-requires-clause-sayable g c =
    let q = c.self.inside in
    let first = c.in-Some.first.now in
    let found = c.in-Some.ensures.lookup in
    first_is_sayable q.said q.sayings.items first
    (is_first q.said q.sayings.items c.deref.result.now first c.deref.ensures.value found.3.0 found.1) c.self.invariant.1
