use Rattle.uug_link.proofs.EntriesLemmas.{joined-entries_from}
use Rattle.uug_link.proofs.outbox.Outbox.bytes.Goals as goal

pub returns : goal.returns
returns g c =
    rw (← c.self.view_is, joined-entries_from 0 c.self.inside.marks.items c.self.inside.bytes.items c.self.invariant)
    c.as_slice.ensures.value
