use Rattle.std.proofs.Common.{arith}
use Rattle.uug_link.proofs.EntriesLemmas.{length-entries_from}
use Rattle.uug_link.proofs.outbox.Outbox.len.Goals as goal

pub returns : goal.returns
returns g c =
    rw (← c.self.view_is)
    (omega (arith, length-entries_from 0 c.self.inside.marks.items c.self.inside.bytes.items, c.self.inside.marks.ok.0))
