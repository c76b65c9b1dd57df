use Rattle.std.proofs.Common.{◌<◌, length, arith}
use Rattle.uug_link.proofs.EntriesLemmas.{length-entries_from}
use Rattle.uug_link.specs.Entries.{entries_from}
use Rattle.uug_link.proofs.outbox.Outbox.entry.Goals as goal

pub entry_at-requires-clause-within : goal.entry_at-requires-clause-within
entry_at-requires-clause-within g c =
    let r : c.args.i < length (entries_from 0 c.self.inside.marks.items c.self.inside.bytes.items) = rw (← c.self.view_is) at c.requires in
    omega (arith, r, c.deref.ensures.len, c.self.inside.marks.ok.0, length-entries_from 0 c.self.inside.marks.items c.self.inside.bytes.items)
