use Rattle.std.proofs.Common.{sym}
use Rattle.uug_link.proofs.SlotsLemmas.{counted}
use Rattle.uug_link.proofs.slots.Slots.len.Goals as goal

pub returns-clause-count : goal.returns-clause-count
returns-clause-count c = sym (counted c.self.inside.places.items c.self.inside.oldest c.self.inside.count _ c.self.view_is)
