use Rattle.std.proofs.Common.{◌<◌, subst, sym}
use Rattle.uug_reader.specs.Cut.{Item}
use Rattle.uug_reader.specs.Finding.{StandsFirst}
use Rattle.uug_reader.specs.Reading.{Reading}
use Rattle.uug_reader.proofs.PlaceLemmas.{shown_item}
use Rattle.uug_reader.proofs.reader.Reader.drop_found.Goals as goal

pub returns-in-Some-clause-item : goal.returns-in-Some-clause-item
returns-in-Some-clause-item g c =
    subst (λ (r : Reading). (item : Item) × StandsFirst item r.shown_size r.bytes) c.self.view_is
    (shown_item c.self.inside.shown c.self.inside.beside.items c.self.inside.ring.items
    (subst (λ (r : Reading). 0 < r.shown_size) (sym c.self.view_is) c.requires) c.self.invariant.first)
