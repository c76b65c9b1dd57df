use Rattle.std.proofs.Common.{refl}
use Rattle.uug_reader.proofs.PlaceLemmas.{shows_searched}
use Rattle.uug_reader.proofs.reader.Reader.find.Goals as goal

pub returns : goal.returns
returns g c =
    let searched = c.search.ensures in
    let shows = shows_searched c.args.self.now.bytes c.search.new.self c.search.result c.showing.result searched.passes searched.found searched.none searched.nothing c.showing.ensures in (
      (refl, λ _. tt, record { passes = searched.passes; shows = shows.shows; exact = searched.exact }),
      record { none = shows.none; first = shows.first; after = tt },
    )
