use Rattle.std.proofs.Common.{refl}
use Rattle.uug_session.specs.Node.{node_of}
use Rattle.uug_session.proofs.NextItemLemmas.{next_first, next_none, next_room}
use Rattle.uug_session.proofs.node.Node.next_found.Goals as goal

pub returns : goal.returns
returns g c =
    let old = node_of c.args.self.now in
    let new = node_of c.search.new.self in
    let searched = c.search.ensures in (
      (refl, λ _. tt, record { found = searched.found; spool = searched.spool; shows = c.showing.ensures; room = searched.room }),
      record {
        none = next_none c.showing.result old new searched.found searched.passes c.showing.ensures;
        first = next_first c.showing.result old new searched.found searched.passes c.showing.ensures;
        room = next_room c.showing.result old new searched.found searched.room c.showing.ensures;
        after = tt;
      },
    )
