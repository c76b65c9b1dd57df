use Rattle.uug_session.proofs.NodeRunLemmas.{node_begins}
use Rattle.uug_session.proofs.event_laws.a_node_begins_as_an_end.Goals as goal

pub returns : goal.returns
returns c side b entries n begins =
    node_begins side b entries n begins
