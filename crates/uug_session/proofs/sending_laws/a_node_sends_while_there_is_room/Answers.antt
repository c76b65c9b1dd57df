use Rattle.uug_session.proofs.RoomLemmas.{node_said}
use Rattle.uug_session.proofs.sending_laws.a_node_sends_while_there_is_room.Goals as goal

pub returns : goal.returns
returns c = node_said
