use Rattle.uug_session.proofs.RoomLemmas.{begins_so, stays_said}
use Rattle.uug_session.proofs.sending_laws.an_end_sends_while_there_is_room.Goals as goal

pub returns-clause-first : goal.returns-clause-first
returns-clause-first g c = begins_so

pub returns-clause-stays : goal.returns-clause-stays
returns-clause-stays g c = stays_said
