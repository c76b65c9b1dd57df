use Rattle.uug_session.proofs.FoundLemmas.{bytes_behind_texts, bytes_found, bytes_in_front}
use Rattle.uug_session.proofs.arriving_laws.bytes_are_left.Goals as goal

pub returns-clause-texts : goal.returns-clause-texts
returns-clause-texts c = bytes_behind_texts

pub returns-clause-items : goal.returns-clause-items
returns-clause-items c = bytes_found

pub returns-clause-front : goal.returns-clause-front
returns-clause-front c = bytes_in_front
