use Rattle.uug_session.proofs.FoundLemmas.{texts_found, items_found}
use Rattle.uug_session.proofs.arriving_laws.what_stands_there_is_found.Goals as goal

pub returns-clause-texts : goal.returns-clause-texts
returns-clause-texts g c = texts_found _

pub returns-clause-items : goal.returns-clause-items
returns-clause-items g c = items_found _
