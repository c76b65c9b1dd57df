use Rattle.uug_transfer.proofs.ThinningLemmas.{all_remains, nothing_left_out}
use Rattle.uug_transfer.proofs.laws.all_remains_without_thinning.Goals as goal

pub returns-clause-event : goal.returns-clause-event
returns-clause-event c = nothing_left_out

pub returns-clause-events : goal.returns-clause-events
returns-clause-events c = all_remains
