use Rattle.uug_packet.proofs.FieldLemmas.{Waits-fits}
use Rattle.uug_packet.proofs.laws.limits.Goals as goal

pub returns-clause-waits : goal.returns-clause-waits
returns-clause-waits c = Waits-fits
