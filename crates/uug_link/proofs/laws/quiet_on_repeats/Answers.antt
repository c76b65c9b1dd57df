use Rattle.uug_link.proofs.PlainLemmas.{steps_plainly}
use Rattle.uug_link.proofs.RejectLemmas.{rejects_first, rejects_stay}
use Rattle.uug_link.proofs.laws.quiet_on_repeats.Goals as goal

pub returns : goal.returns
returns c = record { plain = steps_plainly; first = rejects_first; bounds = rejects_stay }
