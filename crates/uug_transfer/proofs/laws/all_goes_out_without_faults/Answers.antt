use Rattle.uug_transfer.proofs.OutgoingLemmas.{all_go_out}
use Rattle.uug_transfer.proofs.laws.all_goes_out_without_faults.Goals as goal

pub returns : goal.returns
returns c = all_go_out
