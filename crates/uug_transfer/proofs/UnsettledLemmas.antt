-- What is so whether or not all was settled.
use Rattle.std.proofs.Common.{Result, Ok, Err}
use Rattle.uug_transfer.specs.SessionFaults.{UnlessUnsettled}
use Rattle.uug_transfer.specs.declared.session_fault.SessionFault.{SessionFault}
use Rattle.uug_transfer.specs.declared.session_fault.SessionFault.TheVariants as fault

pub however_settled : {T : Type 0} (r : Result T SessionFault) (P : Type 0) → P → UnlessUnsettled r P
however_settled (Ok value) P p = p
however_settled (Err fault.Jobs) P p = tt
however_settled (Err fault.Number) P p = p
however_settled (Err fault.Memory) P p = tt
