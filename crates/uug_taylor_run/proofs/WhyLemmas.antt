-- That it is known which call of the system has failed, where the answer is a device fault.
use Rattle.std.proofs.Common.{◌≡◌, ◌<◌, ℕ, Option, Result, Ok, Err, refl, sym, ◌∙◌}
use Rattle.std.specs.Prelude.{IsErr, IsSome}
use Rattle.uug_error.proofs.FaultLemmas.{has_faults}
use Rattle.uug_error.specs.declared.failure.SystemFailure.{SystemFailure}
use Rattle.uug_session.specs.Engine.{HasFailed, faults_max}
use Rattle.uug_stream.specs.declared.fault.ToolFault.{ToolFault}
use Rattle.uug_stream.specs.declared.fault.ToolFault.TheVariants as faults
use Rattle.uug_transfer.specs.declared.session_fault.SessionFault.{SessionFault}
use Rattle.uug_transfer.specs.declared.session_fault.SessionFault.TheVariants as session

pub device_is_known : {T : Type 0} (answer : Result ℕ ToolFault) (ended : Result T SessionFault) (why : Option SystemFailure) (before after : ℕ)
    → (answer ≡ Err faults.Device → IsErr ended) → (ended ≡ Err session.Memory → answer ≡ Err faults.Memory)
    → before ≡ 0 → (ended ≡ Err session.Jobs → HasFailed faults_max before after) → (ended ≡ Err session.Number → ⊥)
    → (0 < after → IsSome why) → answer ≡ Err faults.Device → IsSome why
device_is_known answer (Ok done) why before after device memory calm jobs number known e = absurd (cc (device e))
device_is_known answer (Err session.Jobs) why before after device memory calm jobs number known e = known (has_faults before after calm (jobs refl))
device_is_known answer (Err session.Number) why before after device memory calm jobs number known e = absurd (number refl)
device_is_known answer (Err session.Memory) why before after device memory calm jobs number known e = absurd (cc (sym e ∙ memory refl))
