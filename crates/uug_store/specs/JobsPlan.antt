-- The plan for a file of jobs after its text was read again (this project's profile).
use Rattle.std.specs.Prelude.{◌≡◌, ◌⊎◌, ℕ, List, Option, ⊤}
use Rattle.uug_session.specs.Engine.{HasFailed, faults_max}
use Rattle.uug_stream.specs.declared.fault.ToolFault.{ToolFault}
use Rattle.uug_stream.specs.declared.fault.ToolFault.TheVariants as faults
use Rattle.uug_store.specs.TextFiles.{holding}
use Rattle.uug_store.specs.declared.jobs_plan.JobsPlan.{JobsPlan}
use Rattle.uug_store.specs.declared.jobs_plan.JobsPlan.TheVariants.{Write, Failed}

-- the text of the file after the plan was carried out, if the file exposes it
abbrev pub carried : {A : Type 0} → JobsPlan A → Option (List ℕ) → Option (List ℕ)
carried (Write text) before = holding text.items before
carried Failed before = before

-- the text could be read
abbrev pub IsFeasible : {A : Type 0} → JobsPlan A → Type 0
IsFeasible (Write text) = ⊤
IsFeasible Failed = ⊥

-- the plan leads to this text, or the file's device has failed
abbrev pub IsPlanned : {A : Type 0} → JobsPlan A → (goal text : Option (List ℕ)) → (count count_after : ℕ) → Type 0
IsPlanned (Write written) goal text count count_after = (holding written.items text ≡ goal) × (count_after ≡ count)
IsPlanned Failed goal text count count_after = HasFailed faults_max count count_after

-- the file has the planned text, if it exposes its text
abbrev pub HoldsPlanned : {A : Type 0} → JobsPlan A → (text : Option (List ℕ)) → Type 0
HoldsPlanned (Write written) text = holding written.items text ≡ text
HoldsPlanned Failed text = ⊥

-- the file is as before, or as planned
abbrev pub IsCarried : {A : Type 0} → JobsPlan A → (before after : Option (List ℕ)) → Type 0
IsCarried plan before after = (after ≡ before) ⊎ (after ≡ carried plan before)

-- the text could not be read, or the file's device has failed since
abbrev pub HasFailedIn : {A : Type 0} → JobsPlan A → (count count_after : ℕ) → Type 0
HasFailedIn (Write text) count count_after = HasFailed faults_max count count_after
HasFailedIn Failed count count_after = ⊤

-- the plan was carried out, or the file's device has failed
abbrev pub IsCarriedOut : {A : Type 0} → JobsPlan A → (before after : Option (List ℕ)) (count count_after : ℕ) → Type 0
IsCarriedOut plan before after count count_after =
    ((after ≡ carried plan before) × IsFeasible plan) ⊎ HasFailedIn plan count count_after

-- the fault to return if memory runs out: the device's, if the text could not be read before
abbrev pub fault_without_memory : {A : Type 0} → JobsPlan A → ToolFault
fault_without_memory (Write text) = faults.Memory
fault_without_memory Failed = faults.Device
