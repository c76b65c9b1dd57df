-- Why a step of reading a script was refused: what it should do can't be done, or there was no memory for it.
use Rattle.std.specs.Prelude.{◌≡◌, ℕ, ⊤, Option, None}
use Rattle.uug_sim_script.specs.declared.fault.LineFault.{LineFault}
use Rattle.uug_sim_script.specs.declared.fault.LineFault.TheVariants.{Bad, Memory}
use Rattle.uug_sim_script.specs.declared.fault.ScriptFault.{ScriptFault}
use Rattle.uug_sim_script.specs.declared.fault.ScriptFault.TheVariants as script

-- what was wanted, of which this is the answer
abbrev pub Refuses : {A : Type 0} → LineFault → Option A → Type 0
Refuses Bad wanted = wanted ≡ None
Refuses Memory wanted = ⊤

-- the fault of the script whose line was refused
abbrev pub fault_at : ℕ → LineFault → ScriptFault
fault_at line Bad = script.Bad line
fault_at line Memory = script.Memory
