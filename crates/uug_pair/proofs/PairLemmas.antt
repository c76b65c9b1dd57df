-- How a pair of ends finishes.
use Rattle.std.proofs.Common.{◌≡◌, ℕ, Option, Some, None, Err, Result, refl, subst, sym}
use Rattle.std.specs.Prelude.{IsSome}
use Rattle.uug_stream.specs.declared.fault.ToolFault.{ToolFault}
use Rattle.uug_stream.specs.declared.fault.ToolFault.TheVariants as faults
use Rattle.uug_error.specs.Failures.{fault_with}
use Rattle.uug_error.specs.Faults.{IsSessionFault}
use Rattle.uug_error.specs.declared.failure.SystemFailure.{SystemFailure}
use Rattle.uug_error.specs.declared.run_fault.RunFault.{RunFault}
use Rattle.uug_transfer.specs.EndOver.{IsEndFault}

-- behind a device fault a call of the system has failed
abbrev pub IsNamed : Result ℕ ToolFault → (first : Option SystemFailure) → Type 0
IsNamed result first = result ≡ Err faults.Device → IsSome first

is_named : (answer : ToolFault) (first : Option SystemFailure) → IsEndFault answer → IsNamed (Err answer) first
    → IsSessionFault (fault_with answer first)
is_named faults.Device (Some failure) is named = tt
is_named faults.Device None is named = absurd (cc (named refl))
is_named faults.Write first is named = tt
is_named faults.Memory first is named = tt
is_named faults.Usage first is named = absurd is
is_named faults.Read first is named = absurd is
is_named (faults.Script line) first is named = absurd is
is_named (faults.Jobs line) first is named = absurd is

pub session_fault : (answer : ToolFault) (first : Option SystemFailure) (fault : RunFault) → fault ≡ fault_with answer first
    → IsEndFault answer → IsNamed (Err answer) first → IsSessionFault fault
session_fault answer first fault with is named = subst IsSessionFault (sym with) (is_named answer first is named)
