-- Why a run over the system gave up, and which system call failed first (this project's profile).
use Rattle.std.specs.Prelude.{◌≡◌, ℕ, Option, Some, None, ⊤}
use Rattle.std.specs.declared.io.ErrorKind.TheVariants.{Interrupted, WouldBlock}
use Rattle.uug_session.specs.Engine.{HasFailed, faults_max}
use Rattle.uug_stream.specs.declared.fault.ToolFault.{ToolFault}
use Rattle.uug_stream.specs.declared.fault.ToolFault.TheVariants.{Device, Read}
use Rattle.uug_error.specs.declared.failure.Cause.{Cause}
use Rattle.uug_error.specs.declared.failure.Cause.TheVariants.{Refused}
use Rattle.uug_error.specs.declared.failure.SystemFailure.{SystemFailure}
use Rattle.uug_error.specs.declared.run_fault.RunFault.{RunFault}
use Rattle.uug_error.specs.declared.run_fault.RunFault.TheVariants.{System, Tool, Unread}

-- the first failure of a device, after this one was noted too
abbrev pub first_of : Option SystemFailure → SystemFailure → Option SystemFailure
first_of (Some first) failure = Some first
first_of None failure = Some failure

-- the call timed out (`WouldBlock`), or a signal interrupted it
abbrev pub IsSilence : Cause → Type 0
IsSilence (Refused WouldBlock number) = ⊤
IsSilence (Refused Interrupted number) = ⊤
IsSilence _ = ⊥

-- the program's fault
abbrev pub fault_of_run : RunFault → ToolFault
fault_of_run (System failure) = Device
fault_of_run (Unread failure) = Read
fault_of_run (Tool fault) = fault

-- the fault of a run with this answer, by the first failed system call, if one failed
abbrev pub fault_with : (answer : ToolFault) → (first : Option SystemFailure) → RunFault
fault_with Device (Some failure) = System failure
fault_with Read (Some failure) = Unread failure
fault_with answer first = Tool answer

-- the count of faults rises, up to the greatest number, if a system call failed, and only then
abbrev pub NotesFault : RunFault → (count count_after : ℕ) → Type 0
NotesFault (System failure) count count_after = HasFailed faults_max count count_after
NotesFault (Unread failure) count count_after = count_after ≡ count
NotesFault (Tool fault) count count_after = count_after ≡ count
