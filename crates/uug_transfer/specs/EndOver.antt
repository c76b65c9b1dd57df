-- What an end leaves when its session is over: its files and the report (this project's profile).
use Rattle.std.specs.Prelude.{◌≡◌, ◌⊎◌, ℕ, List, Option, Result, Ok, Err, ⊤}
use Rattle.uug_session.specs.Engine.{HasFailed, faults_max}
use Rattle.uug_session.specs.Node.{NodeState}
use Rattle.uug_stream.specs.Streams.{Appends, AppendsFront, CountsFault}
use Rattle.uug_stream.specs.declared.fault.ToolFault.{ToolFault}
use Rattle.uug_stream.specs.declared.fault.ToolFault.TheVariants as faults
use Rattle.uug_store.specs.JobsFile.{settled}
use Rattle.uug_store.specs.JobsPlan.{fault_without_memory}
use Rattle.uug_store.specs.declared.jobs_plan.JobsPlan.{JobsPlan}
use Rattle.uug_store.specs.declared.jobs_plan.JobsPlan.TheVariants.{Write, Failed}
use Rattle.uug_store.specs.NumberText.{holding_number}
use Rattle.uug_transfer.specs.Ends.{jobs_of_end, number_of_end}
use Rattle.uug_transfer.specs.declared.transfer_end.TransferEnd.{TransferEnd}

-- ---- the files of an end

-- the text of a file, if the file exposes it, and the number of faults of its device
pub record FileState : Type 0 where
  pub text : Option (List ℕ)
  pub faults : ℕ

-- the file of an end's jobs, and the file of its number
pub record FilesState : Type 0 where
  pub jobs : FileState
  pub number : FileState

abbrev pub files_of : {S J N A : Type 0} → (text : J → Option (List ℕ)) (faults : J → ℕ) (number_text : N → Option (List ℕ))
    (number_faults : N → ℕ) → TransferEnd S J N A → FilesState
files_of text faults number_text number_faults end = record {
  jobs = record { text = text end.jobs.file; faults = faults end.jobs.file };
  number = record { text = number_text end.number; faults = number_faults end.number };
}

-- the file has the text that was to be written, or its device has failed
abbrev pub IsWritten : (goal : Option (List ℕ)) → (before after : FileState) → Type 0
IsWritten goal before after = (after.text ≡ goal) ⊎ HasFailed faults_max before.faults after.faults

-- the text that stays of the jobs is written, and the number, if the end keeps one; each unless its device has failed
pub record AreWritten (read : List ℕ) (end : NodeState) (before after : FilesState) : Type 0 where
  pub jobs : IsWritten (settled read (jobs_of_end end) before.jobs.text) before.jobs after.jobs
  pub number : IsWritten (holding_number (number_of_end end) before.number.text) before.number after.number

-- nothing was written
pub record AreUntouched (before after : FilesState) : Type 0 where
  pub jobs : after.jobs.text ≡ before.jobs.text
  pub number : after.number.text ≡ before.number.text

-- the device of one of the files has failed
abbrev pub HasFault : (before after : FilesState) → Type 0
HasFault before after = HasFailed faults_max before.jobs.faults after.jobs.faults
    ⊎ HasFailed faults_max before.number.faults after.number.faults

-- ---- the report

-- How much of the report was printed, by the result. After success: all of it. After a failed write, or if memory ran
-- out: some first bytes, which may be none or all. After any other fault, such as that of a file or of the line: all of
-- it, unless the output failed as well or `fault` holds.
abbrev pub IsPrinted : {T : Type 0} → Result T ToolFault → (report : List ℕ) (written written_after : Option (List ℕ))
    (count count_after : ℕ) (fault : Type 0) → Type 0
IsPrinted (Ok value) report w v c d fault = Appends report w v
IsPrinted (Err faults.Memory) report w v c d fault = AppendsFront report w v
IsPrinted (Err faults.Write) report w v c d fault = AppendsFront report w v × CountsFault c d
IsPrinted (Err other) report w v c d fault = Appends report w v ⊎ (AppendsFront report w v × (CountsFault c d ⊎ fault))

-- ---- by the result

-- Whatever the result, also if the line has failed, the end leaves what it should (`left`). The exception is that
-- memory ran out before anything was written (`untouched`). The result is then `Memory`, or `Device` if the device of a
-- file had failed before (`fault`).
abbrev pub LeavesBehind : {T : Type 0} → Result T ToolFault → (fault untouched left : Type 0) → Type 0
LeavesBehind (Err faults.Memory) fault untouched left = untouched ⊎ left
LeavesBehind (Err faults.Device) fault untouched left = (fault × untouched) ⊎ left
LeavesBehind (Err other) fault untouched left = left
LeavesBehind (Ok value) fault untouched left = left

-- the same for the files of two ends
abbrev pub LeaveBoth : {T : Type 0} → Result T ToolFault → (caller_read called_read : List ℕ) (caller called : NodeState)
    (caller_before caller_after called_before called_after : FilesState) → Type 0
LeaveBoth result caller_read called_read caller called a b c d =
    LeavesBehind result (HasFault a b ⊎ HasFault c d) (AreUntouched a b × AreUntouched c d)
    (AreWritten caller_read caller a b × AreWritten called_read called c d)

-- a fault before anything was written: memory ran out, or the file's device failed when its text was read
abbrev pub IsPlanFault : ToolFault → (count count_after : ℕ) → Type 0
IsPlanFault faults.Memory count count_after = count_after ≡ count
IsPlanFault faults.Device count count_after = HasFailed faults_max count count_after
IsPlanFault _ count count_after = ⊥

-- the same for the files of two ends
abbrev pub IsPlanFaultOfBoth : ToolFault → (caller caller_after called called_after : ℕ) → Type 0
IsPlanFaultOfBoth faults.Memory a b c d = (b ≡ a) × (d ≡ c)
IsPlanFaultOfBoth faults.Device a b c d = HasFailed faults_max a b ⊎ HasFailed faults_max c d
IsPlanFaultOfBoth _ a b c d = ⊥

-- the fault to return if memory runs out after two plans: the device's, if a file could not be read before
abbrev pub first_fault : {A B : Type 0} → JobsPlan A → JobsPlan B → ToolFault
first_fault Failed other = faults.Device
first_fault (Write text) other = fault_without_memory other

-- the fault to return after a device has failed, given the result of the rest: the device's, unless memory ran out
abbrev pub fault_behind_line : {T : Type 0} → Result T ToolFault → ToolFault
fault_behind_line (Err faults.Memory) = faults.Memory
fault_behind_line (Err other) = faults.Device
fault_behind_line (Ok value) = faults.Device

-- the fact, unless memory ran out
abbrev pub UnlessMemory : {T : Type 0} → Result T ToolFault → Type 0 → Type 0
UnlessMemory (Err faults.Memory) P = ⊤
UnlessMemory (Err fault) P = P
UnlessMemory (Ok value) P = P

-- the fact, unless a device fault was returned
abbrev pub UnlessDevice : {T : Type 0} → Result T ToolFault → Type 0 → Type 0
UnlessDevice (Err faults.Device) P = ⊤
UnlessDevice (Err fault) P = P
UnlessDevice (Ok value) P = P

-- the fact, if all files were written: nothing but the output has failed
abbrev pub IfWritten : {T : Type 0} → Result T ToolFault → Type 0 → Type 0
IfWritten (Ok value) P = P
IfWritten (Err faults.Write) P = P
IfWritten (Err _) P = ⊤

-- the faults that running an end, or two, can return: a device's (the line's or a file's), the output's, and memory
abbrev pub IsEndFault : ToolFault → Type 0
IsEndFault faults.Write = ⊤
IsEndFault faults.Memory = ⊤
IsEndFault faults.Device = ⊤
IsEndFault _ = ⊥
