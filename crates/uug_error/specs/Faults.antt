-- The faults that a task over the system may end with (this project's profile).
use Rattle.std.specs.Prelude.{◌≡◌, ⊤}
use Rattle.uug_stream.specs.declared.fault.ToolFault.TheVariants as faults
use Rattle.uug_error.specs.declared.failure.Cause.TheVariants.{NotANumber}
use Rattle.uug_error.specs.declared.failure.EndText.TheVariants.{Number}
use Rattle.uug_error.specs.declared.failure.Resource.TheVariants.{Text}
use Rattle.uug_error.specs.declared.run_fault.RunFault.{RunFault}
use Rattle.uug_error.specs.declared.run_fault.RunFault.TheVariants.{System, Tool, Unread}

-- ---- inside a run, where a failed system call is named

-- only a failed system call
abbrev pub IsSystemFault : RunFault → Type 0
IsSystemFault (System failure) = ⊤
IsSystemFault (Unread failure) = ⊥
IsSystemFault (Tool fault) = ⊥

-- the faults of locking and of reading a folder: a failed system call, and memory
abbrev pub IsFolderFault : RunFault → Type 0
IsFolderFault (System failure) = ⊤
IsFolderFault (Tool faults.Memory) = ⊤
IsFolderFault _ = ⊥

-- the faults before the first turn: a bad line of jobs, a failed system call, and memory
abbrev pub IsReadingFault : RunFault → Type 0
IsReadingFault (Tool (faults.Jobs line)) = ⊤
IsReadingFault fault = IsFolderFault fault

-- the file of an end's number has no number in it
abbrev pub IsBadNumber : RunFault → Type 0
IsBadNumber (System failure) = (failure.resource ≡ Text Number) × (failure.cause ≡ NotANumber)
IsBadNumber _ = ⊥

-- ---- the faults of a whole task

-- a session: a bad line of jobs, a failed write of the report, memory, and a failed system call
abbrev pub IsSessionFault : RunFault → Type 0
IsSessionFault (System failure) = ⊤
IsSessionFault (Tool (faults.Jobs line)) = ⊤
IsSessionFault (Tool faults.Write) = ⊤
IsSessionFault (Tool faults.Memory) = ⊤
IsSessionFault _ = ⊥

-- a session at a line that may fail: that, and a device fault, which is then the line's
abbrev pub IsFaultAtLine : RunFault → Type 0
IsFaultAtLine (Tool faults.Device) = ⊤
IsFaultAtLine fault = IsSessionFault fault

-- a task of one end or both: the faults of a session, and bad usage: a number that is out of its range
abbrev pub IsRunFault : RunFault → Type 0
IsRunFault (Tool faults.Usage) = ⊤
IsRunFault fault = IsSessionFault fault

-- queueing: bad usage, a bad line of jobs, a file that can't be read, a failed write, memory, and a failed system call
abbrev pub IsQueueFault : RunFault → Type 0
IsQueueFault (Unread failure) = ⊤
IsQueueFault fault = IsRunFault fault

-- reading the file to copy: a file that can't be read, and memory
abbrev pub IsCopyFault : RunFault → Type 0
IsCopyFault (Unread failure) = ⊤
IsCopyFault (Tool faults.Memory) = ⊤
IsCopyFault _ = ⊥
