-- The faults of the program (this project's profile).
use Rattle.std.specs.Prelude.{ℕ, Result, Ok, Err, ⊤}
use Rattle.uug_stream.specs.declared.fault.ToolFault.{ToolFault}
use Rattle.uug_stream.specs.declared.fault.ToolFault.TheVariants.{Read, Write, Memory, Script, Jobs, Device, Usage}
use Rattle.uug_stream.specs.declared.output.WriteFailed.{WriteFailed}
use Rattle.uug_stream.specs.declared.output.WriteFailed.TheVariants as refusals
use Rattle.uug_stream.specs.Streams.{CountsFault}

-- the status of the program where it ends with a fault: 2 for what the caller gave, 3 for devices, 4 for memory
abbrev pub status_of : ToolFault → ℕ
status_of Read = 3
status_of Write = 3
status_of Memory = 4
status_of (Script line) = 2
status_of (Jobs line) = 2
status_of Device = 3
status_of Usage = 2

-- a write that was refused for memory is no device's fault
abbrev pub fault_of : WriteFailed → ToolFault
fault_of refusals.Device = Write
fault_of refusals.Memory = Memory

-- the fact, unless the input has refused a read
abbrev pub UnlessRead : {T : Type 0} → Result T ToolFault → Type 0 → Type 0
UnlessRead (Err Read) P = ⊤
UnlessRead (Err fault) P = P
UnlessRead (Ok value) P = P

-- the fact, unless the output's device has refused a write
abbrev pub UnlessWrite : {T : Type 0} → Result T ToolFault → Type 0 → Type 0
UnlessWrite (Err Write) P = ⊤
UnlessWrite (Err fault) P = P
UnlessWrite (Ok value) P = P

-- writing gives up for the output's device, whose faults are counted, or for memory
abbrev pub StopsWriting : ℕ → ℕ → ToolFault → Type 0
StopsWriting before after Write = CountsFault before after
StopsWriting before after Memory = ⊤
StopsWriting before after Read = ⊥
StopsWriting before after (Script line) = ⊥
StopsWriting before after (Jobs line) = ⊥
StopsWriting before after Device = ⊥
StopsWriting before after Usage = ⊥
