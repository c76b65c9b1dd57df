-- The program's faults in a run of two ends that gave up (this project's profile).
use Rattle.std.specs.Prelude.{⊤}
use Rattle.uug_stream.specs.declared.fault.ToolFault.{ToolFault}
use Rattle.uug_stream.specs.declared.fault.ToolFault.TheVariants as faults

-- a number out of its range, a bad line of jobs, a failed write, out of memory, or a failed device
abbrev pub IsRunAnswer : ToolFault → Type 0
IsRunAnswer faults.Usage = ⊤
IsRunAnswer (faults.Jobs line) = ⊤
IsRunAnswer faults.Write = ⊤
IsRunAnswer faults.Memory = ⊤
IsRunAnswer faults.Device = ⊤
IsRunAnswer _ = ⊥
