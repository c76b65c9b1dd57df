-- A file of an end whose text is replaced as a whole (this project's profile).
use Rattle.std.specs.Prelude.{◌≡◌, ◌⊎◌, ℕ, List, Option, Some, None}
use Rattle.uug_session.specs.Engine.{HasFailed, faults_max}
use Rattle.uug_stream.specs.declared.fault.ToolFault.{ToolFault}
use Rattle.uug_stream.specs.declared.fault.ToolFault.TheVariants as faults

-- this text, if the file exposes its text
abbrev pub holding : List ℕ → Option (List ℕ) → Option (List ℕ)
holding text None = None
holding text (Some before) = Some text

-- the file is as before, or has exactly this text, if it exposes its text
abbrev pub IsWhole : (text : List ℕ) → (before after : Option (List ℕ)) → Type 0
IsWhole text before after = (after ≡ before) ⊎ (after ≡ holding text before)

-- the fault of a read: the file's device has failed, which is counted, or memory ran out
abbrev pub IsReadFault : ToolFault → (count count_after : ℕ) → Type 0
IsReadFault faults.Device count count_after = HasFailed faults_max count count_after
IsReadFault faults.Memory count count_after = count_after ≡ count
IsReadFault _ count count_after = ⊥
