-- The faults of a session after which an end continues with the next one (this project's profile).
use Rattle.std.specs.Prelude.{◌==◌, Bool, true, false, if◌then◌else◌}
use Rattle.uug_error.specs.declared.failure.SystemFailure.{SystemFailure}
use Rattle.uug_error.specs.declared.failure.Resource.{Resource}
use Rattle.uug_error.specs.declared.failure.Resource.TheVariants as resources
use Rattle.uug_error.specs.declared.run_fault.RunFault.{RunFault}
use Rattle.uug_error.specs.declared.run_fault.RunFault.TheVariants.{System, Tool}
use Rattle.uug_stream.specs.declared.fault.ToolFault.TheVariants.{Jobs}

-- a folder of an end, or something below it
abbrev pub is_in_folder : Resource → Bool
is_in_folder resources.Input = false
is_in_folder resources.Output = false
is_in_folder resources.Line = false
is_in_folder _ = true

-- the end's own folder has number 0; the folder of the locks has another
abbrev pub is_of_folder : SystemFailure → Bool
is_of_folder failure = if is_in_folder failure.resource then failure.end == 0 else false

-- a line of the jobs was bad, or a system call on the files of the end has failed
abbrev pub is_of_session : RunFault → Bool
is_of_session (System failure) = is_of_folder failure
is_of_session (Tool (Jobs line)) = true
is_of_session _ = false
