-- How the program ends if its words ask for no task (this project's profile).
use Rattle.std.specs.Prelude.{◌≡◌, ⊤}
use Rattle.clap.specs.Words.{kind_of}
use Rattle.clap.specs.declared.error.Error.{Error}
use Rattle.clap.specs.declared.error.kind.ErrorKind.TheVariants.{OutOfMemory}
use Rattle.uug_stream.specs.declared.fault.ToolFault.TheVariants as faults
use Rattle.uug_cli_stop.specs.declared.stop.Stop.{Stop}
use Rattle.uug_cli_stop.specs.declared.stop.Stop.TheVariants.{Fault, Remarked, File, InUse, Number, Limit, Told, CommandLine}

-- the command line asks for no task, or there was no memory for reading it
abbrev pub IsNoTask : Stop → Type 0
IsNoTask (CommandLine error) = ⊤
IsNoTask (Fault fault) = fault ≡ faults.Memory
IsNoTask (Remarked fault remark) = ⊥
IsNoTask (File name reason) = ⊥
IsNoTask (InUse name line) = ⊥
IsNoTask (Number bad) = ⊥
IsNoTask (Limit line) = ⊥
IsNoTask (Told fault line) = ⊥

-- how the program ends if the parser of the words gives this error
pub record IsRefusal (error : Error) (stop : Stop) : Type 0 where
  pub no_task : IsNoTask stop
  pub memory : kind_of error ≡ OutOfMemory → stop ≡ Fault faults.Memory
