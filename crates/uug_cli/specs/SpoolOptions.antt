-- Defines the options of one end that need a spool (this project's profile).
use Rattle.std.specs.Prelude.{◌==◌, ◌&&◌, ℕ, Bool, not, List, [], codes, is_some, length, if◌then◌else◌}
use Rattle.std.specs.Str.{bytes_eq}
use Rattle.uug_config.specs.declared.spool_options.SpoolOptions.{SpoolOptions}
use Rattle.uug_config.specs.declared.task.CallTask.{CallTask}

-- the first of `--give` and `--take` whose list of open folders is not the default
abbrev pub folder_option : (gives takes : List ℕ) → List ℕ
folder_option gives takes =
    if not (bytes_eq gives (codes "~")) then codes "--give" else
    (if not (bytes_eq takes (codes "~")) then codes "--take" else [])

-- the first that is given, and nothing where none is
abbrev pub spool_option : SpoolOptions → List ℕ
spool_option options =
    if is_some options.public then codes "--public" else
    (if is_some options.stats then codes "--stats" else
    (if is_some options.grade then codes "--grade" else
    (if is_some options.port then codes "--port-name" else folder_option options.rules.gives.now options.rules.takes.now)))

-- an end without a spool is given such an option
abbrev pub lacks_spool : CallTask → Bool
lacks_spool task = not task.is_spool && not (length (spool_option task.spool) == 0)
