-- How the program ends (this project's profile).
use Rattle.std.specs.Prelude.{◌≡◌, ◌==◌, ℕ, Bool, true, false, not, List, [], codes, if◌then◌else◌, None, Option, Some, Result, Ok, Err, IsErrAnd, string_bytes}
use Rattle.uug_stream.specs.Fault.{status_of}
use Rattle.uug_stream.specs.declared.fault.ToolFault.{ToolFault}
use Rattle.uug_stream.specs.declared.fault.ToolFault.TheVariants.{Device, Jobs, Memory, Read, Script, Usage, Write}
use Rattle.uug_io_disk.specs.Queued.{word_or_empty}
use Rattle.uug_error.specs.declared.failure.Cause.{Cause}
use Rattle.uug_error.specs.declared.failure.Cause.TheVariants as causes
use Rattle.uug_error.specs.declared.failure.Resource.{Resource}
use Rattle.uug_error.specs.declared.failure.Resource.TheVariants.{Dir, Line}
use Rattle.uug_error.specs.declared.failure.SystemFailure.{SystemFailure}
use Rattle.uug_error.specs.declared.run_fault.RunFault.{RunFault}
use Rattle.uug_error.specs.declared.run_fault.RunFault.TheVariants.{System, Tool, Unread}
use Rattle.uug_error.specs.Failures.{fault_of_run}
use Rattle.uug_error_text.specs.Reasons.{Places, dir_of, locks_line, places, reason_line}
use Rattle.uug_cli.specs.UsageWords.{IsUsageOf, pair_words}
use Rattle.uug_config.specs.declared.task.CallTask.{CallTask}
use Rattle.uug_cli.specs.declared.command_line.PairTask.{PairTask}
use Rattle.uug_cli.specs.declared.command_line.Task.{Task}
use Rattle.uug_cli.specs.declared.command_line.Task.TheVariants.{Scan, ScanVerbose, Play, PlayVerbose, PlaySettled, PlayDrawn, Pair, Call, Queue, Cancel, Status}
use Rattle.uug_cli_stop.specs.declared.stop.Stop.{Stop}
use Rattle.uug_cli_stop.specs.declared.stop.Stop.TheVariants.{Fault, Remarked, File, Told, CommandLine}
use Rattle.uug_cli_stop.specs.declared.stop.Stop.TheVariants as stops

-- the status if the program ends before its task is done: usage and help count as bad usage
abbrev pub status_of_stop : Stop → ℕ
status_of_stop (Fault fault) = status_of fault
status_of_stop (Remarked fault remark) = status_of fault
status_of_stop (File name reason) = status_of Read
status_of_stop (stops.InUse name line) = status_of Device
status_of_stop (stops.Number bad) = status_of Usage
status_of_stop (stops.Limit line) = status_of Device
status_of_stop (Told fault line) = status_of fault
status_of_stop (CommandLine error) = status_of Usage

-- ---- after a task

-- the fault and this remark on it
abbrev pub HasRemark : ToolFault → (remark : List ℕ) → Stop → Type 0
HasRemark fault remark (Remarked f text) = (f ≡ fault) × (string_bytes text ≡ remark)
HasRemark fault remark (Fault f) = ⊥
HasRemark fault remark (File name reason) = ⊥
HasRemark fault remark (stops.InUse name line) = ⊥
HasRemark fault remark (stops.Number bad) = ⊥
HasRemark fault remark (stops.Limit line) = ⊥
HasRemark fault remark (Told f line) = ⊥
HasRemark fault remark (CommandLine error) = ⊥

-- this line says on what a system call failed, and why, unless there was no memory for that
abbrev pub SaysReason : (reason : List ℕ) → Stop → Type 0
SaysReason reason (Told fault line) = (fault ≡ Device) × (string_bytes line ≡ reason)
SaysReason reason (Fault fault) = fault ≡ Device
SaysReason reason (Remarked fault remark) = ⊥
SaysReason reason (File name line) = ⊥
SaysReason reason (stops.InUse name line) = ⊥
SaysReason reason (stops.Number bad) = ⊥
SaysReason reason (stops.Limit line) = ⊥
SaysReason reason (CommandLine error) = ⊥

-- the fault and this line, which may be empty
abbrev pub HasLine : ToolFault → (line : List ℕ) → Stop → Type 0
HasLine fault line (Told f text) = (f ≡ fault) × (string_bytes text ≡ line)
HasLine fault line (Fault f) = ⊥
HasLine fault line (Remarked f remark) = ⊥
HasLine fault line (File name reason) = ⊥
HasLine fault line (stops.InUse name said) = ⊥
HasLine fault line (stops.Number bad) = ⊥
HasLine fault line (stops.Limit limit) = ⊥
HasLine fault line (CommandLine error) = ⊥

-- the fault, and no line that says why
abbrev pub SaysFault : ToolFault → Stop → Type 0
SaysFault fault stop = HasLine fault [] stop

-- the file of this name and this reason, or a memory fault if there was no memory for that
abbrev pub NamesFileFor : (path reason : List ℕ) → Stop → Type 0
NamesFileFor path reason (File name line) = (string_bytes name ≡ path) × (string_bytes line ≡ reason)
NamesFileFor path reason (Fault fault) = fault ≡ Memory
NamesFileFor path reason (Remarked fault remark) = ⊥
NamesFileFor path reason (stops.InUse name line) = ⊥
NamesFileFor path reason (stops.Number bad) = ⊥
NamesFileFor path reason (stops.Limit line) = ⊥
NamesFileFor path reason (Told f line) = ⊥
NamesFileFor path reason (CommandLine error) = ⊥

-- this line says which limit something is over, or a memory fault if there was no memory for that
abbrev pub SaysLimit : (reason : List ℕ) → Stop → Type 0
SaysLimit reason (stops.Limit line) = string_bytes line ≡ reason
SaysLimit reason (Fault fault) = fault ≡ Memory
SaysLimit reason (Remarked fault remark) = ⊥
SaysLimit reason (File name line) = ⊥
SaysLimit reason (stops.InUse name line) = ⊥
SaysLimit reason (stops.Number bad) = ⊥
SaysLimit reason (Told fault line) = ⊥
SaysLimit reason (CommandLine error) = ⊥

-- the file of this name, and why it can't be read, or a memory fault
abbrev pub NamesFile : (path : List ℕ) → SystemFailure → Stop → Type 0
NamesFile path failure stop = NamesFileFor path (reason_line (places path [] [] []) failure) stop

-- the file is named if it can't be opened or read
abbrev pub StopsOnFile : (path : List ℕ) → RunFault → Stop → Type 0
StopsOnFile path (Unread failure) stop = NamesFile path failure stop
StopsOnFile path fault stop = stop ≡ Fault (fault_of_run fault)

-- a bad script ends with the remark on it
abbrev pub StopsOnScript : RunFault → (remark : List ℕ) → Stop → Type 0
StopsOnScript (Tool (Script line)) remark stop = HasRemark (Script line) remark stop
StopsOnScript fault remark stop = stop ≡ Fault (fault_of_run fault)

abbrev pub StopsOnScriptFile : (path : List ℕ) → RunFault → (remark : List ℕ) → Stop → Type 0
StopsOnScriptFile path (Unread failure) remark stop = NamesFile path failure stop
StopsOnScriptFile path fault remark stop = StopsOnScript fault remark stop

-- the folder or the line of this name and this remark, which may be empty, or a memory fault
abbrev pub NamesFolder : (dir remark : List ℕ) → Stop → Type 0
NamesFolder dir remark (stops.InUse name line) = (string_bytes name ≡ dir) × (string_bytes line ≡ remark)
NamesFolder dir remark (stops.Number bad) = ⊥
NamesFolder dir remark (stops.Limit line) = ⊥
NamesFolder dir remark (Fault fault) = fault ≡ Memory
NamesFolder dir remark (File name reason) = ⊥
NamesFolder dir remark (Remarked fault text) = ⊥
NamesFolder dir remark (Told f line) = ⊥
NamesFolder dir remark (CommandLine error) = ⊥

-- the file of the output of this number of one end: 1 is its log, 2 the statistics, else its report
abbrev pub output_of : CallTask → (number : ℕ) → List ℕ
output_of call number =
    if number == 1 then word_or_empty call.outputs.log else
    (if number == 2 then word_or_empty call.spool.stats else word_or_empty call.outputs.report)

-- what another run holds: the line, or the folder of this number
abbrev pub held_by_another : Places → (end : ℕ) → Resource → List ℕ
held_by_another p end Line = p.line
held_by_another p end resource = dir_of p.first p.second end

-- this line says which file has no number in it, or a memory fault if there was no memory for that
abbrev pub SaysNumber : (reason : List ℕ) → Stop → Type 0
SaysNumber reason (stops.Number line) = string_bytes line ≡ reason
SaysNumber reason (Fault fault) = fault ≡ Memory
SaysNumber reason (Remarked fault remark) = ⊥
SaysNumber reason (File name line) = ⊥
SaysNumber reason (stops.InUse name line) = ⊥
SaysNumber reason (stops.Limit line) = ⊥
SaysNumber reason (Told fault line) = ⊥
SaysNumber reason (CommandLine error) = ⊥

-- The message names the line or the folder that another run holds, with this remark, or a bad number file. For another
-- failed system call it says on what and why.
abbrev pub StopsOnCause : Places → SystemFailure → (remark : List ℕ) → Cause → Stop → Type 0
StopsOnCause p failure remark causes.InUse stop = NamesFolder (held_by_another p failure.end failure.resource) remark stop
StopsOnCause p failure remark causes.NotANumber stop = SaysNumber (reason_line p failure) stop
StopsOnCause p failure remark cause stop = SaysReason (reason_line p failure) stop

-- a remark on what is wrong with the usage, for which `IsWrong` holds, unless there was no memory for that
abbrev pub SaysUsage : (List ℕ → Type 0) → Stop → Type 0
SaysUsage IsWrong (Remarked fault remark) = (fault ≡ Usage) × IsWrong (string_bytes remark)
SaysUsage IsWrong (Fault fault) = fault ≡ Usage
SaysUsage IsWrong (File name reason) = ⊥
SaysUsage IsWrong (stops.InUse name line) = ⊥
SaysUsage IsWrong (stops.Number bad) = ⊥
SaysUsage IsWrong (stops.Limit line) = ⊥
SaysUsage IsWrong (Told f line) = ⊥
SaysUsage IsWrong (CommandLine error) = ⊥

-- two ends end with what is wrong with a line of jobs, or where a system call failed
abbrev pub StopsOnLoudPair : PairTask → RunFault → (remark : List ℕ) → Stop → Type 0
StopsOnLoudPair pair (System failure) remark stop = StopsOnCause (places [] pair.socket.now pair.dir_a.now pair.dir_b.now) failure remark failure.cause stop
StopsOnLoudPair pair (Tool (Jobs line)) remark stop = HasLine (Jobs line) remark stop
StopsOnLoudPair pair fault remark stop = stop ≡ Fault (fault_of_run fault)

-- that with `-v`, else only the fault
abbrev pub StopsOnPairBy : (is_loud : Bool) → PairTask → RunFault → (remark : List ℕ) → Stop → Type 0
StopsOnPairBy true pair fault remark stop = StopsOnLoudPair pair fault remark stop
StopsOnPairBy false pair fault remark stop = SaysFault (fault_of_run fault) stop

-- what is wrong with their usage is always said, the rest only with `-v`
abbrev pub StopsOnPair : PairTask → RunFault → (remark : List ℕ) → Stop → Type 0
StopsOnPair pair (Tool Usage) remark stop = SaysUsage (λ said. said ≡ pair_words pair.drop_every pair.flip_every) stop
StopsOnPair pair fault remark stop = StopsOnPairBy pair.is_loud pair fault remark stop

-- the system refused to create a lock file in the second folder of an end
abbrev pub is_refused_in : (end : ℕ) → Resource → Cause → Bool
is_refused_in end Dir (causes.Refused kind number) = not (end == 0)
is_refused_in end resource cause = false

abbrev pub is_refused_lock : SystemFailure → Bool
is_refused_lock failure = is_refused_in failure.end failure.resource failure.cause

abbrev pub StopsOnSystem : (is_refused_lock : Bool) → CallTask → SystemFailure → (remark : List ℕ) → Stop → Type 0
StopsOnSystem true call failure remark stop = SaysReason (locks_line call.line.locks.now failure) stop
StopsOnSystem false call failure remark stop = StopsOnCause (places (output_of call failure.end) call.line.name.now call.dir.now call.line.locks.now) failure remark failure.cause stop

-- The message of one end reports bad usage, a bad line of its jobs, or the failed system call. Its two folders are its
-- own and that of the locks.
abbrev pub StopsOnEnd : CallTask → RunFault → (remark : List ℕ) → Stop → Type 0
StopsOnEnd call (System failure) remark stop = StopsOnSystem (is_refused_lock failure) call failure remark stop
StopsOnEnd call (Tool Usage) remark stop = SaysUsage (IsUsageOf call) stop
StopsOnEnd call (Tool (Jobs line)) remark stop = HasLine (Jobs line) remark stop
StopsOnEnd call fault remark stop = stop ≡ Fault (fault_of_run fault)

-- there is more than the program takes
abbrev pub is_much : Cause → Bool
is_much causes.TooMuch = true
is_much _ = false

abbrev pub NamesCopiedBy : (is_much : Bool) → (path : List ℕ) → SystemFailure → Stop → Type 0
NamesCopiedBy true path failure stop = SaysLimit (reason_line (places path [] [] []) failure) stop
NamesCopiedBy false path failure stop = NamesFile path failure stop

-- the file that can't be copied or read, or the limit that it is over
abbrev pub NamesCopied : (path : List ℕ) → SystemFailure → Stop → Type 0
NamesCopied path failure stop = NamesCopiedBy (is_much failure.cause) path failure stop

-- The message of `queue`, or of `status`, names the file that can't be read or is over a limit, or says what is wrong
-- with the order or with a line of jobs, or on what a system call failed, and why.
abbrev pub StopsOnQueue : (dir file : List ℕ) → RunFault → (remark : List ℕ) → Stop → Type 0
StopsOnQueue dir file (System failure) remark stop = SaysReason (reason_line (places [] [] dir dir) failure) stop
StopsOnQueue dir file (Unread failure) remark stop = NamesCopied file failure stop
StopsOnQueue dir file (Tool Usage) remark stop = HasRemark Usage remark stop
StopsOnQueue dir file (Tool (Jobs line)) remark stop = HasLine (Jobs line) remark stop
StopsOnQueue dir file (Tool fault) remark stop = stop ≡ Fault fault

-- The message of `queue --cancel` says what is wrong with the usage or with a line of jobs, names the folder that
-- another run holds, or says on what another system call failed, and why.
abbrev pub StopsOnCancel : (dir : List ℕ) → RunFault → (remark : List ℕ) → Stop → Type 0
StopsOnCancel dir (System failure) remark stop = StopsOnCause (places [] [] dir dir) failure remark failure.cause stop
StopsOnCancel dir (Tool Usage) remark stop = HasRemark Usage remark stop
StopsOnCancel dir (Tool (Jobs line)) remark stop = HasLine (Jobs line) remark stop
StopsOnCancel dir fault remark stop = stop ≡ Fault (fault_of_run fault)

-- `scan`, `play` and `pair` say only the fault if nothing more is asked for
abbrev pub StopsAs : Task → RunFault → (remark : List ℕ) → Stop → Type 0
StopsAs (Scan file) fault remark stop = SaysFault (fault_of_run fault) stop
StopsAs (ScanVerbose (Some path)) fault remark stop = StopsOnFile path.now fault stop
StopsAs (Play file) fault remark stop = SaysFault (fault_of_run fault) stop
StopsAs (PlaySettled file) fault remark stop = SaysFault (fault_of_run fault) stop
StopsAs (PlayVerbose None) fault remark stop = StopsOnScript fault remark stop
StopsAs (PlayVerbose (Some path)) fault remark stop = StopsOnScriptFile path.now fault remark stop
StopsAs (PlayDrawn file) fault remark stop = SaysFault (fault_of_run fault) stop
StopsAs (Pair pair) fault remark stop = StopsOnPair pair fault remark stop
StopsAs (Call call) fault remark stop = StopsOnEnd call fault remark stop
StopsAs (Queue queue) fault remark stop = StopsOnQueue queue.dir.now (word_or_empty queue.file) fault remark stop
StopsAs (Cancel cancel) fault remark stop = StopsOnCancel cancel.dir.now fault remark stop
StopsAs (Status status) fault remark stop = StopsOnQueue status.dir.now (word_or_empty status.log) fault remark stop
StopsAs task fault remark stop = stop ≡ Fault (fault_of_run fault)

-- how the program ends after a task with this answer and this remark
abbrev pub EndsSo : Task → Result ℕ RunFault → (remark : List ℕ) → Result ℕ Stop → Type 0
EndsSo task (Ok status) remark ends = ends ≡ Ok status
EndsSo task (Err fault) remark ends = IsErrAnd ends (StopsAs task fault remark)

-- ---- standard input and output

abbrev pub input_places : Places
input_places = places (codes "standard input") [] [] []

abbrev pub output_places : Places
output_places = places (codes "standard output") [] [] []

-- If a read of standard input failed, or a write to standard output, the line says why, if that is known. Else the
-- ending stays the same.
abbrev pub SaysStream : (stop : Stop) → (input output : Option SystemFailure) → (ends : Stop) → Type 0
SaysStream (Fault Read) (Some failure) output ends = SaysReason (reason_line input_places failure) ends
SaysStream (Fault Write) input (Some failure) ends = SaysReason (reason_line output_places failure) ends
SaysStream stop input output ends = ends ≡ stop
