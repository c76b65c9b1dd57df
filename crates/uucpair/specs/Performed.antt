-- What the program does for each task: its answer, what it read, and what it wrote (this project's profile).
use Rattle.std.specs.Prelude.{◌≡◌, ◌≢◌, ◌≤◌, ◌⊎◌, ℕ, Bool, List, Some, None, Result, Err, IfOk, IfErr, OnOk, codes, true}
use Rattle.uug_scan.specs.Listing.{ended}
use Rattle.uug_stream.specs.Streams.{Appends}
use Rattle.uug_stream.specs.declared.fault.ToolFault.TheVariants as faults
use Rattle.clap.specs.Words.{takes}
use Rattle.uug_error.specs.Faults.{IsQueueFault, IsRunFault}
use Rattle.uug_error.specs.declared.run_fault.RunFault.{RunFault}
use Rattle.uug_cli.specs.Asked.{Asks}
use Rattle.uug_cli.specs.Tools.{uucpair}
use Rattle.uug_cli.specs.declared.command_line.Task.{Task}
use Rattle.uug_cli.specs.declared.command_line.Task.TheVariants.{Version, Scan, ScanVerbose, Play, PlayVerbose, PlaySettled, PlayDrawn, Pair, Call, Queue, Cancel, Status}
use Rattle.uug_io_pending.specs.Status.{WritesStatus}
use Rattle.uug_run.specs.Calls.{HasTalked}
use Rattle.uug_config.specs.declared.task.CallTask.{CallTask}
use Rattle.uug_transfer.specs.LineNames.{line_of, standard}
use Rattle.uug_sim_input.specs.Inputs.{DoesOn, StaysUnread, StaysUnwritten, Streams}
use Rattle.uug_sim_input.specs.declared.input_task.InputTask.TheVariants as over
use Rattle.uug_cli_stop.specs.Refused.{IsNoTask}
use Rattle.uug_cli_stop.specs.Stop.{EndsSo}
use Rattle.uug_cli_stop.specs.declared.stop.Stop.{Stop}
use Rattle.uug_cli_stop.specs.declared.stop.Stop.TheVariants.{Fault}

abbrev pub version_line : List ℕ
version_line = ended (codes "uucpair 0.1.0")

-- `--version`: the name of the program and its version were written, as a line
pub record ShowsVersion (s : Streams) (answer : Result ℕ RunFault) : Type 0 where
  pub unread : StaysUnread s
  pub status : IfOk answer (λ status. status ≡ 0)
  pub writes : OnOk answer (Appends version_line s.before s.after)

-- `pair`: no input was read, and a device fault names the system call that failed
pub record Pairs (s : Streams) (answer : Result ℕ RunFault) : Type 0 where
  pub status : IfOk answer (λ status. status ≤ 1)
  pub reads : StaysUnread s
  pub no_other : IfErr answer IsRunFault

-- the report goes to standard output, which is not the line
pub record PrintsReport (task : CallTask) : Type 0 where
  pub no_file : task.outputs.report ≡ None
  pub apart : line_of task.line.name.now ≢ Some standard

-- `call` and `answer`: the same. If a caller prints a report, it is that of an end that has run its session to its end,
-- and the status is that of this session. Or another run talks with that system, and nothing is printed. A called end
-- prints one or more of these reports, one after the other, and its status is the greatest of theirs.
pub record Calls (task : CallTask) (s : Streams) (answer : Result ℕ RunFault) : Type 0 where
  pub run : Pairs s answer
  pub reported : PrintsReport task → IfOk answer (λ status. HasTalked task.side status s.before s.after)

-- `queue`: the same as `pair`, but the status is 0, and a file that can't be read is a fault too
pub record Queues (s : Streams) (answer : Result ℕ RunFault) : Type 0 where
  pub status : IfOk answer (λ status. status ≡ 0)
  pub reads : StaysUnread s
  pub no_other : IfErr answer IsQueueFault

-- `queue --cancel`: the same, with a separate status if no such job waits
pub record Cancels (s : Streams) (answer : Result ℕ RunFault) : Type 0 where
  pub status : IfOk answer (λ status. status ≤ 1)
  pub reads : StaysUnread s
  pub no_other : IfErr answer IsQueueFault

-- `status`: no input was read, and the status of a folder, or of a part of a spool, was written
pub record ShowsStatus (is_json : Bool) (s : Streams) (answer : Result ℕ RunFault) : Type 0 where
  pub status : IfOk answer (λ status. status ≡ 0)
  pub reads : StaysUnread s
  pub writes : OnOk answer (WritesStatus is_json s.before s.after)
  pub no_other : IfErr answer IsQueueFault

-- ---- the tasks

abbrev pub Does : Task → Streams → (remark : List ℕ) → Result ℕ RunFault → Type 0
Does Version s remark answer = ShowsVersion s answer
Does (Scan file) s remark answer = DoesOn over.Scan file s remark answer
Does (ScanVerbose file) s remark answer = DoesOn over.ScanVerbose file s remark answer
Does (Play file) s remark answer = DoesOn over.Play file s remark answer
Does (PlayVerbose file) s remark answer = DoesOn over.PlayVerbose file s remark answer
Does (PlaySettled file) s remark answer = DoesOn over.PlaySettled file s remark answer
Does (PlayDrawn file) s remark answer = DoesOn over.PlayDrawn file s remark answer
Does (Pair pair) s remark answer = Pairs s answer
Does (Call call) s remark answer = Calls call s answer
Does (Queue queue) s remark answer = Queues s answer
Does (Cancel cancel) s remark answer = Cancels s answer
Does (Status task) s remark answer = ShowsStatus task.is_json s answer

-- ---- the program

-- There was no task, and nothing was read or written. For words that a tool takes, the only cause is that there was no
-- memory for reading them.
pub record HasNoTask (words : List (List ℕ)) (s : Streams) (ends : Result ℕ Stop) : Type 0 where
  pub stop : Stop
  pub ends_so : ends ≡ Err stop
  pub no_task : IsNoTask stop
  pub memory : takes uucpair words ≡ true → stop ≡ Fault faults.Memory
  pub unread : StaysUnread s
  pub unwritten : StaysUnwritten s

-- the task that the words ask for was done or given up
pub record HasDone (words : List (List ℕ)) (s : Streams) (ends : Result ℕ Stop) : Type 0 where
  pub task : Task
  pub asked : Asks words task
  pub answer : Result ℕ RunFault
  pub remark : List ℕ
  pub does : Does task s remark answer
  pub ends_so : EndsSo task answer remark ends

-- the first word is the program's name
abbrev pub Performs : (words : List (List ℕ)) → Streams → Result ℕ Stop → Type 0
Performs words s ends = HasNoTask words s ends ⊎ HasDone words s ends
