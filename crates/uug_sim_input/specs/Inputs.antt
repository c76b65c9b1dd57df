-- Tasks on an input: the answer, what was read, and what was written (this project's profile).
use Rattle.std.specs.Io.KnownBytes.{Keeps}
use Rattle.std.specs.Borrow.{Bor}
use Rattle.std.specs.Prelude.{◌≡◌, ℕ, List, Option, Some, None, Result, Ok, Err, IfOk, IfErr, OnOk, IfSome, ⊤}
use Rattle.uug_scan.specs.Scan.{AppendsListing, IsScanFault}
use Rattle.uug_scan.specs.Detailed.{AppendsDetailed}
use Rattle.uug_stream.specs.Streams.{ReadsAll}
use Rattle.uug_stream.specs.declared.fault.ToolFault.{ToolFault}
use Rattle.uug_stream.specs.declared.fault.ToolFault.TheVariants as faults
use Rattle.uug_error.specs.Failures.{fault_of_run}
use Rattle.uug_error.specs.declared.run_fault.RunFault.{RunFault}
use Rattle.uug_error.specs.declared.run_fault.RunFault.TheVariants.{Tool}
use Rattle.uug_sim_play.specs.Played.{AppendsReport, AppendsVerbosely, BeforeReport, IsFirstBad, IsPlayFault, OnceRead}
use Rattle.uug_sim_play.specs.Settled.{AppendsSettled}
use Rattle.uug_sim_ladder.specs.Played.{AppendsShown, BeforeWriting, IsDrawingFault}
use Rattle.uug_sim_script.specs.Remarks.{remark_at}
use Rattle.uug_sim_input.specs.declared.input_task.InputTask.{InputTask}
use Rattle.uug_sim_input.specs.declared.input_task.InputTask.TheVariants as over

-- the bytes still to come before and after a task, and those written before and after it, if they are exposed
pub record Streams : Type 0 where
  pub to_come : Option (List ℕ)
  pub left : Option (List ℕ)
  pub before : Option (List ℕ)
  pub after : Option (List ℕ)

abbrev pub streams : (to_come left before after : Option (List ℕ)) → Streams
streams to_come left before after = record { to_come = to_come; left = left; before = before; after = after }

abbrev pub StaysUnread : Streams → Type 0
StaysUnread s = Keeps s.to_come s.left

abbrev pub StaysUnwritten : Streams → Type 0
StaysUnwritten s = Keeps s.before s.after

-- `scan`: the whole input was read, and its listing was written
pub record Scans (s : Streams) (answer : Result ℕ ToolFault) : Type 0 where
  pub status : IfOk answer (λ status. status ≡ 0)
  pub reads : OnOk answer (ReadsAll s.to_come s.left)
  pub writes : OnOk answer (IfSome s.to_come (λ bytes. AppendsListing bytes s.before s.after))

-- `scan -v`: as `scan`, with the detailed listing
pub record ScansVerbose (s : Streams) (answer : Result ℕ ToolFault) : Type 0 where
  pub status : IfOk answer (λ status. status ≡ 0)
  pub reads : OnOk answer (ReadsAll s.to_come s.left)
  pub writes : OnOk answer (IfSome s.to_come (λ bytes. AppendsDetailed bytes s.before s.after))

-- `play`: the whole input was read as a script, and the report that gives the status was written. For a bad script
-- nothing was written
pub record Plays (s : Streams) (answer : Result ℕ ToolFault) : Type 0 where
  pub reads : OnceRead answer (ReadsAll s.to_come s.left)
  pub writes : IfOk answer (λ status. IfSome s.to_come
      (λ script. AppendsReport script status s.before s.after))
  pub bad : (line : ℕ) → answer ≡ Err (faults.Script line) → IfSome s.to_come (λ script. IsFirstBad script line)
  pub nothing_written : BeforeReport answer (StaysUnwritten s)

-- `scan` of a file, with or without -v. No proof knows the bytes of the file
pub record ScansFile (s : Streams) (answer : Result ℕ ToolFault) : Type 0 where
  pub unread : StaysUnread s
  pub status : IfOk answer (λ status. status ≡ 0)
  pub no_other : IfErr answer IsScanFault

-- `play` of a file. No proof knows its bytes
pub record PlaysFile (s : Streams) (answer : Result ℕ ToolFault) : Type 0 where
  pub unread : StaysUnread s
  pub nothing_written : BeforeReport answer (StaysUnwritten s)
  pub no_other : IfErr answer IsPlayFault

-- `play -v`: as `play`, and the remark says why jobs are not done, or what is wrong with the first bad line of a bad
-- script
pub record PlaysVerbosely (s : Streams) (remark : List ℕ) (answer : Result ℕ ToolFault) : Type 0 where
  pub plays : Plays s answer
  pub reasons : IfOk answer (λ status. IfSome s.to_come
      (λ script. AppendsVerbosely script remark status s.before s.after))
  pub remarks : (line : ℕ) → answer ≡ Err (faults.Script line) → IfSome s.to_come (λ script. remark ≡ remark_at line script)

-- `play --settle`: as `play`, and what the run settles to was written too, or else which condition for that fails
pub record PlaysSettled (s : Streams) (answer : Result ℕ ToolFault) : Type 0 where
  pub reads : OnceRead answer (ReadsAll s.to_come s.left)
  pub writes : IfOk answer (λ status. IfSome s.to_come
      (λ script. AppendsSettled script status s.before s.after))
  pub bad : (line : ℕ) → answer ≡ Err (faults.Script line) → IfSome s.to_come (λ script. IsFirstBad script line)
  pub nothing_written : BeforeReport answer (StaysUnwritten s)

-- `play --ladder`: the whole input was read as a script, and the report and the ladder were written. For a bad script
-- nothing was written
pub record PlaysDrawn (s : Streams) (answer : Result ℕ ToolFault) : Type 0 where
  pub reads : OnceRead answer (ReadsAll s.to_come s.left)
  pub writes : IfOk answer (λ status. IfSome s.to_come
      (λ script. AppendsShown script status s.before s.after))
  pub bad : (line : ℕ) → answer ≡ Err (faults.Script line) → IfSome s.to_come (λ script. IsFirstBad script line)
  pub nothing_written : BeforeWriting answer (StaysUnwritten s)

-- `play --ladder` of a file
pub record PlaysFileDrawn (s : Streams) (answer : Result ℕ ToolFault) : Type 0 where
  pub unread : StaysUnread s
  pub nothing_written : BeforeWriting answer (StaysUnwritten s)
  pub no_other : IfErr answer IsDrawingFault

-- a task was performed on an input
abbrev pub DoesOver : InputTask → Streams → (remark : List ℕ) → Result ℕ ToolFault → Type 0
DoesOver over.Scan s remark answer = Scans s answer
DoesOver over.ScanVerbose s remark answer = ScansVerbose s answer
DoesOver over.Play s remark answer = Plays s answer
DoesOver over.PlayVerbose s remark answer = PlaysVerbosely s remark answer
DoesOver over.PlaySettled s remark answer = PlaysSettled s answer
DoesOver over.PlayDrawn s remark answer = PlaysDrawn s answer

-- the faults that a task may give
abbrev pub IsFaultOf : InputTask → ToolFault → Type 0
IsFaultOf over.Scan fault = IsScanFault fault
IsFaultOf over.ScanVerbose fault = IsScanFault fault
IsFaultOf over.Play fault = IsPlayFault fault
IsFaultOf over.PlayVerbose fault = IsPlayFault fault
IsFaultOf over.PlaySettled fault = IsPlayFault fault
IsFaultOf over.PlayDrawn fault = IsDrawingFault fault

-- a task was performed on a file. `s` are the streams that the program was given
abbrev pub DoesOverFile : InputTask → Streams → Result ℕ ToolFault → Type 0
DoesOverFile over.Scan s answer = ScansFile s answer
DoesOverFile over.ScanVerbose s answer = ScansFile s answer
DoesOverFile over.Play s answer = PlaysFile s answer
DoesOverFile over.PlayVerbose s answer = PlaysFile s answer
DoesOverFile over.PlaySettled s answer = PlaysFile s answer
DoesOverFile over.PlayDrawn s answer = PlaysFileDrawn s answer

-- the program's answer
abbrev pub answered : Result ℕ RunFault → Result ℕ ToolFault
answered (Ok status) = Ok status
answered (Err fault) = Err (fault_of_run fault)

-- a fault that gives the reason, if the file can't be read
abbrev pub IsNamed : RunFault → Type 0
IsNamed (Tool faults.Read) = ⊥
IsNamed _ = ⊤

-- a task was performed on the file of this name, or on standard input if none is named
abbrev pub DoesOn : InputTask → (file : Option (Bor (List ℕ))) → Streams → (remark : List ℕ) → Result ℕ RunFault → Type 0
DoesOn task None s remark answer = DoesOver task s remark (answered answer)
DoesOn task (Some path) s remark answer = DoesOverFile task s (answered answer) × IfErr answer IsNamed
