-- What the session of an end at its line has done, by its result (this project's profile).
use Rattle.std.specs.Prelude.{◌≡◌, ℕ, [], List, Option, OnOk, Result, Ok, Err}
use Rattle.uug_session.specs.Engine.{HasFailed, IsEnded, faults_max}
use Rattle.uug_session.specs.NumberStanding.{KeepsNumber}
use Rattle.uug_stream.specs.declared.fault.ToolFault.{ToolFault}
use Rattle.uug_stream.specs.declared.fault.ToolFault.TheVariants as tool_faults
use Rattle.uug_transfer.specs.EndOver.{fault_behind_line}
use Rattle.uug_transfer.specs.Ends.{number_of_end, phase_of_end, status_of_phase}
use Rattle.uug_transfer.specs.Hosts.{AllSince}
use Rattle.uug_transfer.specs.Listening.{HearsLine}
use Rattle.uug_transfer.specs.Moments.{DiskNow, EndNow, HostNow, IsLed, LineNow, Unsent}
use Rattle.uug_transfer.specs.Received.{ReadsWithin}
use Rattle.uug_transfer.specs.SessionFaults.{UnlessNumber, UnlessRefused, UnlessUnsettled}
use Rattle.uug_transfer.specs.Settling.{IsNumberNow, IsSomeNumber, LosesNoJob, StaysInStore, TellsFailed}
use Rattle.uug_transfer.specs.WriteSilences.{WritesWithin}
use Rattle.uug_transfer.specs.Writing.{TalksAtLine}
use Rattle.uug_transfer.specs.declared.read_budget.TheConstants.{SILENCES_MAX, STALLS_MAX}
use Rattle.uug_transfer.specs.declared.session_fault.SessionFault.{SessionFault}
use Rattle.uug_transfer.specs.declared.session_fault.SessionFault.TheVariants as faults

-- The line. What it brought led the end, and nothing else did. It took the first bytes of what there was to write: the
-- bytes that were to be written before, then those that go out of what the end emitted. Both are left open if memory
-- ran out. At most `most` bytes were read, and silent reads and writes in a row stayed within their limits.
pub record UsesLine {T : Type 0} (most : ℕ) (result : Result T SessionFault) (old new : EndNow) (first : Unsent)
    (line line_after : LineNow) : Type 0 where
  pub heard : UnlessRefused result (HearsLine old.holdings old.kept new.kept line.received line_after.received old.node new.node)
  pub talked : old.node.engine.outbox.entries ≡ [] → UnlessRefused result (TalksAtLine old.holdings old.kept new.kept
      line.received line_after.received first.injector first.bytes line.taken line_after.taken old.node new.node)
  pub reads : ReadsWithin most SILENCES_MAX line.received line_after.received
  pub writes : WritesWithin STALLS_MAX line.writes line_after.writes

-- The jobs. Those that are over are removed from their store, and no others, and each failed one gets a notice with the
-- reason, unless the store has failed or memory ran out. Whatever happens, no pending job is lost from the store.
pub record SettlesJobs {T : Type 0} (result : Result T SessionFault) (old new : EndNow) (disk disk_after : DiskNow) : Type 0 where
  pub stays : UnlessUnsettled result (StaysInStore disk.jobs disk_after.jobs old.node new.node)
  pub none_lost : LosesNoJob disk.jobs disk_after.jobs old.node new.node
  pub told : UnlessUnsettled result (TellsFailed old.holdings disk.told disk_after.told old.node new.node)
  pub calm : UnlessUnsettled result (disk_after.job_faults ≡ disk.job_faults)
  pub fault : result ≡ Err faults.Jobs → HasFailed faults_max disk.job_faults disk_after.job_faults

-- The number. It has risen once at most, and its file has the number that the end keeps, if it keeps one. Whatever
-- happens, the file is unchanged or has the complete line of a number.
pub record WritesNumber {T : Type 0} (result : Result T SessionFault) (old new : EndNow) (disk disk_after : DiskNow) : Type 0 where
  pub stands : UnlessRefused result (KeepsNumber old.node.engine new.node.engine)
  pub is_now : OnOk result (IsNumberNow (number_of_end old.node) (number_of_end new.node) disk.number disk_after.number)
  pub whole : IsSomeNumber disk.number disk_after.number
  pub calm : UnlessRefused result (UnlessNumber result (disk_after.number_faults ≡ disk.number_faults))
  pub fault : result ≡ Err faults.Number → HasFailed faults_max disk.number_faults disk_after.number_faults

-- what an end's turns at its host have done, by their result
pub record IsSession {T : Type 0} (most : ℕ) (result : Result T SessionFault) (old new : EndNow) (first : Unsent)
    (host host_after : HostNow) : Type 0 where
  pub same_host : host_after.lent ≡ host.lent
  pub led : IsLed old new
  pub at_line : UsesLine most result old new first host.line host_after.line
  pub jobs : SettlesJobs result old new host.disk host_after.disk
  pub number : WritesNumber result old new host.disk host_after.disk

-- ---- what is said is on the disk

-- The session could end at this moment, and end well: what the line brought by then has led the end to a state whose
-- results are all on the disk, and the line has taken the first bytes of what that end had to write.
pub record CouldEnd (most : ℕ) (old : EndNow) (first : Unsent) (host at : HostNow) : Type 0 where
  pub now : EndNow
  pub session : IsSession {T = ℕ} most (Ok 0) old now first host at

-- it could, just after each of its writes
abbrev pub WritesWhatIsOnDisk : (most : ℕ) (old : EndNow) (first : Unsent) (host : HostNow)
    → (writes writes_after : Option (List HostNow)) → Type 0
WritesWhatIsOnDisk most old first host = AllSince (CouldEnd most old first host)

-- ---- with its report

-- The program's result, from those of the session and of printing the report. It is the status if both succeeded, and
-- the report's fault if only the report failed. If results could not be stored on the disk, it is `Device`. If memory
-- ran out in either, it is `Memory`.
abbrev pub answer_to : {T U : Type 0} → (ended : Result T SessionFault) → (status : ℕ) → (printed : Result U ToolFault)
    → Result ℕ ToolFault
answer_to (Ok done) status (Ok told) = Ok status
answer_to (Ok done) status (Err fault) = Err fault
answer_to (Err faults.Jobs) status printed = Err (fault_behind_line printed)
answer_to (Err faults.Number) status printed = Err (fault_behind_line printed)
answer_to (Err faults.Memory) status printed = Err tool_faults.Memory

-- an end has run its session to its end; `answer` follows from the session's result and that of printing the report
pub record IsCall (most : ℕ) (answer : Result ℕ ToolFault) (old new : EndNow) (first : Unsent) (host host_after : HostNow)
    : Type 0 where
  pub ended : Result (Unit {0}) SessionFault
  pub session : IsSession most ended old new first host host_after
  pub over : IsEnded new.node.engine.stage
  pub printed : Result (Unit {0}) ToolFault
  pub answered : answer ≡ answer_to ended (status_of_phase (phase_of_end new.node)) printed
