-- What each act of an end does to its line and its disk (this project's profile).
use Rattle.std.specs.Prelude.{◌≡◌, ◌++◌, ℕ, List, [], ◌∷◌, Option, Some, None, take, All, ⊤}
use Rattle.uug_conversation.specs.declared.job.Job.{Job}
use Rattle.uug_session.specs.Engine.{HasFailed, faults_max}
use Rattle.uug_store.specs.Notices.{also_told}
use Rattle.uug_store.specs.NumberText.{IsNumberKept, holding_number}
use Rattle.uug_store.specs.OpenJobs.{IsSettledOrNot, settled_in}
use Rattle.uug_store.specs.TextFiles.{IsReadFault}
use Rattle.uug_stream.specs.declared.fault.ToolFault.{ToolFault}
use Rattle.uug_transfer.specs.Moments.{HostNow}
use Rattle.uug_transfer.specs.Received.{Received, also_received}
use Rattle.uug_transfer.specs.WriteSilences.{WritesWithin, also_wrote}
use Rattle.uug_transfer.specs.Writing.{TakesFront, also_taken}
use Rattle.uug_transfer.specs.declared.read_budget.TheConstants.{STALLS_MAX}

-- ---- each act

-- the line took the first `count` bytes of a piece
abbrev pub having_written : (count : ℕ) → (piece : List ℕ) → HostNow → HostNow
having_written count piece host = record host {
  line = record host.line {
    taken = also_taken (take count piece) host.line.taken;
    writes = also_wrote count host.line.writes;
  };
}

-- a read of the line had this result
abbrev pub having_read : List Received → HostNow → HostNow
having_read read host = record host {
  line = record host.line { received = also_received read host.line.received };
}

-- these jobs are removed from their store, and these notices are on the disk
abbrev pub having_settled : (over : List Job) → (notice : List ℕ) → HostNow → HostNow
having_settled over notice host = record host {
  disk = record host.disk {
    jobs = settled_in over host.disk.jobs;
    told = also_told notice host.disk.told;
  };
}

-- nothing of the line has changed
pub record KeepsLine (host after : HostNow) : Type 0 where
  pub lent : after.lent ≡ host.lent
  pub line : after.line ≡ host.line

-- nothing has changed but the jobs and the notices
pub record ChangesOnlyJobs (host after : HostNow) : Type 0 where
  pub lent : after.lent ≡ host.lent
  pub line : after.line ≡ host.line
  pub number : after.disk.number ≡ host.disk.number
  pub number_faults : after.disk.number_faults ≡ host.disk.number_faults

-- that failed: they are removed or not, and not before the notices are on the disk
pub record FailsToSettle (reason : ToolFault) (over : List Job) (notice : List ℕ) (host after : HostNow) : Type 0 where
  pub only : ChangesOnlyJobs host after
  pub either : IsSettledOrNot over notice host.disk.jobs after.disk.jobs host.disk.told after.disk.told
  pub fault : IsReadFault reason host.disk.job_faults after.disk.job_faults

-- the file of the number has this one
abbrev pub having_numbered : ℕ → HostNow → HostNow
having_numbered number host = record host {
  disk = record host.disk { number = holding_number (Some number) host.disk.number };
}

-- nothing has changed but the number
pub record ChangesOnlyNumber (host after : HostNow) : Type 0 where
  pub lent : after.lent ≡ host.lent
  pub line : after.line ≡ host.line
  pub jobs : after.disk.jobs ≡ host.disk.jobs
  pub told : after.disk.told ≡ host.disk.told
  pub job_faults : after.disk.job_faults ≡ host.disk.job_faults

-- that failed: the file is as before, or has this number
pub record FailsToNumber (number : ℕ) (host after : HostNow) : Type 0 where
  pub only : ChangesOnlyNumber host after
  pub either : IsNumberKept (Some number) host.disk.number after.disk.number
  pub fault : HasFailed faults_max host.disk.number_faults after.disk.number_faults

-- ---- the moments just after each write

-- these moments and this one, if the host exposes them
abbrev pub also_at : HostNow → Option (List HostNow) → Option (List HostNow)
also_at host None = None
also_at host (Some moments) = Some (moments ++ host ∷ [])

-- each moment since then is so, if the host exposes them
abbrev pub AllSince : (HostNow → Type 0) → (before after : Option (List HostNow)) → Type 0
AllSince P None after = ⊤
AllSince P (Some moments) after = (since : List HostNow) × (after ≡ Some (moments ++ since)) × All P since

-- nothing was done but writes, of which the line took the first of these bytes
pub record HasOnlyWritten (bytes : List ℕ) (host after : HostNow) : Type 0 where
  pub lent : after.lent ≡ host.lent
  pub disk : after.disk ≡ host.disk
  pub received : after.line.received ≡ host.line.received
  pub taken : TakesFront bytes host.line.taken after.line.taken
  pub writes : WritesWithin STALLS_MAX host.line.writes after.line.writes
