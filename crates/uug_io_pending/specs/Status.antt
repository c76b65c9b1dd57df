-- Defines what is printed of an end's folder, or of a system's part of a spool (this project's profile).
use Rattle.std.specs.Prelude.{◌≡◌, ℕ, Bool, List, Option, if◌then◌else◌}
use Rattle.uug_conversation.specs.declared.job.Job.{Job}
use Rattle.uug_io_disk.specs.declared.seen_files.HeldFile.{HeldFile}
use Rattle.uug_io_disk.specs.declared.seen_files.SeenFile.{SeenFile}
use Rattle.uug_io_pending.specs.LastSession.{Last}
use Rattle.uug_io_pending.specs.StatusJson.{status_json}
use Rattle.uug_io_pending.specs.StatusText.{status_text}
use Rattle.uug_io_pending.specs.declared.failed_job.FailedJob.{FailedJob}
use Rattle.uug_io_pending.specs.declared.pending_job.PendingJob.{PendingJob}
use Rattle.uug_stream.specs.Streams.{Appends}

abbrev pub job_of : PendingJob → Job
job_of pending = pending.job

-- as JSON, or in lines for a person
abbrev pub status_as : (is_json : Bool) → (session : Option SeenFile) → Option Last → List PendingJob → List HeldFile → List FailedJob → List ℕ
status_as is_json session last pending held failed =
    if is_json then status_json session last pending held failed else status_text session last pending held failed

-- the text is the status of a folder, or of a part of a spool, that has these
pub record IsStatus (is_json : Bool) (text : List ℕ) : Type 0 where
  pub session : Option SeenFile
  pub last : Option Last
  pub pending : List PendingJob
  pub held : List HeldFile
  pub failed : List FailedJob
  pub is : text ≡ status_as is_json session last pending held failed

-- a status is appended to the output
pub record WritesStatus (is_json : Bool) (written written_after : Option (List ℕ)) : Type 0 where
  pub text : List ℕ
  pub is : IsStatus is_json text
  pub appended : Appends text written written_after
