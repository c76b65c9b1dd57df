-- The state of the disk of an end over a spool, as clauses see it (this project's profile).
use Rattle.std.specs.Prelude.{Some, None}
use Rattle.uug_taylor_queue.specs.OpenLines.{jobs_of}
use Rattle.uug_taylor_queue.specs.WorkStores.{lines_of}
use Rattle.uug_taylor_queue.specs.declared.work_store.WorkStore.{WorkStore}
use Rattle.uug_taylor_disk.specs.declared.spool_disk.SpoolDisk.{SpoolDisk}
use Rattle.uug_transfer.specs.Moments.{DiskNow}

-- the jobs of its C. files; the end keeps no number, and its disk does not expose the notices of failed jobs
abbrev pub store_now : {R A : Type 0} → WorkStore (SpoolDisk R A) A → DiskNow
store_now store = record {
  jobs = Some (jobs_of (lines_of store));
  told = None;
  job_faults = store.disk.faults.count;
  number = None;
  number_faults = 0;
}
