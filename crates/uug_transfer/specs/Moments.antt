-- An end, its line and its disk at a moment, as far as each of them exposes its state; and that events led an end on
-- (this project's profile).
use Rattle.std.specs.Borrow.{GName}
use Rattle.std.specs.Prelude.{◌≡◌, ℕ, List, [], Option}
use Rattle.uug_conversation.specs.Holdings.{Holdings, Kept}
use Rattle.uug_conversation.specs.OwnRequests.{KeepsWhatItAskedFor}
use Rattle.uug_conversation.specs.Sharing.{HaveSameJobs}
use Rattle.uug_conversation.specs.declared.job.Job.{Job}
use Rattle.uug_store.specs.OpenJobs.{open_in}
use Rattle.uug_session.specs.Node.{NodeState, node_of, struck_jobs}
use Rattle.uug_session.specs.NodeRuns.{IsLedByEvents}
use Rattle.uug_session.specs.declared.node.Node.{Node}
use Rattle.uug_transfer.specs.BufferedNodes.{injector_in, node_in, spool_in, to_write}
use Rattle.uug_transfer.specs.Ends.{jobs_of_end}
use Rattle.uug_transfer.specs.Received.{Received}
use Rattle.uug_transfer.specs.declared.buffered_node.BufferedNode.{BufferedNode}
use Rattle.uug_transfer.specs.declared.fault_injector.FaultInjector.{FaultInjector}
use Rattle.uug_transfer.specs.declared.transfer_end.TransferEnd.{TransferEnd}

-- ---- an end

pub record EndNow : Type 0 where
  pub node : NodeState
  -- what its spool gives and accepts, and what it has kept
  pub holdings : Holdings
  pub kept : List Kept

abbrev pub end_now : {S A : Type 0} → (holdings : S → Holdings) (kept : S → List Kept) → BufferedNode S A → EndNow
end_now holdings kept buffered = record {
  node = node_in buffered;
  holdings = holdings (spool_in buffered);
  kept = kept (spool_in buffered);
}

abbrev pub node_now : {S A : Type 0} → (holdings : S → Holdings) (kept : S → List Kept) → Node S A → EndNow
node_now holdings kept node = record { node = node_of node; holdings = holdings node.spool; kept = kept node.spool }

-- This holds whatever happened. Events led the end on, and its spool gives and accepts the same as before. Together its
-- three lists have the same jobs, each as often. Kept files and struck jobs were only added, at the end of their lists.
-- Each Request job that was struck since has its own entry among the files kept since.
pub record IsLed (old new : EndNow) : Type 0 where
  pub stays : new.holdings ≡ old.holdings
  pub events : IsLedByEvents old.holdings old.kept new.kept old.node new.node
  pub jobs : HaveSameJobs (jobs_of_end old.node) (jobs_of_end new.node)
  pub requests : KeepsWhatItAskedFor old.holdings (struck_jobs old.node) (struck_jobs new.node) old.kept new.kept

-- the bytes that an end has still to write, and the injector of the packets that it emits
pub record Unsent : Type 0 where
  pub bytes : List ℕ
  pub injector : FaultInjector

abbrev pub unsent : {S A : Type 0} → BufferedNode S A → Unsent
unsent buffered = record { bytes = to_write buffered; injector = injector_in buffered }

-- ---- its line

-- the results of its reads, the bytes that it took, and the number of bytes that each write took
pub record LineNow : Type 0 where
  pub received : Option (List Received)
  pub taken : Option (List ℕ)
  pub writes : Option (List ℕ)

abbrev pub line_now : {L : Type 0} → (received : L → Option (List Received)) (taken writes : L → Option (List ℕ)) → L → LineNow
line_now received taken writes line = record { received = received line; taken = taken line; writes = writes line }

-- ---- its disk

-- the open jobs in their store, the notices of failed jobs, the text of the number's file, and the numbers of faults of
-- both devices
pub record DiskNow : Type 0 where
  pub jobs : Option (List Job)
  pub told : Option (List ℕ)
  pub job_faults : ℕ
  pub number : Option (List ℕ)
  pub number_faults : ℕ

abbrev pub disk_now : {J N : Type 0} → (jobs : J → Option (List Job)) (told : J → Option (List ℕ)) (job_faults : J → ℕ)
    → (number : N → Option (List ℕ)) (number_faults : N → ℕ) → J → N → DiskNow
disk_now jobs told job_faults number number_faults store file = record {
  jobs = jobs store;
  told = told store;
  job_faults = job_faults store;
  number = number file;
  number_faults = number_faults file;
}

-- ---- both

-- an end's line and its disk, and the names of the references through which the host has them, if it borrows them
pub record HostNow : Type 0 where
  pub lent : List GName
  pub line : LineNow
  pub disk : DiskNow

abbrev pub host_of : LineNow → DiskNow → HostNow
host_of line disk = record { lent = []; line = line; disk = disk }

-- the disk of an end whose jobs are in a file
abbrev pub disk_of : {S J N A : Type 0} → (text told : J → Option (List ℕ)) (job_faults : J → ℕ) → (number : N → Option (List ℕ))
    (number_faults : N → ℕ) → TransferEnd S J N A → DiskNow
disk_of text told job_faults number number_faults end = record {
  jobs = open_in (text end.jobs.file);
  told = told end.jobs.file;
  job_faults = job_faults end.jobs.file;
  number = number end.number;
  number_faults = number_faults end.number;
}
