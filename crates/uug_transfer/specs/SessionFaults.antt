-- Facts that hold unless a session ended with a certain fault (this project's profile).
use Rattle.std.specs.Prelude.{Result, Ok, Err, ⊤}
use Rattle.uug_transfer.specs.declared.session_fault.SessionFault.{SessionFault}
use Rattle.uug_transfer.specs.declared.session_fault.SessionFault.TheVariants as faults

-- the fact, unless memory ran out
abbrev pub UnlessRefused : {T : Type 0} → Result T SessionFault → Type 0 → Type 0
UnlessRefused (Err faults.Memory) P = ⊤
UnlessRefused (Err fault) P = P
UnlessRefused (Ok done) P = P

-- the fact, unless its store of jobs has failed
abbrev pub UnlessJobs : {T : Type 0} → Result T SessionFault → Type 0 → Type 0
UnlessJobs (Err faults.Jobs) P = ⊤
UnlessJobs (Err fault) P = P
UnlessJobs (Ok done) P = P

-- the fact, unless the file of its number has failed
abbrev pub UnlessNumber : {T : Type 0} → Result T SessionFault → Type 0 → Type 0
UnlessNumber (Err faults.Number) P = ⊤
UnlessNumber (Err fault) P = P
UnlessNumber (Ok done) P = P

-- the fact, unless the results of its jobs may be missing from their store: the store has failed, or memory ran out
abbrev pub UnlessUnsettled : {T : Type 0} → Result T SessionFault → Type 0 → Type 0
UnlessUnsettled (Err faults.Jobs) P = ⊤
UnlessUnsettled (Err faults.Memory) P = ⊤
UnlessUnsettled (Err fault) P = P
UnlessUnsettled (Ok done) P = P
