-- The lock of the other system of an end over a spool, and the words if another run has it (this project's profile).
use Rattle.std.specs.Prelude.{◌≡◌, ◌⊎◌, ◌++◌, ◌∷◌, ℕ, Bool, true, false, List, [], Option, Some, None, Result, Ok, Err, MatchResult, codes, ⊤}
use Rattle.uug_error.specs.declared.failure.Cause.{Cause}
use Rattle.uug_error.specs.declared.failure.Cause.TheVariants.{InUse}
use Rattle.uug_error.specs.declared.failure.Resource.TheVariants.{Dir}
use Rattle.uug_error.specs.declared.run_fault.RunFault.{RunFault}
use Rattle.uug_error.specs.declared.run_fault.RunFault.TheVariants.{System, Tool}
use Rattle.uug_io_lock.specs.DeviceLocks.{lock_path}
use Rattle.uug_scan.specs.Detailed.{escaped}
use Rattle.uug_session.specs.Greeting.{called_text}
use Rattle.uug_stream.specs.declared.fault.ToolFault.TheVariants.{Memory}
use Rattle.uug_run.specs.declared.spool_lock.TheConstants.{LOCKS}
use Rattle.uug_talk.specs.Lines.{ended}
use Rattle.uug_talk.specs.Texts.{written_text}
use Rattle.uug_config.specs.declared.task.CallTask.{CallTask}
use Rattle.uug_transfer.specs.Writing.{TakesFront, also_taken}

-- ---- why the end has not got it

abbrev pub is_in_use : Cause → Bool
is_in_use InUse = true
is_in_use cause = false

-- whether another run has the lock
abbrev pub is_locked : RunFault → Bool
is_locked (System failure) = is_in_use failure.cause
is_locked _ = false

abbrev pub is_held : {L : Type 0} → Result L RunFault → Bool
is_held (Ok lock) = false
is_held (Err fault) = is_locked fault

-- the system creates no lock in the folder of the locks, or memory ran out
abbrev pub IsRefusedLock : RunFault → Type 0
IsRefusedLock (System failure) = (failure.end ≡ LOCKS) × (failure.resource ≡ Dir) × (is_in_use failure.cause ≡ false)
IsRefusedLock (Tool fault) = fault ≡ Memory
IsRefusedLock _ = ⊥

-- ---- a call without the lock

abbrev pub file_words : (path : List ℕ) → List ℕ
file_words path = codes " is locked by " ++ ended (escaped path)

-- the system is locked, by this file
abbrev pub locked_by : (system path : List ℕ) → List ℕ
locked_by system path = codes "uucpair: system " ++ (escaped system ++ file_words path)

abbrev pub locked_remark : (locks system : List ℕ) → List ℕ
locked_remark locks system = locked_by system (lock_path locks system)

-- the system is to be called later: the status is 1, and the remark says that the system is locked, unless memory ran
-- out
abbrev pub CallsLater : CallTask → Result ℕ RunFault → (remark : List ℕ) → Type 0
CallsLater task answer remark = MatchResult answer
    (λ status. (status ≡ 1) × (remark ≡ locked_remark task.line.locks.now task.peer.now))
    (λ fault. fault ≡ Tool Memory)

-- ---- the words of a called end without the lock

-- its name, as at the start of each session, and then that the caller's system is locked
abbrev pub lock_words : (me : List ℕ) → List ℕ
lock_words me = written_text (called_text me) ++ written_text (codes "RLCK")

-- the last write took no byte, if the line exposes how many each write took
abbrev pub TakesNone : (writes writes_after : Option (List ℕ)) → Type 0
TakesNone None after = ⊤
TakesNone (Some before) after = (since : List ℕ) × (after ≡ Some ((before ++ since) ++ 0 ∷ []))

-- A front of these words is written, and nothing else: all of them, unless a write took none.
pub record Says (words : List ℕ) (taken taken_after writes writes_after : Option (List ℕ)) : Type 0 where
  pub front : TakesFront words taken taken_after
  pub all : (taken_after ≡ also_taken words taken) ⊎ TakesNone writes writes_after
