-- The report of an end that has run its session, and the program's status (this project's profile).
use Rattle.std.specs.Prelude.{◌≡◌, ℕ, Bool, List, Option, if◌then◌else◌}
use Rattle.uug_conversation.specs.Holdings.{Holdings, Kept}
use Rattle.uug_conversation.specs.declared.side.Side.{Side}
use Rattle.uug_session.specs.Beginnings.{EndBeginning, IsSoundBeginning}
use Rattle.uug_session.specs.NodeRuns.{HasRun}
use Rattle.uug_session.specs.Engine.{IsEnded}
use Rattle.uug_session.specs.Node.{NodeState}
use Rattle.uug_stream.specs.Streams.{Appends}
use Rattle.uug_transfer.specs.Ends.{phase_of_end, report_of, status_of_phase}

-- 1 if jobs were put off (`is_left`), else the status of the session
abbrev pub status_with : (is_left : Bool) (status : ℕ) → ℕ
status_with is_left status = if is_left then 1 else status

-- The end began its session soundly, with a spool that gives and accepts `h`. It has run the session up to this state,
-- in which the spool has kept `kept`.
pub record HasRunSoundly (side : Side) (h : Holdings) (kept : List Kept) (end : NodeState) : Type 0 where
  pub beginning : EndBeginning
  pub holdings : beginning.holdings ≡ h
  pub sound : IsSoundBeginning beginning
  pub ran : HasRun side beginning kept end

-- An end on this side has run its session to its end, and its report is printed. The status is 0 if the session is done
-- and no jobs were put off (`is_left`), else 1.
pub record IsReported (side : Side) (status : ℕ) (written written_after : Option (List ℕ)) : Type 0 where
  pub end : NodeState
  pub holdings : Holdings
  pub kept : List Kept
  pub ran : HasRunSoundly side holdings kept end
  pub over : IsEnded end.engine.stage
  pub is_left : Bool
  pub is_status : status ≡ status_with is_left (status_of_phase (phase_of_end end))
  pub printed : Appends (report_of side end) written written_after
