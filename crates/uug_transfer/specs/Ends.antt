-- The state of an end, and its report when its session is over (this project's profile).
use Rattle.std.specs.Prelude.{◌++◌, ◌&&◌, ℕ, Bool, List, Option, length, if◌then◌else◌}
use Rattle.uug_conversation.specs.declared.side.Side.{Side}
use Rattle.uug_conversation.specs.declared.side.Side.TheVariants.{Caller, Called}
use Rattle.uug_conversation.specs.Jobs.{Lists, pending}
use Rattle.uug_session.specs.Node.{NodeState}
use Rattle.uug_session.specs.Phases.{is_done, phase_at}
use Rattle.uug_session.specs.declared.phase.Phase.{Phase}
use Rattle.uug_store.specs.EndReport.{state_line, failed_lines}
use Rattle.uug_transfer.specs.declared.status.SessionStatus.{SessionStatus}

abbrev pub jobs_of_end : NodeState → Lists
jobs_of_end n = n.engine.dialogue.machine.lists

abbrev pub phase_of_end : NodeState → Phase
phase_of_end n = phase_at n.engine.stage n.engine.link.phase

abbrev pub number_of_end : NodeState → Option ℕ
number_of_end n = n.engine.number

-- the status that a line or an observer gets
abbrev pub status_of : (is_over : Bool) → NodeState → SessionStatus
status_of is_over n = record {
  phase = phase_of_end n;
  pending = length (pending (jobs_of_end n));
  struck = length (jobs_of_end n).struck;
  failed = length (jobs_of_end n).failed;
  unacked = length n.engine.link.unacked;
  is_over = is_over;
}

-- ---- what is printed

-- the report of one end: its state, then the jobs that it has given up
abbrev pub report_of : Side → NodeState → List ℕ
report_of side end = state_line side (phase_of_end end) (jobs_of_end end) ++ failed_lines side (jobs_of_end end).failed

-- the report of two ends: the state of each, then the jobs that each has given up, the caller first
abbrev pub report_of_both : (caller called : NodeState) → List ℕ
report_of_both caller called =
    state_line Caller (phase_of_end caller) (jobs_of_end caller)
    ++ state_line Called (phase_of_end called) (jobs_of_end called)
    ++ failed_lines Caller (jobs_of_end caller).failed
    ++ failed_lines Called (jobs_of_end called).failed

-- ---- the status

-- 0 if the session is done, else 1
abbrev pub status_of_phase : Phase → ℕ
status_of_phase phase = if is_done phase then 0 else 1

-- 0 if both sessions are done, else 1
abbrev pub status_of_phases : (caller called : Phase) → ℕ
status_of_phases caller called = if is_done caller && is_done called then 0 else 1
