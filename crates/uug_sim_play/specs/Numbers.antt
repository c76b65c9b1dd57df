-- What is shown of a run, and how the program ends then (this project's profile).
use Rattle.std.specs.Prelude.{ℕ, ◌-◌, Bool, false, List, [], length, map, slice_get, Option, Some, None, if◌then◌else◌, ◌&&◌}
use Rattle.uug_conversation.specs.Jobs.{pending}
use Rattle.uug_session.specs.Phases.{is_done}
use Rattle.uug_line.specs.declared.verdict.LineVerdict.{LineVerdict}
use Rattle.uug_line.specs.declared.verdict.LineVerdict.TheVariants.{Clean, Fooled}
use Rattle.uug_line.specs.Belongings.{Belongings}
use Rattle.uug_conversation.specs.Partial.{Partial}
use Rattle.uug_conversation.specs.Sides.{AtBoth}
use Rattle.uug_line.specs.Told.{SpelledEnd, SpelledReport}
use Rattle.uug_sim_script.specs.declared.report.EndNumbers.{EndNumbers}
use Rattle.uug_sim_script.specs.declared.report.HeldFile.{HeldFile}
use Rattle.uug_sim_script.specs.declared.report.SessionNumbers.{SessionNumbers}
use Rattle.uug_sim_script.specs.ReportText.{EndResult, RunResult}

-- how many messages an end sent and took in a session, the most that it had unacknowledged, and how far it came
abbrev pub end_numbers : SpelledEnd → EndNumbers
end_numbers e = record { sent = length e.sent; taken = length e.taken; most = e.most; phase = e.phase }

abbrev pub session_numbers : AtBoth SpelledEnd → SessionNumbers
session_numbers s = record { caller = end_numbers s.at_caller; called = end_numbers s.at_called }

-- how many bytes have come of a file that was cut off, and its name at its giver
abbrev pub held_file : Partial → HeldFile
held_file p = record { name = p.key.source; size = length p.bytes }

-- of an end that does not resume none
abbrev pub held_files : Option (List Partial) → List HeldFile
held_files None = []
held_files (Some ps) = map held_file ps

-- how many of an end's jobs are pending, done and given up, the files that it has stored, what it holds of others, and the number
-- that it keeps
abbrev pub end_result : Belongings → EndResult
end_result b = record {
  pending = length (pending b.lists);
  struck = length b.lists.struck;
  failed = length b.lists.failed;
  stored = b.kept;
  held = held_files b.partials;
  number = b.number;
}

abbrev pub result_of : SpelledReport → RunResult
result_of r = record {
  sessions = map session_numbers r.sessions;
  caller = end_result r.belongings.at_caller;
  called = end_result r.belongings.at_called;
  verdict = r.verdict;
}

-- ---- the status

-- whether both ends came to the end with all done
abbrev pub is_done_at_both : Option SessionNumbers → Bool
is_done_at_both None = false
is_done_at_both (Some s) = is_done s.caller.phase && is_done s.called.phase

abbrev pub last_session : List SessionNumbers → Option SessionNumbers
last_session sessions = slice_get sessions (length sessions - 1)

-- 5 where an end was fooled; else 0 where the last session is done at both ends, and 1 where it is not
abbrev pub status_by : LineVerdict → (last : Option SessionNumbers) → ℕ
status_by Clean last = if is_done_at_both last then 0 else 1
status_by (Fooled event side) last = 5

abbrev pub status_of_result : RunResult → ℕ
status_of_result r = status_by r.verdict (last_session r.sessions)
