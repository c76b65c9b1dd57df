use Rattle.std.proofs.Common.{◌≡◌, ◌+◌, ◌++◌, drop, string_bytes}
use Rattle.uug_sim_script.specs.ReportText.{sessions_text}
use Rattle.uug_sim_script.proofs.report.add_sessions.Given as goal

abbrev pub invariant-loop-i : goal.invariant-loop-i
invariant-loop-i g l =
    string_bytes l.text ++ sessions_text (l.i + 1) (drop l.i l.sessions) ≡ string_bytes l.fn.text ++ sessions_text 1 l.sessions
