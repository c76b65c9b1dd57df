use Rattle.std.proofs.Common.{◌≡◌, ◌++◌, drop, string_bytes}
use Rattle.uug_sim_script.specs.ReportText.{held_text}
use Rattle.uug_sim_script.proofs.report.add_held.Given as goal

abbrev pub invariant-loop-file : goal.invariant-loop-file
invariant-loop-file g l =
    string_bytes l.text ++ held_text l.side (drop l.file-index l.files) ≡ string_bytes l.fn.text ++ held_text l.side l.files
