use Rattle.std.proofs.Common.{◌≡◌, ◌++◌, map, drop, string_bytes}
use Rattle.uug_conversation.specs.MemoryHoldings.{kept_of}
use Rattle.uug_sim_script.specs.ReportText.{stored_text}
use Rattle.uug_sim_script.proofs.report.add_stored.Given as goal

abbrev pub invariant-loop-file : goal.invariant-loop-file
invariant-loop-file g l =
    string_bytes l.text ++ stored_text l.side (map kept_of (drop l.file-index l.files))
    ≡ string_bytes l.fn.text ++ stored_text l.side (map kept_of l.files)
