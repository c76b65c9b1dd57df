use Rattle.std.proofs.Common.{◌≡◌, ◌++◌, drop, string_bytes}
use Rattle.uug_conversation.specs.MemoryHoldings.{held_by, holdings_of}
use Rattle.uug_sim_play.specs.Reasons.{pending_lines}
use Rattle.uug_sim_play.proofs.reasons.add_pending.Given as goal

abbrev pub invariant-loop-job : goal.invariant-loop-job
invariant-loop-job g l =
    string_bytes l.text ++ pending_lines l.side l.phase (holdings_of (held_by l.other)) (drop l.job-index l.jobs)
    ≡ string_bytes l.fn.text ++ pending_lines l.side l.phase (holdings_of (held_by l.other)) l.jobs
