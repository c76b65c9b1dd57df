use Rattle.std.proofs.Common.{◌≡◌, ◌++◌, drop, map, string_bytes}
use Rattle.uug_sim_ladder.specs.LadderText.{rungs_text}
use Rattle.uug_sim_ladder.specs.Rungs.{rung_shown}
use Rattle.uug_sim_ladder.proofs.text.add_rungs.Given as goal

-- with the rungs that are left, the whole text is appended
abbrev pub invariant-loop-i : goal.invariant-loop-i
invariant-loop-i g l =
    string_bytes l.text ++ rungs_text (map rung_shown (drop l.i l.rungs)) (drop l.i l.fates)
    ≡ string_bytes l.fn.text ++ rungs_text (map rung_shown l.rungs) l.fates
