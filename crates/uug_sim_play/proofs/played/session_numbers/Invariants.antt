use Rattle.std.proofs.Common.{◌≡◌, ◌++◌, map, drop}
use Rattle.uug_line.specs.Shown.{session_shown}
use Rattle.uug_sim_play.specs.Numbers.{session_numbers}
use Rattle.uug_sim_play.proofs.played.session_numbers.Given as goal

abbrev pub invariant-loop-session : goal.invariant-loop-session
invariant-loop-session g l =
    l.numbers.items ++ map session_numbers (map session_shown (drop l.session-index l.sessions))
    ≡ map session_numbers (map session_shown l.sessions)
