use Rattle.std.proofs.Common.{◌≡◌, ◌++◌, replicate, string_bytes}
use Rattle.uug_sim_ladder.proofs.text.add_times.Given as goal

abbrev pub invariant-loop : goal.invariant-loop
invariant-loop g l = string_bytes l.text ≡ string_bytes l.fn.text ++ replicate l.counter l.character
