use Rattle.std.specs.Io.KnownBytes.{Keeps}
use Rattle.uug_error.proofs.signals.write_again.Given as goal

-- a write that a signal has ended has taken nothing
abbrev pub invariant-loop : goal.invariant-loop
invariant-loop g l = Keeps (g.T.Write.contents l.initial.stream) (g.T.Write.contents l.stream)
