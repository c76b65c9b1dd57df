use Rattle.std.proofs.Common.{◌≡◌, length}
use Rattle.std.specs.Io.KnownBytes.{Keeps}
use Rattle.uug_error.proofs.signals.read_again.Given as goal

-- a read that a signal has ended has brought nothing
abbrev pub invariant-loop : goal.invariant-loop
invariant-loop g l = (length l.buffer ≡ length l.initial.buffer) × Keeps (g.T.Read.remaining l.initial.stream) (g.T.Read.remaining l.stream)
