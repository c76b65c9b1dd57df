use Rattle.std.proofs.Common.{◌≡◌, ℕ, List, ◌++◌, length}
use Rattle.uug_stream.specs.Streams.{Appends}
use Rattle.uug_stream.proofs.output.write_all.Given as goal

-- the front of the piece was appended
abbrev pub invariant-loop-rest : goal.invariant-loop-rest
invariant-loop-rest g l = record {
  front : List ℕ;
  split : l.piece ≡ front ++ l.rest;
  appended : Appends front (g.O.Output.written l.fn.output) (g.O.Output.written l.output);
  calm : g.O.Output.fault_count l.output ≡ g.O.Output.fault_count l.fn.output;
}

abbrev pub decreases-loop-rest : goal.decreases-loop-rest
decreases-loop-rest g l = length l.rest
