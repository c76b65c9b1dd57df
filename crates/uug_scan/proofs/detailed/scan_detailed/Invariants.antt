use Rattle.std.proofs.Common.{◌≡◌, ◌+◌, ◌*◌, ◌≤◌, [], length, string_bytes}
use Rattle.uug_packet.specs.Waits.{Waits}
use Rattle.uug_scan.specs.declared.scan.TheConstants.{PIECE_SIZE}
use Rattle.uug_scan.specs.Code.Noise.{Holds, end_of}
use Rattle.uug_scan.proofs.DetailedLemmas.{Progress}
use Rattle.uug_scan.proofs.detailed.scan_detailed.Given as goal

abbrev pub invariant-loop : goal.invariant-loop
invariant-loop g l = record {
  progress : Progress l.counter (g.I.Input.to_come l.fn.input) (g.I.Input.to_come l.input) l.held.items l.noise
      (g.O.Output.written l.fn.output) (g.O.Output.written l.output);
  waits : Waits l.held.items;
  empty : string_bytes l.lines ≡ [];
  holds : Holds l.noise;
  places : end_of l.noise + length l.held.items ≤ l.counter * PIECE_SIZE;
  input_calm : g.I.Input.fault_count l.input ≡ g.I.Input.fault_count l.fn.input;
  output_calm : g.O.Output.fault_count l.output ≡ g.O.Output.fault_count l.fn.output;
}
