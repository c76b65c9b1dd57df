use Rattle.std.proofs.Common.{◌≡◌, ◌<◌, [], length, string_bytes}
use Rattle.uug_packet.specs.Waits.{Waits}
use Rattle.uug_reader.specs.declared.reader.TheConstants.{READER_SIZE}
use Rattle.uug_scan.proofs.ScanLemmas.{Progress}
use Rattle.uug_scan.proofs.scan.scan_within.Given as goal

abbrev pub invariant-loop : goal.invariant-loop
invariant-loop g l = record {
  progress : Progress l.counter (g.I.Input.to_come l.fn.input) (g.I.Input.to_come l.input) l.reader.bytes
      (g.O.Output.written l.fn.output) (g.O.Output.written l.output);
  waits : Waits l.reader.bytes;
  room : length l.reader.bytes < READER_SIZE;
  empty : string_bytes l.lines ≡ [];
  input_calm : g.I.Input.fault_count l.input ≡ g.I.Input.fault_count l.fn.input;
  output_calm : g.O.Output.fault_count l.output ≡ g.O.Output.fault_count l.fn.output;
}
