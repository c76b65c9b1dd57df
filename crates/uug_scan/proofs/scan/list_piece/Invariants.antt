use Rattle.std.proofs.Common.{◌<◌, ◌++◌, length, string_bytes}
use Rattle.uug_packet.specs.Waits.{Waits}
use Rattle.uug_reader.specs.declared.reader.TheConstants.{READER_SIZE}
use Rattle.uug_scan.specs.Scan.{AddsLines}
use Rattle.uug_scan.proofs.scan.list_piece.Given as goal

abbrev pub invariant-loop-rest : goal.invariant-loop-rest
invariant-loop-rest g l = record {
  added : AddsLines (l.fn.reader.bytes ++ l.piece) (l.reader.bytes ++ l.rest) (string_bytes l.fn.lines) (string_bytes l.lines);
  waits : Waits l.reader.bytes;
  room : length l.reader.bytes < READER_SIZE;
}

abbrev pub decreases-loop-rest : goal.decreases-loop-rest
decreases-loop-rest g l = length l.rest
