use Rattle.std.proofs.Common.{◌<◌, ◌++◌, length}
use Rattle.uug_packet.specs.Waits.{Waits}
use Rattle.uug_reader.specs.declared.reader.TheConstants.{READER_SIZE}
use Rattle.uug_observe_log.specs.Losses.{AddsCounts}
use Rattle.uug_observe_log.proofs.observer.see_piece.Given as goal

abbrev pub invariant-loop-rest : goal.invariant-loop-rest
invariant-loop-rest g l = record {
  counts : AddsCounts (l.fn.stream.reader.bytes ++ l.piece) (l.stream.reader.bytes ++ l.rest) l.fn.stream.passed l.stream.passed;
  waits : Waits l.stream.reader.bytes;
  room : length l.stream.reader.bytes < READER_SIZE;
}

abbrev pub decreases-loop-rest : goal.decreases-loop-rest
decreases-loop-rest g l = length l.rest
