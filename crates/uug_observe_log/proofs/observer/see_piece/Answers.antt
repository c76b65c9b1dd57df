use Rattle.std.proofs.Common.{rules, refl, ◌++◌}
use Rattle.uug_reader.specs.declared.reader.TheConstants.{READER_SIZE}
use Rattle.uug_observe_log.proofs.CountLemmas.{counts_append, counts_taken}
use Rattle.uug_observe_log.proofs.observer.see_piece.Goals as goal

pub loop-rest-init : goal.loop-rest-init
loop-rest-init g c = record {
  counts = counts_append c.args.stream.now.reader.bytes c.take_found.new.stream.reader.bytes c.args.piece.now c.args.stream.now.passed c.take_found.new.stream.passed c.take_found.ensures.counts;
  waits = c.take_found.ensures.waits;
  room = c.take_found.ensures.room;
}

pub loop-rest-preserved : goal.loop-rest-preserved
loop-rest-preserved g c =
    let taken = counts_taken c.push-count.result READER_SIZE (c.args.stream.now.reader.bytes ++ c.args.piece.now) c.loop-rest.stream.reader.bytes c.loop-rest.rest.now c.push-count.new.self.bytes _ c.take_found-in-loop-rest.new.stream.reader.bytes c.args.stream.now.passed c.loop-rest.stream.passed c.take_found-in-loop-rest.new.stream.passed
    c.loop-rest.invariant.counts c.push-count.ensures.count c.loop-rest.invariant.room (search rules) c.push-count.ensures.bytes refl c.take_found-in-loop-rest.ensures.counts in
    record {
      counts = taken.added;
      waits = c.take_found-in-loop-rest.ensures.waits;
      room = c.take_found-in-loop-rest.ensures.room;
    }
