use Rattle.std.proofs.Common.{rules, refl, ◌++◌}
use Rattle.uug_reader.specs.declared.reader.TheConstants.{READER_SIZE}
use Rattle.uug_scan.proofs.ScanLemmas.{adds_taken}
use Rattle.uug_scan.proofs.scan.list_piece.Goals as goal

pub loop-rest-preserved : goal.loop-rest-preserved
loop-rest-preserved g c =
    let taken = adds_taken c.push-taken.result READER_SIZE (c.args.reader.now.bytes ++ c.args.piece.now) c.loop-rest.reader.bytes c.loop-rest.rest.now c.push-taken.new.self.bytes _ c.list_items.new.reader.bytes _ _ _
    c.loop-rest.invariant.added c.push-taken.ensures.count c.loop-rest.invariant.room (search rules) c.push-taken.ensures.bytes refl c.in_ok-list_items.ensures.lists in
    record {
      added = taken.added;
      waits = c.in_ok-list_items.ensures.waits;
      room = c.in_ok-list_items.ensures.room;
    }
