use Rattle.std.proofs.Common.{[], refl}
use Rattle.uug_reader.proofs.ScanLemmas.{Finds-none}
use Rattle.uug_observe_log.proofs.CountLemmas.{counts_shown, counts_ended}
use Rattle.uug_observe_log.proofs.observer.take_found.Goals as goal

pub loop-way-init : goal.loop-way-init
loop-way-init g c = ([], Finds-none c.args.stream.now.reader.bytes, refl)

pub loop-way-smaller : goal.loop-way-smaller
loop-way-smaller g c =
    (counts_shown c.args.stream.now.reader.bytes c.loop-way.stream.reader.bytes c.drop_found.new.self.bytes c.search.new.self c.take_shown.new.stream.reader c.args.stream.now.passed c.loop-way.stream.passed c.take_shown.new.stream.passed
    c.loop-way.invariant c.search.ensures.passes c.take_shown.ensures.reader c.take_shown.ensures.passed c.drop_found.ensures.bytes).fewer

pub loop-way-preserved : goal.loop-way-preserved
loop-way-preserved g c =
    (counts_shown c.args.stream.now.reader.bytes c.loop-way.stream.reader.bytes c.drop_found.new.self.bytes c.search.new.self c.take_shown.new.stream.reader c.args.stream.now.passed c.loop-way.stream.passed c.take_shown.new.stream.passed
    c.loop-way.invariant c.search.ensures.passes c.take_shown.ensures.reader c.take_shown.ensures.passed c.drop_found.ensures.bytes).added

pub returns-clause-counts : goal.returns-clause-counts
returns-clause-counts g c =
    counts_ended c.args.stream.now.reader.bytes c.loop-way.stream.reader.bytes c.search.new.self.bytes c.args.stream.now.passed c.loop-way.stream.passed
    c.loop-way.invariant c.search.ensures.passes
