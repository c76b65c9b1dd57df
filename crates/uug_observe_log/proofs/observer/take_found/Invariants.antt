use Rattle.std.proofs.Common.{length}
use Rattle.uug_observe_log.specs.Losses.{AddsCounts}
use Rattle.uug_observe_log.proofs.observer.take_found.Given as goal

abbrev pub invariant-loop-way : goal.invariant-loop-way
invariant-loop-way g l = AddsCounts l.fn.stream.reader.bytes l.stream.reader.bytes l.fn.stream.passed l.stream.passed

abbrev pub decreases-loop-way : goal.decreases-loop-way
decreases-loop-way g l = length l.stream.reader.bytes
