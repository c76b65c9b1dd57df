use Rattle.std.proofs.Common.{All, take}
use Rattle.uug_line.specs.OfBytes.{IsOfBytes}
use Rattle.uug_line.proofs.soundness.look_at_events.Given as goal

abbrev pub invariant-loop-event : goal.invariant-loop-event
invariant-loop-event l = All IsOfBytes (take l.event-index l.events)
