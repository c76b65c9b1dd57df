use Rattle.uug_transfer.proofs.WaitingLemmas.{again_here, again_later}
use Rattle.uug_transfer.proofs.waiting.goes_out_again.Goals as goal

pub returns-then-is_sent_again : goal.returns-then-is_sent_again
returns-then-is_sent_again g c =
    again_here c.args.packet.now c.args.outbox.now.entries c.loop-place.place _ _ _ c.entry.ensures c.is_sent_again.ensures
    c.if-is_sent_again.true c.loop-place.invariant

pub loop-place-preserved : goal.loop-place-preserved
loop-place-preserved g c =
    again_later c.args.packet.now c.args.outbox.now.entries c.loop-place.place _ _ _ c.entry.ensures c.is_sent_again.ensures
    c.if-is_sent_again.false c.loop-place.invariant
