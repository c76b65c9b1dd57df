use Rattle.std.proofs.Common.{◌∙◌}
use Rattle.uug_transfer.proofs.OutgoingLemmas.{one_more, one_more_counted}
use Rattle.uug_transfer.proofs.outgoing.add_all.Goals as goal

pub loop-i-preserved : goal.loop-i-preserved
loop-i-preserved g c = record {
  bytes = one_more _ _ _ _ _ _ c.loop-i.i c.args.outbox.now.entries _ c.loop-i.outgoing.items _ c.entry.ensures
      c.add_entry.ensures.drop_every c.add_entry.ensures.flip_every c.add_entry.ensures.count c.in_ok-add_entry.ensures.bytes
      ∙ c.loop-i.invariant.bytes;
  count = one_more_counted _ _ c.loop-i.i c.args.outbox.now.entries _ c.entry.ensures c.add_entry.ensures.count ∙ c.loop-i.invariant.count;
  drop_every = c.add_entry.ensures.drop_every ∙ c.loop-i.invariant.drop_every;
  flip_every = c.add_entry.ensures.flip_every ∙ c.loop-i.invariant.flip_every;
  thinning = c.add_entry.ensures.thinning ∙ c.loop-i.invariant.thinning;
}
