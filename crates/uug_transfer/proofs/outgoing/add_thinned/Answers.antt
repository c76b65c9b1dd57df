use Rattle.std.proofs.Common.{◌∙◌, arith}
use Rattle.uug_transfer.proofs.WaitingLemmas.{skip_counts, skip_goes, step_counts, step_goes}
use Rattle.uug_transfer.proofs.outgoing.add_thinned.Goals as goal

pub loop-i-preserved-then-is_left_out : goal.loop-i-preserved-then-is_left_out
loop-i-preserved-then-is_left_out g c = record {
  bytes = skip_goes _ _ _ _ c.loop-i.i c.args.outbox.now.entries c.loop-i.outgoing.items _
      (omega (arith, c.loop-i-test.true, c.len-i-end.ensures)) c.is_left_out.ensures c.if-is_left_out.true ∙ c.loop-i.invariant.bytes;
  count = skip_counts _ _ c.loop-i.i c.args.outbox.now.entries _ (omega (arith, c.loop-i-test.true, c.len-i-end.ensures))
      c.is_left_out.ensures c.if-is_left_out.true ∙ c.loop-i.invariant.count;
  drop_every = c.loop-i.invariant.drop_every;
  flip_every = c.loop-i.invariant.flip_every;
  thinning = c.loop-i.invariant.thinning;
}

pub loop-i-preserved : goal.loop-i-preserved
loop-i-preserved g c = record {
  bytes = step_goes _ _ _ _ _ _ _ _ c.loop-i.i c.args.outbox.now.entries _ c.loop-i.outgoing.items _ c.entry.ensures _
      c.is_left_out.ensures c.if-is_left_out.false c.add_entry.ensures.thinning c.add_entry.ensures.drop_every
      c.add_entry.ensures.flip_every c.add_entry.ensures.count c.in_ok-add_entry.ensures.bytes ∙ c.loop-i.invariant.bytes;
  count = step_counts _ _ _ _ c.loop-i.i c.args.outbox.now.entries _ c.entry.ensures _ c.is_left_out.ensures c.if-is_left_out.false
      c.add_entry.ensures.thinning c.add_entry.ensures.count ∙ c.loop-i.invariant.count;
  drop_every = c.add_entry.ensures.drop_every ∙ c.loop-i.invariant.drop_every;
  flip_every = c.add_entry.ensures.flip_every ∙ c.loop-i.invariant.flip_every;
  thinning = c.add_entry.ensures.thinning ∙ c.loop-i.invariant.thinning;
}
