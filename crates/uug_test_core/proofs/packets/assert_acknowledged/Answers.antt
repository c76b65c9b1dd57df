use Rattle.std.proofs.Common.{take, arith}
use Rattle.std.proofs.lemmas.List.{length-take}
use Rattle.uug_test_core.proofs.packets.assert_acknowledged.Goals as goal

pub re_ack-requires : goal.re_ack-requires
re_ack-requires g c = record {
  seq = c.number.result.value;
  ack = c.number-2.result.value;
  k = 1;
  message = take c.min.result c.args.message.now;
  well_formed = (c.number.result.below, c.number-2.result.below, ((omega arith, omega arith), grind (arith, length-take)));
  is = c.encode.ensures.canonical;
}
