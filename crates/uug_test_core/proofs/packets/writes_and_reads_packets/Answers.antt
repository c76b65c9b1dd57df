use Rattle.std.proofs.Common.{[], ◌∙◌, arith}
use Rattle.uug_packet.specs.Packet.{carry}
use Rattle.uug_test_core.proofs.packets.writes_and_reads_packets.Goals as goal

pub is_written-requires-clause-bytes : goal.is_written-requires-clause-bytes
is_written-requires-clause-bytes g c = record {
  packet = carry c.number.result.value c.number-2.result.value 1 [];
  well_formed = (c.number.result.below, c.number-2.result.below, ((omega arith, omega arith), omega arith));
  is = c.as_slice-3.ensures.value ∙ c.encode.ensures.canonical;
}
