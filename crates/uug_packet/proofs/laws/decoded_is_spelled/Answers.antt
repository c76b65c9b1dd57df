use Rattle.uug_packet.proofs.BrokenLemmas.{damage_of_broken, broken_of_damage}
use Rattle.uug_packet.proofs.DecodeLemmas.{Waits-decoded, decoded-Waits}
use Rattle.uug_packet.proofs.DecodedLemmas.{decoded-spelling, spelling-decoded}
use Rattle.uug_packet.proofs.laws.decoded_is_spelled.Goals as goal

pub returns : goal.returns
returns c = record {
  read = decoded-spelling;
  spelled = λ s p n bytes e. let read = spelling-decoded s p n bytes e in (read.spelled, read.long);
  waits = decoded-Waits;
  short = Waits-decoded;
  broken = damage_of_broken;
  damage = broken_of_damage;
}
