use Rattle.uug_line.proofs.World.RightPacketLemmas.{ends_bytes, world_bytes}
use Rattle.uug_line.proofs.world_laws.what_comes_is_bytes.Goals as goal

pub returns : goal.returns
returns c = record {
  ends = λ setup events side sound of_bytes are. ends_bytes setup of_bytes sound events are side;
  world = λ setup events side sound of_bytes are. world_bytes setup of_bytes sound events are side;
}
