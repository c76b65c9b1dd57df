use Rattle.uug_packet.proofs.DecodedLemmas.{same_spelling}
use Rattle.uug_packet.proofs.laws.one_spelling.Goals as goal

pub returns : goal.returns
returns c = same_spelling
