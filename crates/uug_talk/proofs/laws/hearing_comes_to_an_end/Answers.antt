use Rattle.uug_talk.proofs.StreamTextLemmas.{comes_to_an_end}
use Rattle.uug_talk.proofs.laws.hearing_comes_to_an_end.Goals as goal

pub returns : goal.returns
returns c = comes_to_an_end
