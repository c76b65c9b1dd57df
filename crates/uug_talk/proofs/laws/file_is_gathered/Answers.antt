use Rattle.uug_talk.proofs.GathersBackLemmas.{file_back}
use Rattle.uug_talk.proofs.laws.file_is_gathered.Goals as goal

pub returns : goal.returns
returns c = file_back
