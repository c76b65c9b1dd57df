use Rattle.uug_talk.proofs.GathersBackLemmas.{command_back}
use Rattle.uug_talk.proofs.laws.command_is_gathered.Goals as goal

pub returns : goal.returns
returns c = command_back
