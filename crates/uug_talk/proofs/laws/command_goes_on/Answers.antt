use Rattle.uug_talk.proofs.ChunkLemmas.{command_more_at, command_last_at, command_text_at}
use Rattle.uug_talk.proofs.laws.command_goes_on.Goals as goal

pub returns-clause-more : goal.returns-clause-more
returns-clause-more c = command_more_at

pub returns-clause-last : goal.returns-clause-last
returns-clause-last c = command_last_at

pub returns-clause-left : goal.returns-clause-left
returns-clause-left c = command_text_at
