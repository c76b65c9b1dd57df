use Rattle.uug_talk.proofs.ChunkLemmas.{file_more_at, file_last_at}
use Rattle.uug_talk.proofs.laws.file_goes_on.Goals as goal

pub returns-clause-more : goal.returns-clause-more
returns-clause-more c = file_more_at

pub returns-clause-last : goal.returns-clause-last
returns-clause-last c = file_last_at
