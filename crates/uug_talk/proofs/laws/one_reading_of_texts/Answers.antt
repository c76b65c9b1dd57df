use Rattle.uug_talk.proofs.StreamTextLemmas.{reads, reads_only}
use Rattle.uug_talk.proofs.laws.one_reading_of_texts.Goals as goal

pub returns-clause-some : goal.returns-clause-some
returns-clause-some c = reads

pub returns-clause-only : goal.returns-clause-only
returns-clause-only c = reads_only
