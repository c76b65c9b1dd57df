use Rattle.uug_store.proofs.JobsTextLemmas.{written_are_read}
use Rattle.uug_store.proofs.laws.written_jobs_are_read.Goals as goal

pub returns : goal.returns
returns c = written_are_read
