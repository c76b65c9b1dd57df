use Rattle.uug_store.proofs.OpenJobsLemmas.{queue_stands}
use Rattle.uug_store.proofs.laws.the_jobs_that_were_read_stand_there.Goals as goal

pub returns : goal.returns
returns c = queue_stands
