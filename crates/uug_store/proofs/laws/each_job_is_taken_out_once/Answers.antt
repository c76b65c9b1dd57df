use Rattle.uug_store.proofs.OpenJobsLemmas.{times_left}
use Rattle.uug_store.proofs.laws.each_job_is_taken_out_once.Goals as goal

pub returns : goal.returns
returns c = times_left
