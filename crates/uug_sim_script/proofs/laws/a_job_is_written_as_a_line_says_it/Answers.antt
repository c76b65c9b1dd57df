use Rattle.uug_sim_script.proofs.JobLemmas.{says_job}
use Rattle.uug_sim_script.proofs.laws.a_job_is_written_as_a_line_says_it.Goals as goal

pub returns : goal.returns
returns c = says_job
