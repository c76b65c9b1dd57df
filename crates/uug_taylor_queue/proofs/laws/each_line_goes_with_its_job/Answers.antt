use Rattle.uug_taylor_queue.proofs.OpenLinesLemmas.{jobs_after}
use Rattle.uug_taylor_queue.proofs.laws.each_line_goes_with_its_job.Goals as goal

pub returns : goal.returns
returns c = jobs_after
