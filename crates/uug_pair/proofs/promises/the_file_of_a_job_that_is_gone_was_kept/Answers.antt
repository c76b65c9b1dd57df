use Rattle.uug_pair.proofs.GoneLemmas.{gone_was_kept}
use Rattle.uug_pair.proofs.promises.the_file_of_a_job_that_is_gone_was_kept.Goals as goal

pub returns : goal.returns
returns c ends order kept nodes sound none have side job fresh gone =
    gone_was_kept ends order kept nodes sound none have side job fresh gone
