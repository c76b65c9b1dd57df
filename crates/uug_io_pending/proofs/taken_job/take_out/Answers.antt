use Rattle.uug_io_pending.proofs.CancelLemmas.{settled_untold}
use Rattle.uug_io_pending.proofs.taken_job.take_out.Goals as goal

pub returns-in-Some-clause-untold : goal.returns-in-Some-clause-untold
returns-in-Some-clause-untold g c = settled_untold c.settle.result _ _ _ _ _ c.settle.ensures.told c.settle.ensures.err
