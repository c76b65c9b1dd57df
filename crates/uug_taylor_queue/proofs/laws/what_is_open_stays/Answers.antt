use Rattle.uug_taylor_queue.proofs.StopLemmas.{copy_stays, file_stays}
use Rattle.uug_taylor_queue.proofs.laws.what_is_open_stays.Goals as goal

pub returns-clause-copies : goal.returns-clause-copies
returns-clause-copies c = copy_stays

pub returns-clause-files : goal.returns-clause-files
returns-clause-files c = file_stays
