use Rattle.uug_store.proofs.QueuedLemmas.{queued_is_read}
use Rattle.uug_store.proofs.laws.what_is_queued_is_read.Goals as goal

pub returns : goal.returns
returns c = queued_is_read
