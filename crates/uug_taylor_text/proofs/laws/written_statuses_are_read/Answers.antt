use Rattle.uug_taylor_text.proofs.StatusLemmas.{written_is_read}
use Rattle.uug_taylor_text.proofs.laws.written_statuses_are_read.Goals as goal

pub returns : goal.returns
returns c = written_is_read
