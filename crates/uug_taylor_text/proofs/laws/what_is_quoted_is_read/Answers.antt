use Rattle.uug_taylor_text.proofs.QuotingLemmas.{quoted_is_read, quoted_is_well}
use Rattle.uug_taylor_text.proofs.laws.what_is_quoted_is_read.Goals as goal

pub returns-clause-well : goal.returns-clause-well
returns-clause-well c = quoted_is_well

pub returns-clause-name : goal.returns-clause-name
returns-clause-name c = quoted_is_read
