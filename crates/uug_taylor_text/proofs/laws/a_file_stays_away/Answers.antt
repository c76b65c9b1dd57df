use Rattle.uug_taylor_text.proofs.StoredSafelyLemmas.{a_file_stays_away}
use Rattle.uug_taylor_text.proofs.laws.a_file_stays_away.Goals as goal

pub returns : goal.returns
returns c = a_file_stays_away
