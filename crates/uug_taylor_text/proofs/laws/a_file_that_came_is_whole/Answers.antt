use Rattle.uug_taylor_text.proofs.StoredSafelyLemmas.{a_file_is_stored_safely}
use Rattle.uug_taylor_text.proofs.laws.a_file_that_came_is_whole.Goals as goal

pub returns : goal.returns
returns c = a_file_is_stored_safely
