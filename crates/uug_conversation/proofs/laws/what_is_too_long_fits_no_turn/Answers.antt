use Rattle.uug_conversation.proofs.LimitLemmas.{past_limit}
use Rattle.uug_conversation.proofs.laws.what_is_too_long_fits_no_turn.Goals as goal

pub returns : goal.returns
returns c = past_limit
