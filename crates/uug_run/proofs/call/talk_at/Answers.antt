use Rattle.uug_run.proofs.AnsweredLemmas.{one_answered}
use Rattle.uug_run.proofs.call.talk_at.Goals as goal

pub returns-in-Standard-default : goal.returns-in-Standard-default
returns-in-Standard-default g c = one_answered _ _ _ _ _ _ _ c.talk_over-outcome.ensures

pub returns-in-Device-default : goal.returns-in-Device-default
returns-in-Device-default g c = one_answered _ _ _ _ _ _ _ c.talk_at_device.ensures
