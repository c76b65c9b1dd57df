use Rattle.uug_session.proofs.NodeRunLemmas.{calls_lead}
use Rattle.uug_session.proofs.event_laws.calls_are_events.Goals as goal

pub returns : goal.returns
returns c h most calls added old new made =
    calls_lead h most calls added old new made
