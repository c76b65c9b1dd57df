use Rattle.uug_session.proofs.LineEventLemmas.{heard_leads}
use Rattle.uug_session.proofs.event_laws.what_is_heard_happens.Goals as goal

pub returns : goal.returns
returns c h kept kept_after es emitted before after heard =
    heard_leads h kept kept_after es emitted before after heard
