use Rattle.std.proofs.Common.{ap}
use Rattle.uug_session.specs.Engine.{EngineState, end_of}
use Rattle.uug_session.proofs.NodeRunLemmas.{led_by_none, led_on}
use Rattle.uug_session.proofs.event_laws.events_follow_events.Goals as goal

pub returns-clause-later : goal.returns-clause-later
returns-clause-later c h kept kept_between kept_after before between after first second =
    led_on h kept kept_between kept_after before between after first second

pub returns-clause-cleared : goal.returns-clause-cleared
returns-clause-cleared c h kept before after is =
    led_by_none h kept kept before after (ap (λ (e : EngineState). end_of h kept e) is) (ap (λ (e : EngineState). e.identity) is)

pub returns-clause-runs : goal.returns-clause-runs
returns-clause-runs c side b kept first now begun led =
    record { first = first; begun = begun; led = led }
