use Rattle.std.proofs.Common.{ap, sym, ◌∙◌}
use Rattle.uug_link.specs.Step.{step, timed_out}
use Rattle.uug_session.specs.Engine.{EngineState}
use Rattle.uug_session.proofs.TimeoutLemmas.{nothing_emitted}
use Rattle.uug_session.proofs.engine.Engine.late.Goals as goal

pub stay_silent-requires-clause-silent : goal.stay_silent-requires-clause-silent
stay_silent-requires-clause-silent g c =
    ap (λ (x : EngineState). (step x.link timed_out).emitted) (sym c.self.view_is)
    ∙ nothing_emitted (step c.self.inside.link timed_out).emitted c.speaks_when_late.result c.if-speaks_when_late.false c.speaks_when_late.ensures
