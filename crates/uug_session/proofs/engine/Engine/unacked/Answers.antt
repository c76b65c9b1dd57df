use Rattle.std.proofs.Common.{sym, subst, ◌∙◌}
use Rattle.uug_link.specs.Announced.{announced}
use Rattle.uug_session.specs.Engine.{EngineState, IsHailing, stage_of}
use Rattle.uug_session.proofs.Greetings.BeginningLemmas.{none_in_greeting}
use Rattle.uug_session.proofs.engine.Engine.unacked.Goals as goal

pub returns-clause-greeting : goal.returns-clause-greeting
returns-clause-greeting g c =
    let i = c.self.inside in
    λ hails. c.unacked.ensures.count
    ∙ none_in_greeting (stage_of i.stage) (record { side = i.side; me = i.place.me; peer = i.place.peer })
    (announced i.place.announce) i.link i.dialogue c.self.invariant
    (subst (λ (x : EngineState). IsHailing x.stage) (sym c.self.view_is) hails)
