use Rattle.std.proofs.Common.{false, ◌++◌, map, [], subst, ap, ◌∙◌, refl, Ok}
use Rattle.uug_link.specs.declared.outcome.Outcome.{Outcome}
use Rattle.uug_link.specs.Follows.{Follows, answered, written}
use Rattle.uug_link.specs.Step.{Effect, step, bad_found, nothing}
use Rattle.uug_session.specs.EndStep.{bad_came}
use Rattle.uug_session.specs.Engine.{Does, EngineState, end_of}
use Rattle.uug_conversation.specs.DialogueState.{end_keeper}
use Rattle.uug_conversation.specs.DialogueValue.{dialogue_of}
use Rattle.uug_session.proofs.EngineLemmas.{by_outcome, goes_on_does, shown_by}
use Rattle.uug_session.proofs.ResultLemmas.{err_says_nothing}
use Rattle.uug_session.proofs.engine.Engine.on_bad.Goals as goal

pub returns-in-Ok-Nothing-clause-ok : goal.returns-in-Ok-Nothing-clause-ok
returns-in-Ok-Nothing-clause-ok g c =
    let h = g.S.Spool.holdings c.args.spool.now in
    let kept = g.S.Spool.kept c.args.spool.now in
    let i = c.self.inside in
    let b = shown_by c.self.view_is in
    let m : EngineState = record b { link = c.on_bad.new.self; outbox = c.on_bad.new.out } in
    let e : Effect = step i.link bad_found in
    let told = subst (λ (o : Outcome). Follows e i.link c.on_bad.new.self c.reserve.new.self c.on_bad.new.out (answered (Ok o)))
    c.in-Ok-Nothing.field-0-is c.in-Ok-Nothing.ensures in
    let after = c.speak.new.self in
    subst (λ (x : EngineState). Does (bad_came x.number (end_keeper x.identity.side h) x.identity x.link (dialogue_of h kept x.dialogue))
    (end_of h kept after) x after) c.self.view_is
    (by_outcome (end_keeper b.identity.side h) b.identity false nothing e [] (dialogue_of h kept b.dialogue) (end_of h kept after) b after told.outcome
    (goes_on_does h kept false e b m after told.state (told.emitted ∙ ap (λ x. x ++ map written e.emitted) c.reserve.ensures.entries)
    (ap (λ (x : EngineState). x.stage) c.self.view_is ∙ c.requires.linked) refl refl refl c.speak.ensures.spoken c.speak.ensures.still))

pub invariant_of-self : goal.invariant_of-self
invariant_of-self g c = c.self.invariant

pub returns-in-Err-Halted-clause-err : goal.returns-in-Err-Halted-clause-err
returns-in-Err-Halted-clause-err g c = tt

pub returns-in_err-reserve-clause-ok : goal.returns-in_err-reserve-clause-ok
returns-in_err-reserve-clause-ok g c = err_says_nothing _ c.from_residual.result c.from_residual.ensures.0

pub returns-in_err-reserve-clause-says : goal.returns-in_err-reserve-clause-says
returns-in_err-reserve-clause-says g c = err_says_nothing _ c.from_residual.result c.from_residual.ensures.0

pub returns-in-Ok-Nothing-clause-says : goal.returns-in-Ok-Nothing-clause-says
returns-in-Ok-Nothing-clause-says g c = c.speak.ensures.says

pub returns-in-Err-Halted-clause-says : goal.returns-in-Err-Halted-clause-says
returns-in-Err-Halted-clause-says g c = c.speak-in-Err-Halted.ensures.says

pub returns-in-Ok-Nothing-clause-err : goal.returns-in-Ok-Nothing-clause-err
returns-in-Ok-Nothing-clause-err g c = tt
