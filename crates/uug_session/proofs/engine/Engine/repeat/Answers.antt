use Rattle.std.proofs.Common.{◌++◌, map, subst, ap, ◌∙◌, refl, Ok}
use Rattle.uug_link.specs.declared.outcome.Outcome.{Outcome}
use Rattle.uug_link.specs.Follows.{Follows, answered, written}
use Rattle.uug_link.specs.Step.{Effect, step, timed_out, nothing}
use Rattle.uug_session.specs.EndStep.{late}
use Rattle.uug_session.specs.Engine.{Does, EngineState, bare}
use Rattle.uug_conversation.specs.DialogueValue.{dialogue_has_parted}
use Rattle.uug_session.proofs.EngineLemmas.{late_by, quiet_does, shown_by}
use Rattle.uug_session.proofs.ResultLemmas.{err_says_nothing}
use Rattle.uug_session.proofs.engine.Engine.repeat.Goals as goal

pub returns-in-Ok-Nothing-clause-ok : goal.returns-in-Ok-Nothing-clause-ok
returns-in-Ok-Nothing-clause-ok g c =
    let i = c.self.inside in
    let b = shown_by c.self.view_is in
    let m : EngineState = record b { link = c.on_timeout.new.self; outbox = c.on_timeout.new.out } in
    let e : Effect = step i.link timed_out in
    let told = subst (λ (o : Outcome). Follows e i.link c.on_timeout.new.self c.reserve.new.self c.on_timeout.new.out (answered (Ok o)))
    c.in-Ok-Nothing.field-0-is c.in-Ok-Nothing.ensures in
    subst (λ (x : EngineState). Does (late x.number x.identity (dialogue_has_parted x.dialogue) x.link x.dialogue) (bare m) x m) c.self.view_is
    (late_by b.identity (dialogue_has_parted b.dialogue) nothing e b.dialogue (bare m) b m told.outcome
    (quiet_does e b.dialogue b m (ap (λ (x : EngineState). x.stage) c.self.view_is ∙ c.requires.linked) told.state (told.emitted ∙ ap (λ x. x ++ map written e.emitted) c.reserve.ensures.entries) refl refl refl))

pub returns-in-Err-GaveUp-clause-err : goal.returns-in-Err-GaveUp-clause-err
returns-in-Err-GaveUp-clause-err g c = tt

pub invariant_of-self : goal.invariant_of-self
invariant_of-self g c = c.self.invariant

pub returns-in_err-reserve-clause-ok : goal.returns-in_err-reserve-clause-ok
returns-in_err-reserve-clause-ok g c = err_says_nothing _ c.from_residual.result c.from_residual.ensures.0

pub returns-in-Err-Halted-clause-err : goal.returns-in-Err-Halted-clause-err
returns-in-Err-Halted-clause-err g c = tt

pub returns-in-Ok-Nothing-clause-err : goal.returns-in-Ok-Nothing-clause-err
returns-in-Ok-Nothing-clause-err g c = tt
