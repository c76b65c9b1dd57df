use Rattle.std.proofs.Common.{◌≡◌, ℕ, Bool, List, Option, ◌++◌, map, arith, subst, ap, ◌∙◌, refl}
use Rattle.uug_link.specs.Entries.{EntryValue}
use Rattle.uug_session.specs.declared.greeting.Greeted.{Greeted}
use Rattle.uug_session.specs.EndStep.{behind_greeting, greeted_so, says_text}
use Rattle.uug_session.specs.Engine.{Does, EngineState, bare}
use Rattle.uug_session.specs.Greeting.{GreetingStep, number_by, text_came}
use Rattle.uug_session.specs.Says.{entry_of_text}
use Rattle.uug_session.proofs.EngineLemmas.{greeted_does, shown_by}
use Rattle.uug_session.proofs.ResultLemmas.{err_says_nothing}
use Rattle.uug_session.proofs.SaidTextsLemmas.{says_few}
use Rattle.uug_session.proofs.engine.Engine.on_text.Goals as goal

pub returns-clause-ok : goal.returns-clause-ok
returns-clause-ok g c =
    let i = c.self.inside in
    let b = shown_by c.self.view_is in
    let m : EngineState = record b { outbox = c.on_text.new.out; number = c.number_behind-self-inside.result } in
    let after = c.lead_to.new.self in
    let came : GreetingStep = text_came i.place.me i.place.peer i.place.number c.args.greeting c.args.text.now in
    let risen_so : m.number ≡ number_by came.rises b.number =
    c.number_behind-self-inside.ensures ∙ ap (λ (x : Bool). number_by x i.place.number) c.in_ok-led.ensures.rises in
    subst (λ (x : EngineState). Does (behind_greeting x.number x.identity (text_came x.identity.me x.identity.peer x.number c.args.greeting c.args.text.now) x.link x.dialogue)
    (bare after) x after) c.self.view_is
    (subst (λ (x : Greeted). Does (greeted_so (number_by came.rises b.number) b.identity x (map says_text came.says) i.link i.dialogue) (bare after) b after) c.in_ok-led.ensures.greeted
    (subst (λ (x : Option ℕ). Does (greeted_so x b.identity c.in_ok-led.led.greeted (map says_text came.says) i.link i.dialogue) (bare after) b after) risen_so
    (greeted_does b.identity c.in_ok-led.led.greeted came.says i.link i.dialogue (bare after) b m after
    (c.in_ok-led.ensures.says.added ∙ ap (λ (x : List EntryValue). x ++ map entry_of_text came.says) c.reserve.ensures.entries)
    refl refl c.lead_to.ensures.does)))

pub invariant_of-self : goal.invariant_of-self
invariant_of-self g c = c.self.invariant

pub invariant_of-self-in_err-led : goal.invariant_of-self-in_err-led
invariant_of-self-in_err-led g c = c.self.invariant

pub invariant_of-self-2 : goal.invariant_of-self-2
invariant_of-self-2 g c = c.self.invariant

pub returns-clause-err : goal.returns-clause-err
returns-clause-err g c = tt

pub returns-in_err-reserve-clause-ok : goal.returns-in_err-reserve-clause-ok
returns-in_err-reserve-clause-ok g c = err_says_nothing _ c.from_residual.result c.from_residual.ensures.0

pub returns-in_err-reserve-clause-says : goal.returns-in_err-reserve-clause-says
returns-in_err-reserve-clause-says g c = err_says_nothing _ c.from_residual.result c.from_residual.ensures.0

pub returns-in_err-led-clause-ok : goal.returns-in_err-led-clause-ok
returns-in_err-led-clause-ok g c = err_says_nothing _ c.from_residual-in_err-led.result c.from_residual-in_err-led.ensures.0

pub returns-in_err-led-clause-says : goal.returns-in_err-led-clause-says
returns-in_err-led-clause-says g c = err_says_nothing _ c.from_residual-in_err-led.result c.from_residual-in_err-led.ensures.0

pub returns-clause-says : goal.returns-clause-says
returns-clause-says g c = c.lead_to.ensures.says

pub lead_to-requires-clause-spare : goal.lead_to-requires-clause-spare
lead_to-requires-clause-spare g c =
    let i = c.self.inside in
    λ begins. omega (
      arith,
      c.reserve.ensures,
      c.in_ok-reserve.ensures,
      c.in_ok-led.ensures.says.spare,
      says_few i.place.me i.place.peer i.place.number c.args.greeting c.args.text.now,
    )
