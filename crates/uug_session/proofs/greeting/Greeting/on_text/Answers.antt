use Rattle.std.proofs.Common.{◌≡◌, IfOk, subst, sym}
use Rattle.uug_session.specs.declared.greeting.AwaitedText.{AwaitedText}
use Rattle.uug_session.specs.declared.greeting.Led.{Led}
use Rattle.uug_session.specs.Greeting.{came_for}
use Rattle.uug_session.proofs.greeting.Greeting.on_text.Goals as goal

pub returns-in-CalledName-clause-greeted : goal.returns-in-CalledName-clause-greeted
returns-in-CalledName-clause-greeted g c =
    let a = c.args in
    subst (λ (x : AwaitedText). IfOk c.on_called_name.result (λ (led : Led). led.greeted ≡ (came_for x a.place.now.me a.place.now.peer a.place.now.number a.self a.text.now).greeted))
    (sym c.in-CalledName.is) c.on_called_name.ensures.greeted

pub returns-in-CalledName-clause-rises : goal.returns-in-CalledName-clause-rises
returns-in-CalledName-clause-rises g c =
    let a = c.args in
    subst (λ (x : AwaitedText). IfOk c.on_called_name.result (λ (led : Led). led.rises ≡ (came_for x a.place.now.me a.place.now.peer a.place.now.number a.self a.text.now).rises))
    (sym c.in-CalledName.is) c.on_called_name.ensures.rises

pub returns-in-CallerName-clause-greeted : goal.returns-in-CallerName-clause-greeted
returns-in-CallerName-clause-greeted g c =
    let a = c.args in
    subst (λ (x : AwaitedText). IfOk c.on_caller_name.result (λ (led : Led). led.greeted ≡ (came_for x a.place.now.me a.place.now.peer a.place.now.number a.self a.text.now).greeted))
    (sym c.in-CallerName.is) c.on_caller_name.ensures.greeted

pub returns-in-CallerName-clause-rises : goal.returns-in-CallerName-clause-rises
returns-in-CallerName-clause-rises g c =
    let a = c.args in
    subst (λ (x : AwaitedText). IfOk c.on_caller_name.result (λ (led : Led). led.rises ≡ (came_for x a.place.now.me a.place.now.peer a.place.now.number a.self a.text.now).rises))
    (sym c.in-CallerName.is) c.on_caller_name.ensures.rises

pub returns-in-Protocols-clause-greeted : goal.returns-in-Protocols-clause-greeted
returns-in-Protocols-clause-greeted g c =
    let a = c.args in
    subst (λ (x : AwaitedText). IfOk c.on_protocols.result (λ (led : Led). led.greeted ≡ (came_for x a.place.now.me a.place.now.peer a.place.now.number a.self a.text.now).greeted))
    (sym c.in-Protocols.is) c.on_protocols.ensures.greeted

pub returns-in-Protocols-clause-rises : goal.returns-in-Protocols-clause-rises
returns-in-Protocols-clause-rises g c =
    let a = c.args in
    subst (λ (x : AwaitedText). IfOk c.on_protocols.result (λ (led : Led). led.rises ≡ (came_for x a.place.now.me a.place.now.peer a.place.now.number a.self a.text.now).rises))
    (sym c.in-Protocols.is) c.on_protocols.ensures.rises

pub returns-in-Admission-clause-greeted : goal.returns-in-Admission-clause-greeted
returns-in-Admission-clause-greeted g c =
    let a = c.args in
    subst (λ (x : AwaitedText). c.on_admission.result.greeted ≡ (came_for x a.place.now.me a.place.now.peer a.place.now.number a.self a.text.now).greeted)
    (sym c.in-Admission.is) c.on_admission.ensures.greeted

pub returns-in-Admission-clause-rises : goal.returns-in-Admission-clause-rises
returns-in-Admission-clause-rises g c =
    let a = c.args in
    subst (λ (x : AwaitedText). c.on_admission.result.rises ≡ (came_for x a.place.now.me a.place.now.peer a.place.now.number a.self a.text.now).rises)
    (sym c.in-Admission.is) c.on_admission.ensures.rises

pub returns-in-Choice-clause-greeted : goal.returns-in-Choice-clause-greeted
returns-in-Choice-clause-greeted g c =
    let a = c.args in
    subst (λ (x : AwaitedText). c.on_choice.result.greeted ≡ (came_for x a.place.now.me a.place.now.peer a.place.now.number a.self a.text.now).greeted)
    (sym c.in-Choice.is) c.on_choice.ensures.greeted

pub returns-in-Choice-clause-rises : goal.returns-in-Choice-clause-rises
returns-in-Choice-clause-rises g c =
    let a = c.args in
    subst (λ (x : AwaitedText). c.on_choice.result.rises ≡ (came_for x a.place.now.me a.place.now.peer a.place.now.number a.self a.text.now).rises)
    (sym c.in-Choice.is) c.on_choice.ensures.rises
