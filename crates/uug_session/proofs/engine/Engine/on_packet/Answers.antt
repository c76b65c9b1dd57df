use Rattle.std.proofs.Common.{◌∙◌, false, subst, sym, refl, true≢false}
use Rattle.uug_packet.specs.Packet.{shown}
use Rattle.uug_session.specs.Engine.{CountsFaults, EngineState, TakesUp, faults_max}
use Rattle.uug_session.proofs.EngineLemmas.{hears_reserved, shown_by, talk_reserved}
use Rattle.uug_session.proofs.ResultLemmas.{err_says_nothing}
use Rattle.uug_session.proofs.engine.Engine.on_packet.Goals as goal

pub returns-else-takes-clause-ok : goal.returns-else-takes-clause-ok
returns-else-takes-clause-ok g c =
    let h = g.S.Spool.holdings c.args.spool.now in
    let kept = g.S.Spool.kept c.args.spool.now in
    let faults = g.S.Spool.faults c.args.spool.now in
    let p = shown c.args.packet.now in
    let i = c.self.inside in
    let b = shown_by c.self.view_is in
    let m : EngineState = record b { dialogue = c.reserve-2.new.self; outbox = c.reserve.new.self } in
    let room = c.in_ok-reserve-2.ensures in
    subst (λ (x : EngineState). TakesUp h kept kept (CountsFaults faults_max faults faults) p x c.hear.new.self false) c.self.view_is
    (hears_reserved h kept (CountsFaults faults_max faults faults) p b m c.hear.new.self refl refl refl refl
    (talk_reserved h kept i.dialogue c.reserve-2.new.self room.opened room.machine room.measure room.sayings room.offset)
    c.in_ok-reserve.ensures.entries (λ is. true≢false (sym (c.takes.ensures.1 is) ∙ c.if-takes.false)) refl c.hear.ensures.does)

pub invariant_of-self : goal.invariant_of-self
invariant_of-self g c = c.self.invariant

pub returns-in_ok-take-clause-err : goal.returns-in_ok-take-clause-err
returns-in_ok-take-clause-err g c = tt

pub returns-in_err-reserve-clause-ok : goal.returns-in_err-reserve-clause-ok
returns-in_err-reserve-clause-ok g c = err_says_nothing _ c.from_residual.result c.from_residual.ensures.0

pub returns-in_err-reserve-clause-says : goal.returns-in_err-reserve-clause-says
returns-in_err-reserve-clause-says g c = err_says_nothing _ c.from_residual.result c.from_residual.ensures.0

pub returns-in_err-reserve-2-clause-ok : goal.returns-in_err-reserve-2-clause-ok
returns-in_err-reserve-2-clause-ok g c = err_says_nothing _ c.from_residual-in_err-reserve-2.result c.from_residual-in_err-reserve-2.ensures.0

pub returns-in_err-reserve-2-clause-says : goal.returns-in_err-reserve-2-clause-says
returns-in_err-reserve-2-clause-says g c = err_says_nothing _ c.from_residual-in_err-reserve-2.result c.from_residual-in_err-reserve-2.ensures.0

pub returns-in_err-take-clause-ok : goal.returns-in_err-take-clause-ok
returns-in_err-take-clause-ok g c = err_says_nothing _ c.from_residual-in_err-take.result c.from_residual-in_err-take.ensures.0

pub returns-in_err-take-clause-says : goal.returns-in_err-take-clause-says
returns-in_err-take-clause-says g c = err_says_nothing _ c.from_residual-in_err-take.result c.from_residual-in_err-take.ensures.0

pub returns-in_ok-take-clause-says : goal.returns-in_ok-take-clause-says
returns-in_ok-take-clause-says g c = c.in_ok-take.ensures.says

pub returns-in_ok-take-clause-faults : goal.returns-in_ok-take-clause-faults
returns-in_ok-take-clause-faults g c = tt

pub returns-else-takes-clause-says : goal.returns-else-takes-clause-says
returns-else-takes-clause-says g c = c.hear.ensures.says

pub returns-else-takes-clause-err : goal.returns-else-takes-clause-err
returns-else-takes-clause-err g c = tt

pub returns-else-takes-clause-faults : goal.returns-else-takes-clause-faults
returns-else-takes-clause-faults g c = tt
