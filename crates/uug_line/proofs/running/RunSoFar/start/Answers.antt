use Rattle.std.proofs.Common.{ap, refl}
use Rattle.uug_link.specs.Announced.{announced}
use Rattle.uug_session.specs.Engine.{all_ahead}
use Rattle.uug_conversation.specs.MemoryHoldings.{held_by}
use Rattle.uug_conversation.specs.declared.side.Side.TheVariants.{Caller, Called}
use Rattle.uug_line.specs.LineEndValue.{live_end_value}
use Rattle.uug_line.specs.Setup.{setup_of, with_nothing_held}
use Rattle.uug_line.proofs.RunLemmas.{begun_as, sessions_none, starts_as}
use Rattle.uug_line.proofs.running.RunSoFar.start.Goals as goal

pub returns : goal.returns
returns g c =
    let setup = c.args.setup in
    let first = c.place_of-caller_place in
    let next = c.place_of-called_place in
    let first_parts = live_end_value c.in_ok-start_caller.field-0 in
    let next_parts = live_end_value c.in_ok-start_called.field-0 in
    starts_as (setup_of setup) (with_nothing_held (held_by setup.caller.spool)) (with_nothing_held (held_by setup.called.spool)) _
    (sessions_none c.new.result.items c.new.ensures.items) refl refl refl refl
    (begun_as Caller first.result.me first.result.peer setup.caller.name setup.called.name (announced first.result.announce) (announced setup.caller.announce)
    first.result.number setup.caller.number (all_ahead setup.caller.queue) (with_nothing_held (held_by setup.caller.spool)) first_parts first.ensures.me first.ensures.peer (ap announced first.ensures.announce)
    first.ensures.number c.in_ok-start_caller.ensures)
    (begun_as Called next.result.me next.result.peer setup.called.name setup.caller.name (announced next.result.announce) (announced setup.called.announce)
    next.result.number setup.called.number (all_ahead setup.called.queue) (with_nothing_held (held_by setup.called.spool)) next_parts next.ensures.me next.ensures.peer (ap announced next.ensures.announce)
    next.ensures.number c.in_ok-start_called.ensures)
