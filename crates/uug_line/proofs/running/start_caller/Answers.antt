use Rattle.std.proofs.Common.{ap, subst, ◌∙◌}
use Rattle.uug_link.proofs.InRangeLemmas.{announcement_right}
use Rattle.uug_link.specs.Announced.{announced}
use Rattle.uug_session.specs.EndStep.{Identity}
use Rattle.uug_session.specs.Engine.{all_ahead}
use Rattle.uug_conversation.specs.MemoryHoldings.{MemoryHoldings, held_by}
use Rattle.uug_conversation.specs.declared.side.Side.TheVariants.{Caller}
use Rattle.uug_line.specs.LineEndValue.{HasBegun, live_end_value}
use Rattle.uug_line.proofs.running.start_caller.Goals as goal

pub returns : goal.returns
returns g c =
    let place = c.args.place in
    let id : Identity = record { side = Caller; me = place.me; peer = place.peer } in
    let own = announced place.announce in
    let jobs = all_ahead c.args.setup.queue in
    subst (λ (m : MemoryHoldings). HasBegun id own place.number jobs m (live_end_value c.in_ok-end.end)) (ap held_by c.in-Ok.ensures.spool ∙ c.forgetting-spool.ensures)
    (c.in_ok-end.ensures id own place.number jobs (announcement_right place.announce) c.in-Ok.ensures.session c.in-Ok.ensures.nothing_held)
