use Rattle.std.proofs.Common.{◌≡◌, ap, ◌∙◌}
use Rattle.uug_link.specs.Announced.{announced}
use Rattle.uug_link.specs.State.{State}
use Rattle.uug_link.specs.Step.{step, packet_found}
use Rattle.uug_packet.specs.Packet.{shown}
use Rattle.uug_session.specs.Engine.{EngineState, stage_of}
use Rattle.uug_session.proofs.EngineLemmas.{link_after, ready_behind_taken, taken_is_up}
use Rattle.uug_link.proofs.OutcomeLemmas.{moves_of}
use Rattle.uug_session.proofs.engine.Engine.answer.Goals as goal

pub invariant_of-self : goal.invariant_of-self
invariant_of-self g c =
    let p = shown c.args.packet.now in
    let i = c.self.inside in
    let after : State = (step i.link (packet_found p)).state in
    ready_behind_taken (stage_of i.stage) (record { side = i.side; me = i.place.me; peer = i.place.peer }) (announced i.place.announce)
    i.link c.on_packet.new.self p i.dialogue c.self.invariant
    (ap (λ (x : EngineState). (step x.link (packet_found p)).outcome) c.self.view_is ∙ c.requires.taken)
    (link_after (c.on_packet.new.self ≡ after) c.in-Ok._taken c.in-Ok.ensures.state)

pub returns-clause-up : goal.returns-clause-up
returns-clause-up g c =
    let p = shown c.args.packet.now in
    let s = c.self.inside.link in
    let after : State = (step s (packet_found p)).state in
    ap (λ (x : State). x.phase) (link_after (c.on_packet.new.self ≡ after) c.in-Ok._taken c.in-Ok.ensures.state)
    ∙ (taken_is_up (step s (packet_found p)).outcome s.phase after.phase
    (ap (λ (x : EngineState). (step x.link (packet_found p)).outcome) c.self.view_is ∙ c.requires.taken)
    (moves_of s (packet_found p) tt)).1
