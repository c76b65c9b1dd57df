use Rattle.std.proofs.Common.{◌∙◌, sym, subst}
use Rattle.uug_link.specs.Reactions.{state_of}
use Rattle.uug_link.specs.Slots.{Keeps}
use Rattle.uug_link.specs.State.{State, IsSound}
use Rattle.uug_link.specs.Step.{Effect, step, packet_found}
use Rattle.uug_packet.specs.Packet.{shown}
use Rattle.uug_link.proofs.KeepLemmas.{keeps-packet_found}
use Rattle.uug_link.proofs.LinkLemmas.{same_count, same_state, steady}
use Rattle.uug_link.proofs.SoundLemmas.{sound-packet_found}
use Rattle.uug_link.proofs.link.Link.on_packet.Goals as goal

pub react-requires-clause-sound : goal.react-requires-clause-sound
react-requires-clause-sound g c =
    let own = c.self.inside in
    let now = c.args.self.now in
    let h = steady own.status own.slots now c.self.view_is c.self.invariant in
    let count = same_count own.status own.slots now c.self.view_is ∙ sym c.len.ensures.count in
    subst (λ (e : Effect). IsSound e.state) (sym (c.after_packet-reaction.ensures.effect now.unacked count))
    (sound-packet_found (shown c.args.packet.now) (state_of own.status now.unacked) h.sound)

pub react-requires-clause-keeps : goal.react-requires-clause-keeps
react-requires-clause-keeps g c =
    let own = c.self.inside in
    let now = c.args.self.now in
    let p = shown c.args.packet.now in
    let h = steady own.status own.slots now c.self.view_is c.self.invariant in
    let count = same_count own.status own.slots now c.self.view_is ∙ sym c.len.ensures.count in
    subst (λ (e : Effect). Keeps now e.state) (sym (c.after_packet-reaction.ensures.effect now.unacked count))
    (subst (λ (s : State). Keeps s (step (state_of own.status now.unacked) (packet_found p)).state)
    (same_state own.status own.slots now c.self.view_is) (keeps-packet_found p (state_of own.status now.unacked) h))
