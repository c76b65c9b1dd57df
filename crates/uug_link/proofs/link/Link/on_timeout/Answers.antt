use Rattle.std.proofs.Common.{sym, subst}
use Rattle.uug_link.specs.Reactions.{state_of}
use Rattle.uug_link.specs.Slots.{Keeps}
use Rattle.uug_link.specs.State.{State, IsSound}
use Rattle.uug_link.specs.Step.{Effect, step, timed_out}
use Rattle.uug_link.proofs.KeepLemmas.{keeps-timed_out}
use Rattle.uug_link.proofs.LinkLemmas.{same_state, steady}
use Rattle.uug_link.proofs.SoundLemmas.{sound-timed_out}
use Rattle.uug_link.proofs.link.Link.on_timeout.Goals as goal

pub react-requires-clause-sound : goal.react-requires-clause-sound
react-requires-clause-sound g c =
    let own = c.self.inside in
    let now = c.args.self.now in
    let h = steady own.status own.slots now c.self.view_is c.self.invariant in
    subst (λ (e : Effect). IsSound e.state) (sym (c.after_timeout-reaction.ensures.effect now.unacked))
    (sound-timed_out (state_of own.status now.unacked) h.sound)

pub react-requires-clause-keeps : goal.react-requires-clause-keeps
react-requires-clause-keeps g c =
    let own = c.self.inside in
    let now = c.args.self.now in
    let h = steady own.status own.slots now c.self.view_is c.self.invariant in
    subst (λ (e : Effect). Keeps now e.state) (sym (c.after_timeout-reaction.ensures.effect now.unacked))
    (subst (λ (s : State). Keeps s (step (state_of own.status now.unacked) timed_out).state)
    (same_state own.status own.slots now c.self.view_is) (keeps-timed_out (state_of own.status now.unacked) h))
