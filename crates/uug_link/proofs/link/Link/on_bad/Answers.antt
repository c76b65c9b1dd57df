use Rattle.std.proofs.Common.{sym, subst}
use Rattle.uug_link.specs.Reactions.{state_of}
use Rattle.uug_link.specs.Slots.{Keeps}
use Rattle.uug_link.specs.State.{State, IsSound}
use Rattle.uug_link.specs.Step.{Effect, step, bad_found}
use Rattle.uug_link.proofs.KeepLemmas.{keeps-bad_found}
use Rattle.uug_link.proofs.LinkLemmas.{same_state, steady}
use Rattle.uug_link.proofs.SoundLemmas.{sound-bad_found}
use Rattle.uug_link.proofs.link.Link.on_bad.Goals as goal

pub react-requires-clause-sound : goal.react-requires-clause-sound
react-requires-clause-sound g c =
    let own = c.self.inside in
    let now = c.args.self.now in
    let h = steady own.status own.slots now c.self.view_is c.self.invariant in
    subst (λ (e : Effect). IsSound e.state) (sym (c.after_bad-reaction.ensures.effect now.unacked))
    (sound-bad_found (state_of own.status now.unacked) h.sound)

pub react-requires-clause-keeps : goal.react-requires-clause-keeps
react-requires-clause-keeps g c =
    let own = c.self.inside in
    let now = c.args.self.now in
    let h = steady own.status own.slots now c.self.view_is c.self.invariant in
    subst (λ (e : Effect). Keeps now e.state) (sym (c.after_bad-reaction.ensures.effect now.unacked))
    (subst (λ (s : State). Keeps s (step (state_of own.status now.unacked) bad_found).state)
    (same_state own.status own.slots now c.self.view_is) (keeps-bad_found (state_of own.status now.unacked) h))
