use Rattle.std.proofs.Common.{ap, length, sym, ◌∙◌, ◌≡◌, get_or, Some, List, ℕ, arith}
use Rattle.arrayvec.specs.ArrayVec.{ArrayVec}
use Rattle.uug_link.proofs.SlotsLemmas.{is_made, standing_some, within_use}
use Rattle.uug_link.proofs.slots.Slots.packet.Goals as goal

pub in_turn-requires : goal.in_turn-requires
in_turn-requires c =
    let own = c.self.inside in
    record {
      small = within_use own.places.items own.oldest own.count c.args.i _ c.self.view_is c.self.invariant
          (omega (arith, c.requires));
    }

pub bounds-deref-in_turn : goal.bounds-deref-in_turn
bounds-deref-in_turn c =
    let own = c.self.inside in
    let made = is_made own.places.items own.oldest own.count c.args.i _ _ c.self.view_is c.self.invariant c.requires c.in_turn.ensures in
    omega (arith, made, ap length c.deref.ensures.0)

pub returns-clause-value : goal.returns-clause-value
returns-clause-value c =
    let own = c.self.inside in
    let place = c.index-deref-in_turn.result in
    let made = is_made own.places.items own.oldest own.count c.args.i _ _ c.self.view_is c.self.invariant c.requires c.in_turn.ensures in
    let here : place ≡ get_or own.places.items c.in_turn.result place =
    c.index-deref-in_turn.is ∙ ap (λ (places : List (ArrayVec ℕ)). get_or places c.in_turn.result place) c.deref.ensures.0 in
    standing_some own.places.items own.oldest own.count c.args.i c.in_turn.result _ place c.self.view_is c.requires
    c.in_turn.ensures made here
    ∙ ap Some (sym c.as_slice.ensures.value)
