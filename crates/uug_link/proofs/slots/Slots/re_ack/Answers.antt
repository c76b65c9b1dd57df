use Rattle.std.proofs.Common.{◌≡◌, true, false, refl, sym, subst, ◌∙◌, arith}
use Rattle.uug_packet.specs.WellFormed.{IsWrittenCarry}
use Rattle.uug_link.proofs.SlotsLemmas.{changed, is_made, standing, within_use}
use Rattle.uug_link.proofs.slots.Slots.re_ack.Goals as goal

pub in_turn-requires : goal.in_turn-requires
in_turn-requires c =
    let own = c.self.inside in
    record {
      small = within_use own.places.items own.oldest own.count c.args.i _ c.self.view_is c.self.invariant
          (omega (arith, c.requires.within));
    }

pub unreachable-requires : goal.unreachable-requires
unreachable-requires c =
    let own = c.self.inside in
    let made = is_made own.places.items own.oldest own.count c.args.i _ _ c.self.view_is c.self.invariant c.requires.within c.in_turn.ensures in
    let none : false ≡ true = c.in_default.ensures.variant.1 made in
    cc

pub re_ack-requires : goal.re_ack-requires
re_ack-requires c =
    let own = c.self.inside in
    subst IsWrittenCarry
    (standing own.places.items own.oldest own.count c.args.i c.in_turn.result _ c.in-Some.slot.now c.self.view_is
    c.requires.within c.in_turn.ensures (c.in-Some.ensures.variant.0 refl) c.in-Some.ensures.value)
    c.requires.written

pub returns : goal.returns
returns c = λ seq old k message well_formed is.
    let own = c.self.inside in
    let made = c.in-Some.ensures.variant.0 refl in
    let here = standing own.places.items own.oldest own.count c.args.i c.in_turn.result _ c.in-Some.slot.now c.self.view_is
    c.requires.within c.in_turn.ensures made c.in-Some.ensures.value in
    changed own.places.items own.oldest own.count c.args.i c.in_turn.result _ c.re_ack.new.written _ c.self.view_is
    c.self.invariant.count_below c.requires.within c.in_turn.ensures made
    (c.re_ack.ensures seq old k message well_formed (sym here ∙ is))
