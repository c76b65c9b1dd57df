use Rattle.std.proofs.Common.{arith}
use Rattle.uug_link.proofs.SlotsLemmas.{counted, struck, struck_in_use, within_use}
use Rattle.uug_link.proofs.slots.Slots.strike.Goals as goal

pub in_turn-self-inside-requires : goal.in_turn-self-inside-requires
in_turn-self-inside-requires c =
    let own = c.self.inside in
    record {
      small = within_use own.places.items own.oldest own.count c.args.count _ c.self.view_is c.self.invariant c.requires;
    }

pub overflow_sub-self : goal.overflow_sub-self
overflow_sub-self c =
    let own = c.self.inside in
    omega (arith, c.requires, counted own.places.items own.oldest own.count _ c.self.view_is)

pub invariant_of-self : goal.invariant_of-self
invariant_of-self c =
    let own = c.self.inside in
    struck_in_use _ own.oldest own.count c.args.count _ c.self.invariant
    (omega (arith, c.requires, counted own.places.items own.oldest own.count _ c.self.view_is))
    c.in_turn-self-inside.ensures

pub returns : goal.returns
returns c =
    let own = c.self.inside in
    struck own.places.items own.oldest own.count c.args.count c.in_turn-self-inside.result _ c.self.view_is c.requires
    c.in_turn-self-inside.ensures
