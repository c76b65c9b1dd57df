use Rattle.std.proofs.Common.{◌≡◌, ◌+◌, ◌%◌, List, ℕ, ap, sym, subst, ◌∙◌, refl}
use Rattle.uug_link.specs.declared.limits.TheConstants.{UNACKED_MAX}
use Rattle.uug_link.specs.declared.slots.Slots.TheInside.{Inside}
use Rattle.uug_link.specs.Slots.{bytes_in, in_turn}
use Rattle.uug_link.proofs.SlotsLemmas.{added, in_turn-grow}
use Rattle.uug_link.proofs.slots.Slots.add.Goals as goal
use Rattle.uug_link.proofs.slots.Slots.add.Goals.{then-place-len, else-place-len}

-- what is known of the packets once the place is there
record IsReady (own : Inside) (now : List (List ℕ)) (at : ℕ) : Type 0 where
  is : in_turn (bytes_in own.places.items) own.oldest own.count ≡ now
  at_is : at ≡ (own.oldest + own.count) % UNACKED_MAX

pub returns : goal.returns
returns c =
    let before = c.self.inside in
    let own = c.if-place-len.self-inside in
    let now = c.args.self.now in
    let at = c.in_turn-place.result in
    let first : IsReady before now at = record { is = c.self.view_is; at_is = c.in_turn-place.ensures } in
    let ready : IsReady own now at =
    elim c.if-place-len.branch [
      | then-place-len w ↦ subst (λ (x : Inside). IsReady x now at) (sym w.self-inside-is) (record {
        is = ap (λ (ps : List (List ℕ)). in_turn ps before.oldest before.count) w.make_place.ensures
            ∙ in_turn-grow (bytes_in before.places.items) before.oldest before.count ∙ c.self.view_is;
        at_is = c.in_turn-place.ensures;
      })
      | else-place-len w ↦ subst (λ (x : Inside). IsReady x now at) (sym w.self-inside-is) first
    ] in
    added own.places.items own.oldest own.count at now c.encode.new.out _ ready.is c.requires.room ready.at_is
    (c.in-Some.ensures.variant.0 refl) c.encode.ensures.canonical
