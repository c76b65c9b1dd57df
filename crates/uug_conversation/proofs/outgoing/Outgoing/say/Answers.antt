use Rattle.std.proofs.Common.{[], ◌∷◌, All, subst}
use Rattle.std.proofs.lemmas.List.Elements.{All-nil, All-cons, All-head, All-tail}
use Rattle.uug_conversation.specs.Outgoing.{IsSayable, sayings_of}
use Rattle.uug_conversation.proofs.OutgoingLemmas.{holds_more}
use Rattle.uug_conversation.proofs.outgoing.Outgoing.say.Goals as goal

pub invariant_of-self : goal.invariant_of-self
invariant_of-self g c =
    let q = c.self.inside in
    let pushed = c.push_reserved.new.self in
    let sayable = subst (λ says. All IsSayable (sayings_of says)) c.in-One.is c.requires.sayable in
    holds_more q.said q.sayings.len pushed.len q.offset q.sayings.items (c.in-One.first ∷ []) pushed.items
    q.sayings.ok.0 pushed.ok.0 c.self.invariant sayable c.push_reserved.ensures.items

pub invariant_of-self-in-Two : goal.invariant_of-self-in-Two
invariant_of-self-in-Two g c =
    let q = c.self.inside in
    let one = c.push_reserved-in-Two.new.self in
    let two = c.push_reserved-in-Two-2.new.self in
    let first = c.in-Two.first in
    let next = c.in-Two.next in
    let sayable = subst (λ says. All IsSayable (sayings_of says)) c.in-Two.is c.requires.sayable in
    let with_first = holds_more q.said q.sayings.len one.len q.offset q.sayings.items (first ∷ []) one.items
    q.sayings.ok.0 one.ok.0 c.self.invariant
    (All-cons IsSayable first [] (All-head IsSayable first (next ∷ []) sayable) (All-nil IsSayable))
    c.push_reserved-in-Two.ensures.items in
    holds_more q.said one.len two.len q.offset one.items (next ∷ []) two.items one.ok.0 two.ok.0 with_first
    (All-tail IsSayable first (next ∷ []) sayable) c.push_reserved-in-Two-2.ensures.items
