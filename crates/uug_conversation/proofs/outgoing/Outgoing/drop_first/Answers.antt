use Rattle.std.proofs.Common.{drop, sym, ap, ◌∙◌}
use Rattle.std.proofs.lemmas.List.{drop-drop}
use Rattle.uug_conversation.specs.Outgoing.{Outgoing}
use Rattle.uug_conversation.proofs.OutgoingLemmas.{holds_behind_first}
use Rattle.uug_conversation.proofs.outgoing.Outgoing.drop_first.Goals as goal

pub invariant_of-self-else-self-len : goal.invariant_of-self-else-self-len
invariant_of-self-else-self-len g c =
    let q = c.self.inside in
    holds_behind_first q.said q.sayings.len q.offset q.sayings.items q.sayings.ok.0
    (λ e. c.requires (sym (ap (λ (o : Outgoing). o.sayings) c.self.view_is) ∙ e)) c.self.invariant

pub returns-else-self-len-clause-sayings : goal.returns-else-self-len-clause-sayings
returns-else-self-len-clause-sayings g c =
    let q = c.self.inside in
    sym (drop-drop 1 q.said q.sayings.items) ∙ ap (λ (o : Outgoing). drop 1 o.sayings) c.self.view_is
