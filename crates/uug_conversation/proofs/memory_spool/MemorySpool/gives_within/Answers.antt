use Rattle.std.proofs.Common.{IsTrue, subst, ap, refl, ◌∙◌}
use Rattle.uug_conversation.specs.MemoryHoldings.{held_by}
use Rattle.uug_conversation.proofs.LimitLemmas.{AreWithin, are_within_so, given_within}
use Rattle.uug_conversation.proofs.memory_spool.MemorySpool.gives_within.Goals as goal

pub returns-clause-value : goal.returns-clause-value
returns-clause-value g c =
    let s = c.args.self.now in
    c.are_within.ensures ∙ ap (AreWithin c.args.limit) c.as_slice.ensures.value
    ∙ are_within_so c.args.limit (held_by s) s.files.items refl c.if-self-limit.false

pub returns-clause-within : goal.returns-clause-within
returns-clause-within g c within =
    let s = c.args.self.now in
    given_within c.args.limit s.limit.bytes s.files.items
    (subst IsTrue (c.are_within.ensures ∙ ap (AreWithin c.args.limit) c.as_slice.ensures.value) within)
