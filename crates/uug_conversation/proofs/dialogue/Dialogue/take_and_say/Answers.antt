use Rattle.std.proofs.Common.{refl, ap, ◌∙◌}
use Rattle.uug_conversation.specs.DialogueState.{taking}
use Rattle.uug_conversation.specs.DialogueValue.{DialogueValue, state_of, dialogue_of}
use Rattle.uug_conversation.proofs.DialogueLemmas.{taken_is}
use Rattle.uug_conversation.proofs.dialogue.Dialogue.take_and_say.Goals as goal

pub returns-in-Some-clause-taken : goal.returns-in-Some-clause-taken
returns-in-Some-clause-taken g c =
    let q = c.self.inside in
    let h = g.S.Spool.holdings c.args.spool.now in
    let kept = g.S.Spool.kept c.args.spool.now in
    let message = c.args.message.now in
    let next = c.in-Some.reaction in
    let jobs = c.reaction_unless_early.new.queue in
    let before : DialogueValue = record {
      opened = q.opened;
      machine = state_of q.queue q.awaits q.gather;
      measure = record { size = q.size; short = q.short };
      outgoing = q.outgoing;
    } in
    let after : DialogueValue = record {
      opened = q.opened;
      machine = state_of jobs next.awaits c.gather_for.result;
      measure = record { size = q.size; short = q.short };
      outgoing = c.say.new.self;
    } in
    taken_is h kept (g.S.Spool.kept c.reaction_unless_early.new.spool) before after message c.in_ok-told.told next
    (state_of jobs q.awaits c.reaction_unless_early.new.gather) c.is_silent.result
    (ap (λ (x : DialogueValue). x.opened) c.self.view_is ∙ c.requires.opened) c.in-Some.is c.is_silent.ensures c.in_ok-told.ensures.reply
    c.in_ok-told.ensures.kept refl refl (ap (λ z. record { lists = jobs; awaits = next.awaits; gathered = z }) c.gather_for.ensures.bytes)
    c.say.ensures.within c.say.ensures.sayings c.say.ensures.offset
    ∙ ap (λ (x : DialogueValue). taking h message (dialogue_of h kept x)) c.self.view_is
