use Rattle.std.proofs.Common.{◌++◌, List, map, ℕ, ap, ◌∙◌}
use Rattle.uug_link.specs.Entries.{EntryValue}
use Rattle.uug_link.specs.Follows.{written}
use Rattle.uug_link.specs.Reactions.{emitted_of, state_of}
use Rattle.uug_link.specs.Slots.{messages_in}
use Rattle.uug_link.proofs.LinkLemmas.{left-linked, left-messages, left-slots, left-state}
use Rattle.uug_link.proofs.link.Link.apply.Goals as goal

pub emit-requires-clause-slots : goal.emit-requires-clause-slots
emit-requires-clause-slots g c =
    let own = c.self.inside in
    left-slots c.args.reaction own.status own.slots c.strike.new.self c.args.self.now (record {
      view_is = c.self.view_is;
      linked = c.self.invariant;
      sound = c.requires.sound;
      keeps = c.requires.keeps;
      after_is = c.strike.ensures;
    })

pub invariant_of-self : goal.invariant_of-self
invariant_of-self g c =
    let own = c.self.inside in
    left-linked c.args.reaction own.status own.slots c.strike.new.self c.emit.new.slots c.args.self.now (record {
      view_is = c.self.view_is;
      linked = c.self.invariant;
      sound = c.requires.sound;
      keeps = c.requires.keeps;
      after_is = c.strike.ensures;
    }) c.emit.ensures.messages c.emit.ensures.slots

pub returns-clause-ok : goal.returns-clause-ok
returns-clause-ok g c =
    let own = c.self.inside in
    left-state c.args.reaction own.status own.slots c.strike.new.self c.emit.new.slots c.args.self.now (record {
      view_is = c.self.view_is;
      linked = c.self.invariant;
      sound = c.requires.sound;
      keeps = c.requires.keeps;
      after_is = c.strike.ensures;
    }) c.emit.ensures.messages

pub returns-clause-emitted : goal.returns-clause-emitted
returns-clause-emitted g c =
    let own = c.self.inside in
    let r = c.args.reaction in
    let left = left-messages r own.status own.slots c.strike.new.self c.args.self.now (record {
      view_is = c.self.view_is;
      linked = c.self.invariant;
      sound = c.requires.sound;
      keeps = c.requires.keeps;
      after_is = c.strike.ensures;
    }) in
    c.emit.ensures.emitted
    ∙ ap (λ (es : List EntryValue). es ++ map written (emitted_of r.emits (state_of r.status (messages_in c.strike.new.self))))
    c.reserve.ensures.entries
    ∙ ap (λ (ms : List (List ℕ)). c.args.out.now.entries ++ map written (emitted_of r.emits (state_of r.status ms))) left
