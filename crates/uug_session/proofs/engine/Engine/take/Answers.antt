use Rattle.std.proofs.Common.{◌≡◌, ℕ, Bool, true, false, List, ◌++◌, map, sym, subst, ap, ◌∙◌, refl, Err}
use Rattle.uug_link.specs.Entries.{EntryValue}
use Rattle.uug_link.specs.Follows.{written}
use Rattle.uug_link.specs.State.{State}
use Rattle.uug_link.specs.Step.{Effect, step, packet_found, to_close}
use Rattle.uug_packet.specs.Packet.{shown}
use Rattle.uug_session.specs.declared.end.End.TheVariants as ends
use Rattle.uug_session.specs.EndStep.{Identity, ends_so, goes_on, leave, message_of, then_closes}
use Rattle.uug_session.specs.Engine.{CountsFaults, Does, EngineState, TakesUp, after_speaking, end_of, entry_of, spoken_of, faults_max}
use Rattle.uug_conversation.specs.Holdings.{Holdings, Kept}
use Rattle.uug_conversation.specs.Runs.{is_bad}
use Rattle.uug_conversation.specs.DialogueState.{DialogueState, asks_spool, end_keeper, taking}
use Rattle.uug_conversation.specs.DialogueValue.{DialogueValue, dialogue_of}
use Rattle.uug_session.proofs.EngineLemmas.{closed_behind, ends_does, goes_on_does, shown_by, taken_bad, taken_failed, taken_well, takes_up}
use Rattle.uug_session.proofs.SpeakLemmas.{has_parted_told}
use Rattle.uug_session.proofs.engine.Engine.take.Goals as goal

pub returns-then-is_bad-clause-ok : goal.returns-then-is_bad-clause-ok
returns-then-is_bad-clause-ok g c =
    let h = g.S.Spool.holdings c.args.spool.now in
    let kept = g.S.Spool.kept c.args.spool.now in
    let kept_after = g.S.Spool.kept c.take.new.spool in
    let counts = CountsFaults faults_max (g.S.Spool.faults c.args.spool.now) (g.S.Spool.faults c.take.new.spool) in
    let p = shown c.args.packet.now in
    let i = c.self.inside in
    let b = shown_by c.self.view_is in
    let e : Effect = step i.link (packet_found p) in
    let k = end_keeper b.identity.side h in
    let talk = dialogue_of h kept i.dialogue in
    let outcome = ap (λ (x : EngineState). (step x.link (packet_found p)).outcome) c.self.view_is ∙ c.requires.taken in
    let told : dialogue_of h kept_after c.take.new.self ≡ taking h (message_of p) talk =
    c.in-Ok.ensures.taken ∙ ap (λ (x : List ℕ). taking h x talk) c.message_of.ensures in
    let a = c.answer.new.self in
    let answered = c.answer.ensures in
    let bad_as : is_bad (taking h (message_of p) talk).machine.awaits ≡ c.is_bad.result =
    ap (λ (x : DialogueState). is_bad x.machine.awaits) (sym told)
    ∙ ap (λ (x : DialogueValue). is_bad x.machine.awaits) (sym answered.dialogue)
    ∙ ap (λ (x : EngineState). is_bad x.dialogue.machine.awaits) (sym c.self-in-Ok.view_is)
    ∙ sym c.is_bad.ensures in
    let after = c.break_off.new.self in
    let done = c.break_off.ensures in
    let parted = c.has_parted-has_parted.result in
    let as_parted = c.has_parted-has_parted.ensures ∙ has_parted_told h kept i.dialogue in
    subst (λ (x : EngineState). TakesUp h kept kept_after counts p x after true) c.self.view_is
    (takes_up h kept kept_after counts false p b after (ends_so b.number b.identity (k.has_parted talk) ends.BadTalk (then_closes e) (taking h (message_of p) talk) true)
    (taken_bad b.number k b.identity e (message_of p) talk outcome (bad_as ∙ c.if-is_bad.true))
    (subst (λ (x : Bool). Does (ends_so b.number b.identity x ends.BadTalk (then_closes e) (taking h (message_of p) talk) true) (end_of h kept_after after) b after) as_parted
    (ends_does b.identity parted ends.BadTalk (then_closes e) (taking h (message_of p) talk) (dialogue_of h kept_after after.dialogue) true b after
    done.stage (done.link ∙ ap (λ (s : State). (step s to_close).state) answered.link)
    (ap (dialogue_of h kept_after) (done.dialogue ∙ answered.dialogue) ∙ told)
    (done.emitted
    ∙ ap (λ (x : Identity). (a.outbox.entries ++ map written (step a.link to_close).emitted) ++ map entry_of (leave parted x.side)) answered.still.identity
    ∙ ap (λ (x : List EntryValue). x ++ map entry_of (leave parted b.identity.side))
    (closed_behind e a.link b.outbox.entries a.outbox.entries _ answered.link answered.emitted refl))
    (done.identity ∙ answered.still.identity) (done.own ∙ answered.still.own) (done.number ∙ answered.still.number)))
    refl (c.in-Ok.ensures.stands (λ is. absurd cc)))

pub returns-else-is_bad-clause-ok : goal.returns-else-is_bad-clause-ok
returns-else-is_bad-clause-ok g c =
    let h = g.S.Spool.holdings c.args.spool.now in
    let kept = g.S.Spool.kept c.args.spool.now in
    let kept_after = g.S.Spool.kept c.take.new.spool in
    let counts = CountsFaults faults_max (g.S.Spool.faults c.args.spool.now) (g.S.Spool.faults c.take.new.spool) in
    let p = shown c.args.packet.now in
    let i = c.self.inside in
    let b = shown_by c.self.view_is in
    let e : Effect = step i.link (packet_found p) in
    let k = end_keeper b.identity.side h in
    let talk = dialogue_of h kept i.dialogue in
    let outcome = ap (λ (x : EngineState). (step x.link (packet_found p)).outcome) c.self.view_is ∙ c.requires.taken in
    let told : dialogue_of h kept_after c.take.new.self ≡ taking h (message_of p) talk =
    c.in-Ok.ensures.taken ∙ ap (λ (x : List ℕ). taking h x talk) c.message_of.ensures in
    let a = c.answer.new.self in
    let answered = c.answer.ensures in
    let bad_as : is_bad (taking h (message_of p) talk).machine.awaits ≡ c.is_bad.result =
    ap (λ (x : DialogueState). is_bad x.machine.awaits) (sym told)
    ∙ ap (λ (x : DialogueValue). is_bad x.machine.awaits) (sym answered.dialogue)
    ∙ ap (λ (x : EngineState). is_bad x.dialogue.machine.awaits) (sym c.self-in-Ok.view_is)
    ∙ sym c.is_bad.ensures in
    let after = c.speak.new.self in
    let spoken = subst (λ (x : Holdings). spoken_of x kept_after after ≡ after_speaking x kept_after a) c.in-Ok.ensures.holdings c.speak.ensures.spoken in
    subst (λ (x : EngineState). TakesUp h kept kept_after counts p x after true) c.self.view_is
    (takes_up h kept kept_after counts false p b after (goes_on b.number k true e (taking h (message_of p) talk))
    (taken_well b.number k b.identity e (message_of p) talk outcome (bad_as ∙ c.if-is_bad.false))
    (subst (λ (x : DialogueState). Does (goes_on b.number k true e x) (end_of h kept_after after) b after) (ap (dialogue_of h kept_after) answered.dialogue ∙ told)
    (goes_on_does h kept_after true e b a after answered.link answered.emitted
    (answered.still.stage ∙ ap (λ (x : EngineState). x.stage) c.self.view_is ∙ c.requires.linked)
    answered.still.identity answered.still.own answered.still.number spoken c.speak.ensures.still))
    refl (c.in-Ok.ensures.stands (λ is. absurd cc)))

pub returns-in-Err-Device-clause-ok : goal.returns-in-Err-Device-clause-ok
returns-in-Err-Device-clause-ok g c =
    let h = g.S.Spool.holdings c.args.spool.now in
    let kept = g.S.Spool.kept c.args.spool.now in
    let kept_after = g.S.Spool.kept c.take.new.spool in
    let counts = CountsFaults faults_max (g.S.Spool.faults c.args.spool.now) (g.S.Spool.faults c.take.new.spool) in
    let p = shown c.args.packet.now in
    let i = c.self.inside in
    let b = shown_by c.self.view_is in
    let e : Effect = step i.link (packet_found p) in
    let k = end_keeper b.identity.side h in
    let talk = dialogue_of h kept i.dialogue in
    let outcome = ap (λ (x : EngineState). (step x.link (packet_found p)).outcome) c.self.view_is ∙ c.requires.taken in
    let failed = c.in-Err-Device.ensures in
    let a = c.answer-in-Err-Device.new.self in
    let answered = c.answer-in-Err-Device.ensures in
    let after = c.break_off-in-Err-Device.new.self in
    let done = c.break_off-in-Err-Device.ensures in
    let parted = c.has_parted-has_parted.result in
    let as_parted = c.has_parted-has_parted.ensures ∙ has_parted_told h kept i.dialogue in
    let told : dialogue_of h kept_after c.take.new.self ≡ talk =
    ap (dialogue_of h kept_after) failed.same ∙ ap (λ (x : List Kept). dialogue_of h x i.dialogue) failed.none_kept in
    subst (λ (x : EngineState). TakesUp h kept kept_after counts p x after true) c.self.view_is
    (takes_up h kept kept_after counts true p b after (ends_so b.number b.identity (k.has_parted talk) ends.SpoolFault (then_closes e) talk true)
    (taken_failed b.number k b.identity e (message_of p) talk outcome
    (ap (asks_spool h i.dialogue.machine) (sym c.message_of.ensures) ∙ failed.asked (ap Err c.in-Err-Device.field-0-is)))
    (subst (λ (x : Bool). Does (ends_so b.number b.identity x ends.SpoolFault (then_closes e) talk true) (end_of h kept_after after) b after) as_parted
    (ends_does b.identity parted ends.SpoolFault (then_closes e) talk (dialogue_of h kept_after after.dialogue) true b after
    done.stage (done.link ∙ ap (λ (s : State). (step s to_close).state) answered.link)
    (ap (dialogue_of h kept_after) (done.dialogue ∙ answered.dialogue) ∙ told)
    (done.emitted
    ∙ ap (λ (x : Identity). (a.outbox.entries ++ map written (step a.link to_close).emitted) ++ map entry_of (leave parted x.side)) answered.still.identity
    ∙ ap (λ (x : List EntryValue). x ++ map entry_of (leave parted b.identity.side))
    (closed_behind e a.link b.outbox.entries a.outbox.entries _ answered.link answered.emitted refl))
    (done.identity ∙ answered.still.identity) (done.own ∙ answered.still.own) (done.number ∙ answered.still.number)))
    refl (failed.device (ap Err c.in-Err-Device.field-0-is)))
