use Rattle.std.proofs.Common.{◌≡◌, ℕ, Bool, false, ◌++◌, map, subst, sym, ap, ◌∙◌, refl, Err, Ok}
use Rattle.uug_link.specs.declared.outcome.LinkFault.{LinkFault}
use Rattle.uug_link.specs.declared.outcome.Outcome.{Outcome}
use Rattle.uug_link.specs.Announced.{announced}
use Rattle.uug_link.specs.Follows.{Follows, answered}
use Rattle.uug_link.specs.Outcomes.{MovesPhase}
use Rattle.uug_link.specs.State.{State}
use Rattle.uug_link.specs.Step.{Effect, OutcomeValue, step, packet_found, nothing, up, closed, halted}
use Rattle.uug_link.specs.Terms.{size_of_code}
use Rattle.uug_packet.specs.Packet.{shown}
use Rattle.uug_session.specs.declared.end.End.TheVariants as ends
use Rattle.uug_session.specs.EndStep.{ends_so, goes_on, leave, measure_of, message_of}
use Rattle.uug_session.specs.Engine.{Does, EngineState, end_of, entry_of, packet_effect, stage_of}
use Rattle.uug_conversation.specs.DialogueState.{DialogueState, end_keeper, opened_with}
use Rattle.uug_conversation.specs.DialogueValue.{dialogue_of}
use Rattle.uug_session.proofs.EngineLemmas.{by_outcome, ends_does, goes_on_does, ready_behind_nothing, shown_by}
use Rattle.uug_session.proofs.SpeakLemmas.{has_parted_told}
use Rattle.uug_link.proofs.OutcomeLemmas.{moves_of}
use Rattle.uug_session.proofs.engine.Engine.hear.Goals as goal

pub invariant_of-self : goal.invariant_of-self
invariant_of-self g c =
    let p = shown c.args.packet.now in
    let i = c.self.inside in
    let e : Effect = step i.link (packet_found p) in
    let told = subst (λ (o : Outcome). Follows e i.link c.on_packet.new.self i.outbox c.on_packet.new.out (answered (Ok o)))
    c.in-Ok-Nothing.field-0-is c.in-Ok-Nothing.ensures in
    ready_behind_nothing (stage_of i.stage) (record { side = i.side; me = i.place.me; peer = i.place.peer }) (announced i.place.announce)
    i.link c.on_packet.new.self p i.dialogue c.self.invariant
    (ap (λ (x : EngineState). x.stage) c.self.view_is ∙ c.requires.linked) told.outcome told.state

pub returns-in-Ok-Nothing-clause-does : goal.returns-in-Ok-Nothing-clause-does
returns-in-Ok-Nothing-clause-does g c =
    let h = g.S.Spool.holdings c.args.spool.now in
    let kept = g.S.Spool.kept c.args.spool.now in
    let p = shown c.args.packet.now in
    let i = c.self.inside in
    let b = shown_by c.self.view_is in
    let m : EngineState = record b { link = c.on_packet.new.self; outbox = c.on_packet.new.out } in
    let e : Effect = step i.link (packet_found p) in
    let told = subst (λ (o : Outcome). Follows e i.link c.on_packet.new.self i.outbox c.on_packet.new.out (answered (Ok o)))
    c.in-Ok-Nothing.field-0-is c.in-Ok-Nothing.ensures in
    let after = c.speak.new.self in
    subst (λ (x : EngineState). Does (packet_effect h kept false p x) (end_of h kept after) x after) c.self.view_is
    (by_outcome (end_keeper b.identity.side h) b.identity false nothing e (message_of p) (dialogue_of h kept b.dialogue) (end_of h kept after) b after told.outcome
    (goes_on_does h kept false e b m after told.state told.emitted
    (ap (λ (x : EngineState). x.stage) c.self.view_is ∙ c.requires.linked) refl refl refl c.speak.ensures.spoken c.speak.ensures.still))

pub returns-in-Err-Halted-clause-does : goal.returns-in-Err-Halted-clause-does
returns-in-Err-Halted-clause-does g c =
    let h = g.S.Spool.holdings c.args.spool.now in
    let kept = g.S.Spool.kept c.args.spool.now in
    let p = shown c.args.packet.now in
    let i = c.self.inside in
    let b = shown_by c.self.view_is in
    let m : EngineState = record b { link = c.on_packet.new.self; outbox = c.on_packet.new.out } in
    let e : Effect = step i.link (packet_found p) in
    let told = subst (λ (o : LinkFault). Follows e i.link c.on_packet.new.self i.outbox c.on_packet.new.out (answered (Err o)))
    c.in-Err-Halted.field-0-is c.in-Err-Halted.ensures in
    let after = c.speak-in-Err-Halted.new.self in
    subst (λ (x : EngineState). Does (packet_effect h kept false p x) (end_of h kept after) x after) c.self.view_is
    (by_outcome (end_keeper b.identity.side h) b.identity false halted e (message_of p) (dialogue_of h kept b.dialogue) (end_of h kept after) b after told.outcome
    (goes_on_does h kept false e b m after told.state told.emitted
    (ap (λ (x : EngineState). x.stage) c.self.view_is ∙ c.requires.linked) refl refl refl c.speak-in-Err-Halted.ensures.spoken c.speak-in-Err-Halted.ensures.still))

-- the answer Up tells that the link is up
pub size-size-requires : goal.size-size-requires
size-size-requires g c =
    let i = c.self.inside in
    let p = shown c.args.packet.now in
    let e : Effect = step i.link (packet_found p) in
    let told = subst (λ (o : Outcome). Follows e i.link c.on_packet.new.self i.outbox c.on_packet.new.out (answered (Ok o)))
    c.in-Ok-Up.field-0-is c.in-Ok-Up.ensures in
    let moves = subst (λ (o : OutcomeValue). MovesPhase o i.link.phase e.state.phase) (sym told.outcome)
    (moves_of i.link (packet_found p) tt) in
    ap (λ (s : State). s.phase) told.state ∙ moves.1

pub returns-in-Ok-Up-clause-does : goal.returns-in-Ok-Up-clause-does
returns-in-Ok-Up-clause-does g c =
    let h = g.S.Spool.holdings c.args.spool.now in
    let kept = g.S.Spool.kept c.args.spool.now in
    let p = shown c.args.packet.now in
    let i = c.self.inside in
    let b = shown_by c.self.view_is in
    let m : EngineState = record b { link = c.on_packet.new.self; dialogue = c.open.new.self; outbox = c.on_packet.new.out } in
    let e : Effect = step i.link (packet_found p) in
    let told = subst (λ (o : Outcome). Follows e i.link c.on_packet.new.self i.outbox c.on_packet.new.out (answered (Ok o)))
    c.in-Ok-Up.field-0-is c.in-Ok-Up.ensures in
    let after = c.speak-in-Ok-Up.new.self in
    let talk = dialogue_of h kept b.dialogue in
    let opened : dialogue_of h kept c.open.new.self ≡ opened_with b.identity.side h (measure_of e.state) talk =
    c.open.ensures.opened ∙ ap (λ (n : ℕ). opened_with b.identity.side h (record { size = n; short = c.is_short-short.result }) talk) c.size-size.ensures.value
    ∙ ap (λ (x : Bool). opened_with b.identity.side h (record { size = size_of_code c.on_packet.new.self.size_code; short = x }) talk) c.is_short-short.ensures
    ∙ ap (λ (s : State). opened_with b.identity.side h (measure_of s) talk) told.state in
    subst (λ (x : EngineState). Does (packet_effect h kept false p x) (end_of h kept after) x after) c.self.view_is
    (by_outcome (end_keeper b.identity.side h) b.identity false up e (message_of p) talk (end_of h kept after) b after told.outcome
    (subst (λ (t : DialogueState). Does (goes_on b.number (end_keeper b.identity.side h) false e t) (end_of h kept after) b after) opened
    (goes_on_does h kept false e b m after told.state told.emitted
    (ap (λ (x : EngineState). x.stage) c.self.view_is ∙ c.requires.linked) refl refl refl c.speak-in-Ok-Up.ensures.spoken c.speak-in-Ok-Up.ensures.still)))

pub returns-in-Ok-Closed-clause-does : goal.returns-in-Ok-Closed-clause-does
returns-in-Ok-Closed-clause-does g c =
    let h = g.S.Spool.holdings c.args.spool.now in
    let kept = g.S.Spool.kept c.args.spool.now in
    let p = shown c.args.packet.now in
    let i = c.self.inside in
    let b = shown_by c.self.view_is in
    let e : Effect = step i.link (packet_found p) in
    let told = subst (λ (o : Outcome). Follows e i.link c.on_packet.new.self i.outbox c.on_packet.new.out (answered (Ok o)))
    c.in-Ok-Closed.field-0-is c.in-Ok-Closed.ensures in
    let after = c.finish.new.self in
    let done = c.finish.ensures in
    let talk = dialogue_of h kept b.dialogue in
    let parted = c.has_parted-has_parted.ensures ∙ has_parted_told h kept b.dialogue in
    subst (λ (x : EngineState). Does (packet_effect h kept false p x) (end_of h kept after) x after) c.self.view_is
    (by_outcome (end_keeper b.identity.side h) b.identity false closed e (message_of p) talk (end_of h kept after) b after told.outcome
    (subst (λ (x : Bool). Does (ends_so b.number b.identity x ends.PeerClosed e talk false) (end_of h kept after) b after) parted
    (ends_does b.identity c.has_parted-has_parted.result ends.PeerClosed e talk (dialogue_of h kept after.dialogue) false b after
    done.stage (done.link ∙ told.state) (ap (dialogue_of h kept) done.dialogue)
    (done.emitted ∙ ap (λ x. x ++ map entry_of (leave c.has_parted-has_parted.result b.identity.side)) told.emitted)
    done.identity done.own done.number)))

pub returns-in-Ok-Nothing-clause-says : goal.returns-in-Ok-Nothing-clause-says
returns-in-Ok-Nothing-clause-says g c = c.speak.ensures.says

pub returns-in-Err-Halted-clause-says : goal.returns-in-Err-Halted-clause-says
returns-in-Err-Halted-clause-says g c = c.speak-in-Err-Halted.ensures.says

pub returns-in-Ok-Up-clause-says : goal.returns-in-Ok-Up-clause-says
returns-in-Ok-Up-clause-says g c = c.speak-in-Ok-Up.ensures.says
