use Rattle.std.proofs.Common.{sym, ◌∙◌, ap}
use Rattle.uug_session.specs.EndStep.{has_room}
use Rattle.uug_session.specs.Engine.{EngineState, after_sends}
use Rattle.uug_conversation.specs.DialogueState.{end_keeper}
use Rattle.uug_conversation.specs.DialogueValue.{dialogue_of}
use Rattle.uug_session.proofs.SpeakLemmas.{room_told, no_room, stays_so, says_nothing_more}
use Rattle.uug_session.proofs.EngineLemmas.{shown_by}
use Rattle.uug_session.proofs.engine.Engine.send_next.Goals as goal

pub returns-then-not-room-clause-done : goal.returns-then-not-room-clause-done
returns-then-not-room-clause-done g c n =
    let h = g.S.Spool.holdings c.args.spool.now in
    let kept = g.S.Spool.kept c.args.spool.now in
    let e = c.args.self.now in
    stays_so e.outbox.entries _ e.link (dialogue_of h kept e.dialogue)
    (no_room (end_keeper e.identity.side h) n e.link (dialogue_of h kept e.dialogue)
    (ap (λ (x : EngineState). has_room x.link) (sym c.self.view_is)
    ∙ room_told c.self.inside.link c.room.result c.room.ensures ∙ c.if-not-room.true))

pub returns-then-not-take_message-clause-done : goal.returns-then-not-take_message-clause-done
returns-then-not-take_message-clause-done g c n =
    let h = g.S.Spool.holdings c.args.spool.now in
    let kept = g.S.Spool.kept c.args.spool.now in
    let i = c.self.inside in
    let e = shown_by c.self.view_is in
    ap (after_sends n h kept) (sym c.self.view_is)
    ∙ says_nothing_more n h kept e c.take_message.new.self
    c.if-not-take_message.ensures.none c.take_message.ensures.sent
