use Rattle.std.proofs.Common.{sym, ap, ◌∙◌}
use Rattle.uug_session.specs.Engine.{EngineState}
use Rattle.uug_session.specs.EndStep.{is_up}
use Rattle.uug_conversation.specs.DialogueValue.{dialogue_is_through}
use Rattle.uug_session.proofs.SpeakLemmas.{goes_on_open, says_nothing_down, up_from, up_told}
use Rattle.uug_session.proofs.engine.Engine.speak.Goals as goal

pub returns-then-not-is_up-clause-spoken : goal.returns-then-not-is_up-clause-spoken
returns-then-not-is_up-clause-spoken g c =
    says_nothing_down (g.S.Spool.holdings c.args.spool.now) (g.S.Spool.kept c.args.spool.now) c.args.self.now
    (ap (λ (x : EngineState). is_up x.link.phase) (sym c.self.view_is)
    ∙ up_told c.self.inside.link c.is_up.result c.is_up.ensures.up ∙ c.if-not-is_up.true)

pub returns-else-is_through-clause-spoken : goal.returns-else-is_through-clause-spoken
returns-else-is_through-clause-spoken g c =
    goes_on_open (g.S.Spool.holdings c.args.spool.now) (g.S.Spool.kept c.args.spool.now) c.args.self.now c.send_all.new.self
    (ap (λ (x : EngineState). x.link.phase) (sym c.self.view_is)
    ∙ up_from c.self.inside.link c.is_up.result c.is_up.ensures.up c.if-not-is_up.false)
    c.send_all.ensures.sent
    (ap (λ (x : EngineState). dialogue_is_through x.dialogue) (sym c.self-2.view_is) ∙ sym c.is_through.ensures ∙ c.if-is_through.false)
