use Rattle.std.proofs.Common.{◌≡◌, ◌-◌, ◌+◌, ℕ, zero, suc, ap, refl, sym, ◌∙◌, arith}
use Rattle.uug_link.specs.declared.limits.TheConstants.{WINDOW_MAX}
use Rattle.uug_session.specs.Engine.{after_sends}
use Rattle.uug_conversation.specs.DialogueValue.{dialogue_of}
use Rattle.uug_session.proofs.Greetings.SaysLemmas.{sends_say}
use Rattle.uug_session.proofs.SpeakLemmas.{stays_so}
use Rattle.uug_session.proofs.engine.Engine.send_all.Goals as goal

pub loop-sent-preserved : goal.loop-sent-preserved
loop-sent-preserved g c =
    let h = g.S.Spool.holdings c.args.spool.now in
    let kept = g.S.Spool.kept c.args.spool.now in
    let left : ℕ = WINDOW_MAX - (c.loop-sent._sent + 1) in
    let one_less : suc left ≡ WINDOW_MAX - c.loop-sent._sent = omega (arith, c.loop-sent-test.true) in
    let one = c.if-not-send_next.ensures in
    let before = c.loop-sent.invariant in
    record {
      same = before.same;
      within = omega (arith, c.loop-sent-test.true);
      sends = sym (one.more left) ∙ ap (λ (n : ℕ). after_sends n h kept c.loop-sent.self) one_less ∙ before.sends;
      still = record {
        number = one.still.number ∙ before.still.number;
        stage = one.still.stage ∙ before.still.stage;
        identity = one.still.identity ∙ before.still.identity;
        own = one.still.own ∙ before.still.own;
      };
      up = λ u. one.up (before.up u);
      spare = omega (arith, one.spare, before.spare);
    }

pub returns-clause-sent : goal.returns-clause-sent
returns-clause-sent g c =
    let h = g.S.Spool.holdings c.args.spool.now in
    let kept = g.S.Spool.kept c.args.spool.now in
    let e = c.loop-sent.self in
    let none_left : zero ≡ WINDOW_MAX - c.loop-sent._sent = omega (arith, c.loop-sent-test.false) in
    sym (stays_so e.outbox.entries _ e.link (dialogue_of h kept e.dialogue) refl)
    ∙ ap (λ (n : ℕ). after_sends n h kept e) none_left ∙ c.loop-sent.invariant.sends

pub returns-then-not-send_next-clause-says : goal.returns-then-not-send_next-clause-says
returns-then-not-send_next-clause-says g c within =
    let h = g.S.Spool.holdings c.args.spool.now in
    let kept = g.S.Spool.kept c.args.spool.now in
    sends_say h kept c.args.self.now c.send_next.new.self within
    (sym (c.if-not-send_next.ensures.done (WINDOW_MAX - c.loop-sent._sent)) ∙ c.loop-sent.invariant.sends)

pub returns-clause-says : goal.returns-clause-says
returns-clause-says g c within =
    let h = g.S.Spool.holdings c.args.spool.now in
    let kept = g.S.Spool.kept c.args.spool.now in
    let e = c.loop-sent.self in
    let none_left : zero ≡ WINDOW_MAX - c.loop-sent._sent = omega (arith, c.loop-sent-test.false) in
    sends_say h kept c.args.self.now e within
    (sym (stays_so e.outbox.entries _ e.link (dialogue_of h kept e.dialogue) refl)
    ∙ ap (λ (n : ℕ). after_sends n h kept e) none_left ∙ c.loop-sent.invariant.sends)
