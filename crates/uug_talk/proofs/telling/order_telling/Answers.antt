use Rattle.std.proofs.Common.{◌++◌, ◌∷◌, ◌∙◌, ap, subst, sym, arith}
use Rattle.uug_talk.proofs.TellingLemmas.{IsSized, no_zero_told, order_joined, order_spelled, order_tells}
use Rattle.uug_talk.proofs.JoinedLemmas.{HasNoZero}
use Rattle.uug_talk.specs.Digests.{digest_text, told_by_order}
use Rattle.uug_talk.specs.Order.{SpellsOrder}
use Rattle.uug_talk.specs.Words.{words}
use Rattle.uug_talk.proofs.telling.order_telling.Goals as goal

pub returns-clause-text : goal.returns-clause-text
returns-clause-text c =
    c.with_digest.ensures.text ∙ ap (λ z. z ++ 32 ∷ digest_text c.args.told.now) (c.deref.ensures.0 ∙ c.write_order.ensures.text)
    ∙ order_joined c.args.order.now c.args.told.now

pub returns-clause-order : goal.returns-clause-order
returns-clause-order c =
    let order = c.args.order.now in
    let told = c.args.told.now in
    let is = c.with_digest.ensures.text ∙ ap (λ z. z ++ 32 ∷ digest_text told) (c.deref.ensures.0 ∙ c.write_order.ensures.text) ∙ order_joined order told in
    let sized : IsSized told = record { size = omega (arith, c.with_digest.ensures.size); bytes = c.with_digest.ensures.bytes; length = c.with_digest.ensures.length } in
    let spelled = subst (λ t. SpellsOrder (words t) order) c.write_order.ensures.text c.write_order.ensures.read_back.spelled in
    record {
      within = omega (arith, c.with_digest.ensures.within);
      spelled = subst (λ t. SpellsOrder (words t) order) (sym is) (order_spelled order told spelled sized);
    }

pub returns-clause-told : goal.returns-clause-told
returns-clause-told c send =
    let order = c.args.order.now in
    let told = c.args.told.now in
    let is = c.with_digest.ensures.text ∙ ap (λ z. z ++ 32 ∷ digest_text told) (c.deref.ensures.0 ∙ c.write_order.ensures.text) ∙ order_joined order told in
    let sized : IsSized told = record { size = omega (arith, c.with_digest.ensures.size); bytes = c.with_digest.ensures.bytes; length = c.with_digest.ensures.length } in
    let spelled = subst (λ t. SpellsOrder (words t) order) c.write_order.ensures.text c.write_order.ensures.read_back.spelled in
    ap told_by_order is ∙ order_tells order told spelled sized send

pub returns-clause-command : goal.returns-clause-command
returns-clause-command c =
    let told = c.args.told.now in
    let sized : IsSized told = record { size = omega (arith, c.with_digest.ensures.size); bytes = c.with_digest.ensures.bytes; length = c.with_digest.ensures.length } in
    record {
      short = omega (arith, c.with_digest.ensures.within);
      no_zero = subst HasNoZero (sym c.with_digest.ensures.text)
          (no_zero_told _ told (subst HasNoZero (sym c.deref.ensures.0) c.write_order.ensures.command.no_zero) sized);
    }
