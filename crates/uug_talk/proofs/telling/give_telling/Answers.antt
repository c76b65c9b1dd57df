use Rattle.std.proofs.Common.{◌++◌, ◌∷◌, ◌∙◌, ap, subst, sym, arith}
use Rattle.uug_talk.proofs.TellingLemmas.{IsSized, no_zero_told, give_joined, give_spelled, give_tells}
use Rattle.uug_talk.proofs.JoinedLemmas.{HasNoZero}
use Rattle.uug_talk.specs.Digests.{digest_text, told_by_answer}
use Rattle.uug_talk.specs.Answer.{SpellsAnswer}
use Rattle.uug_talk.specs.Words.{words}
use Rattle.uug_talk.specs.declared.answer.Answer.TheVariants.{GiveYes}
use Rattle.uug_talk.proofs.telling.give_telling.Goals as goal

pub returns-clause-text : goal.returns-clause-text
returns-clause-text c =
    c.with_digest.ensures.text ∙ ap (λ z. z ++ 32 ∷ digest_text c.args.told.now) (c.deref.ensures.0 ∙ c.write_answer.ensures.text)
    ∙ give_joined c.args.mode c.args.told.now

pub returns-clause-answer : goal.returns-clause-answer
returns-clause-answer c =
    let mode = c.args.mode in
    let told = c.args.told.now in
    let is = c.with_digest.ensures.text ∙ ap (λ z. z ++ 32 ∷ digest_text told) (c.deref.ensures.0 ∙ c.write_answer.ensures.text) ∙ give_joined mode told in
    let sized : IsSized told = record { size = omega (arith, c.with_digest.ensures.size); bytes = c.with_digest.ensures.bytes; length = c.with_digest.ensures.length } in
    let spelled = subst (λ t. SpellsAnswer (words t) (GiveYes mode)) c.write_answer.ensures.text c.write_answer.ensures.read_back.spelled in
    record {
      within = omega (arith, c.with_digest.ensures.within);
      spelled = subst (λ t. SpellsAnswer (words t) (GiveYes mode)) (sym is) (give_spelled mode told spelled sized);
    }

pub returns-clause-told : goal.returns-clause-told
returns-clause-told c =
    let mode = c.args.mode in
    let told = c.args.told.now in
    let is = c.with_digest.ensures.text ∙ ap (λ z. z ++ 32 ∷ digest_text told) (c.deref.ensures.0 ∙ c.write_answer.ensures.text) ∙ give_joined mode told in
    let sized : IsSized told = record { size = omega (arith, c.with_digest.ensures.size); bytes = c.with_digest.ensures.bytes; length = c.with_digest.ensures.length } in
    ap told_by_answer is ∙ give_tells mode told sized

pub returns-clause-command : goal.returns-clause-command
returns-clause-command c =
    let told = c.args.told.now in
    let sized : IsSized told = record { size = omega (arith, c.with_digest.ensures.size); bytes = c.with_digest.ensures.bytes; length = c.with_digest.ensures.length } in
    record {
      short = omega (arith, c.with_digest.ensures.within);
      no_zero = subst HasNoZero (sym c.with_digest.ensures.text)
          (no_zero_told _ told (subst HasNoZero (sym c.deref.ensures.0) c.write_answer.ensures.command.no_zero) sized);
    }
