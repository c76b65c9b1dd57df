use Rattle.std.proofs.Common.{◌∙◌, ap, ap₂, ◌++◌, codes}
use Rattle.uug_talk.proofs.TellingLemmas.{pieces}
use Rattle.uug_talk.proofs.telling.with_digest.Goals as goal

pub returns-clause-text : goal.returns-clause-text
returns-clause-text c =
    let text = c.args.text.now in
    let front = c.push_all.ensures.items ∙ ap (λ z. z ++ text) c.new-telling.ensures in
    let quoted = c.push_all-2.ensures.items ∙ ap (λ z. z ++ codes " \"\" 0x") front in
    let sized = c.push_all-3.ensures.items ∙ ap₂ (λ z s. z ++ s) quoted c.size_digits.ensures.digits in
    let named = c.push_all-4.ensures.items ∙ ap (λ z. z ++ codes " sha256:") sized in
    c.push_all-5.ensures.items ∙ ap₂ (λ z s. z ++ s) named c.hash_digits.ensures.digits ∙ pieces text _ _
