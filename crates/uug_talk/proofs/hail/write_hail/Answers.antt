use Rattle.std.proofs.Common.{◌∙◌, [], ◌∷◌, ◌++◌, sym, ap, subst}
use Rattle.uug_talk.specs.declared.hail.TheConstants.{TEXT_START}
use Rattle.uug_talk.specs.Texts.{IsFirstText}
use Rattle.uug_talk.proofs.TextLemmas.{written_text}
use Rattle.uug_talk.proofs.hail.write_hail.Goals as goal

pub returns-clause-read_back : goal.returns-clause-read_back
returns-clause-read_back c =
    let text = c.args.text.now in
    let spelled =
    c.push-2.ensures.items
    ∙ ap (λ z. z ++ 0 ∷ []) (c.in-Ok.ensures.ok ∙ ap (λ z. z ++ text) (c.push.ensures.items ∙ ap (λ z. z ++ TEXT_START ∷ []) c.new-written.ensures)) in
    subst (λ t. IsFirstText t text) (sym spelled) (written_text text c.requires.plain c.requires.short)
