use Rattle.std.proofs.Common.{◌≢◌, ◌++◌, [], ◌∷◌, ◌∙◌, List, ℕ, All, ap, append_assoc, refl, sym, subst}
use Rattle.uug_conversation.specs.Partial.{Partial}
use Rattle.uug_conversation.specs.PartialView.{key_of}
use Rattle.uug_talk.specs.Named.{read_named}
use Rattle.uug_store.proofs.PartialLemmas.{read_back}
use Rattle.uug_store.specs.PartialTexts.{partial_in}
use Rattle.uug_store.proofs.partial_file.held_line.Goals as goal

pub returns-clause-back : goal.returns-clause-back
returns-clause-back c = λ bytes.
    let n = c.args.named.now in
    let p : Partial = record { key = key_of n.name n.told; bytes = bytes } in
    ap partial_in
    (ap (λ (text : List ℕ). text ++ bytes) c.add_line.ensures
    ∙ append_assoc c.as_slice.result.now (10 ∷ []) bytes
    ∙ ap (λ (line : List ℕ). line ++ 10 ∷ bytes) (c.as_slice.ensures.value ∙ c.line.ensures.text))
    ∙ read_back p n refl (subst (All (λ b. b ≢ 10)) c.line.ensures.text c.line.ensures.line) (ap read_named (sym c.line.ensures.text) ∙ c.line.ensures.back)
