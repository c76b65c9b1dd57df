use Rattle.std.proofs.Common.{◌≡◌, ℕ, List, [], ◌∷◌, ◌++◌, Option, Some, None, ap, ◌∙◌, append_assoc}
use Rattle.uug_talk.specs.Mode.{mode_digits}
use Rattle.uug_talk.specs.Words.{joined}
use Rattle.uug_talk.specs.Order.{order_text, copy_text}
use Rattle.uug_talk.specs.declared.order.Order.TheVariants.{Send}
use Rattle.uug_talk.proofs.order.send_text.Goals as goal

send_pieces : (s t u : List ℕ) (temp : Option (List ℕ)) (mode : ℕ)
    → (joined ((83 ∷ []) ∷ s ∷ t ∷ u ∷ []) ++ copy_text temp) ++ 32 ∷ mode_digits mode ≡ order_text (Send s t u temp mode)
send_pieces s t u None mode = simp append_assoc
send_pieces s t u (Some temp) mode = simp append_assoc

pub returns-clause-text : goal.returns-clause-text
returns-clause-text c =
    let a = c.args in
    c.push_word.ensures.items
    ∙ ap (λ z. z ++ 32 ∷ c.mode_digits.result) c.push_copy.ensures.text
    ∙ ap (λ z. (z ++ copy_text a.temp.now) ++ 32 ∷ c.mode_digits.result) c.names_text-text.ensures.text
    ∙ ap (λ z. (joined ((83 ∷ []) ∷ a.source.now ∷ a.target.now ∷ a.user.now ∷ []) ++ copy_text a.temp.now) ++ 32 ∷ z) c.mode_digits.ensures
    ∙ send_pieces a.source.now a.target.now a.user.now a.temp.now a.mode
