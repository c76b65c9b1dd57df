use Rattle.std.proofs.Common.{◌≡◌, ◌-◌, ◌++◌, ℕ, List, length, drop, replicate, ap, ◌∙◌}
use Rattle.std.proofs.lemmas.List.{drop-replicate}
use Rattle.uug_talk.specs.declared.name.TheConstants.{NAME_MAX}
use Rattle.uug_talk.proofs.name.padded.Goals as goal

written_in_front : (xs front : List ℕ) → front ≡ xs → front ++ drop (length xs) (replicate NAME_MAX 0) ≡ xs ++ replicate (NAME_MAX - length xs) 0
written_in_front xs front e =
    ap (λ f. f ++ drop (length xs) (replicate NAME_MAX 0)) e
    ∙ ap (λ r. xs ++ r) (drop-replicate (length xs) NAME_MAX 0)

pub returns : goal.returns
returns c = written_in_front _ _ c.copy_from_slice.ensures.after
