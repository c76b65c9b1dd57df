-- What an end gives of the public folder, file by file.
use Rattle.std.proofs.Common.{◌≡◌, ◌∙◌, ◌&&◌, ◌++◌, ℕ, Bool, true, List, ap, append_assoc}
use Rattle.std.proofs.lemmas.List.Folds.{list_all-append}
use Rattle.uug_conversation.specs.declared.stored.Stored.{Stored}
use Rattle.uug_taylor_run.specs.PublicNames.{AddsPublic, is_public_file}

both : (a b : Bool) → a ≡ true → b ≡ true → (a && b) ≡ true
both a b h k = ap (λ x. x && b) h ∙ k

pub AddsPublic-join : {A : Type 0} (folders : List ℕ) (x y z : List (Stored A)) → AddsPublic folders x y → AddsPublic folders y z → AddsPublic folders x z
AddsPublic-join folders x y z h k = record {
  more = h.more ++ k.more;
  is_all = k.is_all ∙ ap (λ s. s ++ k.more) h.is_all ∙ append_assoc x h.more k.more;
  are_public = list_all-append (is_public_file folders) h.more k.more ∙ both _ _ h.are_public k.are_public;
}
