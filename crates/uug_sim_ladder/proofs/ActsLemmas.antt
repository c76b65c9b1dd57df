-- What an end does, drawn step by step.
use Rattle.std.proofs.Common.{◌≡◌, ℕ, ◌-◌, List, drop, length, min, take, Vec, ap, sym, ◌∙◌}
use Rattle.std.proofs.lemmas.List.{drop-map, drop_min, take_rest}
use Rattle.uug_line.specs.Shown.{lists_in}

-- what stands behind the first ones, so many or all
pub rest_behind : {T : Type 0} (items : List T) (count least : ℕ) → least ≡ min count (length items) →
    take (length items - least) (drop least items) ≡ drop count items
rest_behind items count least h = take_rest items least ∙ ap (λ n. drop n items) h ∙ drop_min count items

pub behind_first : {A : Type 0} (packets : List (Vec ℕ A)) (count least : ℕ) → least ≡ min count (length packets) →
    lists_in (take (length packets - least) (drop least packets)) ≡ drop count (lists_in packets)
behind_first packets count least h =
    ap lists_in (rest_behind packets count least h) ∙ sym (drop-map (λ v. v.items) count packets)
