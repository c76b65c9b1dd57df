-- What is appended in parts.
use Rattle.std.proofs.Common.{◌≡◌, ℕ, List, ◌++◌, Result, Ok, Err, OnOk, ap, ◌∙◌, append_assoc}

pub two_first : (before after t w : List ℕ) → after ≡ before ++ t ++ w → after ≡ before ++ (t ++ w)
two_first before after t w h = h ∙ append_assoc before t w

pub one_more : (before between after part t : List ℕ) → between ≡ before ++ part → after ≡ between ++ t → after ≡ before ++ (part ++ t)
one_more before between after part t e h = h ∙ (ap (λ s. s ++ t) e ∙ append_assoc before part t)

pub two_more : (before between after part t w : List ℕ) → between ≡ before ++ part → after ≡ between ++ t ++ w
    → after ≡ before ++ (part ++ t ++ w)
two_more before between after part t w e h =
    h ∙ (ap (λ s. s ++ t ++ w) e ∙ (ap (λ s. s ++ w) (append_assoc before part t) ∙ append_assoc before (part ++ t) w))

-- the last ones, where that goes well
pub then_one : {T E : Type 0} (answer : Result T E) (before between after part t : List ℕ) → between ≡ before ++ part
    → OnOk answer (after ≡ between ++ t) → OnOk answer (after ≡ before ++ (part ++ t))
then_one (Ok x) before between after part t e h = one_more before between after part t e h
then_one (Err x) before between after part t e h = tt

pub then_two : {T E : Type 0} (answer : Result T E) (before between after part t w : List ℕ) → between ≡ before ++ part
    → OnOk answer (after ≡ between ++ t ++ w) → OnOk answer (after ≡ before ++ (part ++ t ++ w))
then_two (Ok x) before between after part t w e h = two_more before between after part t w e h
then_two (Err x) before between after part t w e h = tt
