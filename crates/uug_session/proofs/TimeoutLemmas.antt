-- Whether anything goes out at a timeout.
use Rattle.std.proofs.Common.{◌≡◌, ◌≢◌, ◌↔◌, Bool, true, false, IsTrue, List, [], ◌∷◌, refl, sym, ◌∙◌}
use Rattle.uug_link.specs.Step.{Emission}

pub nothing_emitted : (es : List Emission) (speaks : Bool) → speaks ≡ false → IsTrue speaks ↔ (es ≢ []) → es ≡ []
nothing_emitted [] speaks silent both = refl
nothing_emitted (e ∷ es) speaks silent both =
    let says : speaks ≡ true = both.1 (λ none. cc) in
    absurd (let never : true ≡ false = sym says ∙ silent in cc)
