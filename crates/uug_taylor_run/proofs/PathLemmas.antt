-- A path without a slash at its end, as std cuts it.
use Rattle.std.proofs.Common.{◌≡◌, ◌-◌, ℕ, true, false, List, length, take, codes, Option, Some, None, MatchOption, Bor, refl, sym, ap, ◌∙◌, if◌then◌else◌}
use Rattle.std.proofs.lemmas.Bool.Decides.{Decides-eqb}
use Rattle.std.proofs.lemmas.Slice.Eq.{ends_is}
use Rattle.std.proofs.lemmas.Str.Pattern.{ends_text}
use Rattle.std.specs.List.{ends_with}
use Rattle.std.specs.Option.{option_map, unwrap_or}
use Rattle.std.specs.Prelude.{nat_eq}
use Rattle.std.specs.Str.Pattern.{FindsTextSuffix, StripsSuffix}
use Rattle.uug_taylor_run.specs.PublicNames.{without_slash}

-- takes the clause of `strip_suffix` at a slash
pub slash_is_cut : (path : List ℕ) (r : Option (Bor (List ℕ)))
    → MatchOption r (FindsTextSuffix (codes "/") path None) (λ x. StripsSuffix (FindsTextSuffix (codes "/")) path x.now)
    → unwrap_or (option_map (λ x. x.now) r) path ≡ without_slash path
slash_is_cut path None h = ap (λ t. if t then take (length path - 1) path else path) (ends_text false (codes "/") path h)
slash_is_cut path (Some x) h =
    let ends : ends_with nat_eq path (codes "/") ≡ true = (ends_is Decides-eqb path (codes "/") _ refl).1 _ h.1.1 in
    h.2 ∙ ap (λ n. take (length path - n) path) h.1.0 ∙ sym (ap (λ t. if t then take (length path - 1) path else path) ends)
