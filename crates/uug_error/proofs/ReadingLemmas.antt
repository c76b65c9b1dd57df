-- What was read of a reader, up to one byte more than the most.
use Rattle.std.proofs.Common.{◌≡◌, ℕ, ◌+◌, ◌≤◌, List, [], ◌++◌, length, take, Option, Some, None, ap, subst, ◌∙◌, arith}
use Rattle.std.proofs.lemmas.List.{length-take, take_all}
use Rattle.std.specs.Option.{option_map}
use Rattle.std.specs.Prelude.{IfSome}

-- no more than the most was read, so that is all
all_read : (most : ℕ) (remaining : Option (List ℕ)) (read : List ℕ)
    → IfSome (option_map (take (most + 1)) remaining) (λ (xs : List ℕ). read ≡ [] ++ xs) → length read ≤ most
    → IfSome remaining (λ (all : List ℕ). read ≡ all)
all_read most None read is within = tt
all_read most (Some all) read is within =
    let same = ap (λ (bytes : List ℕ). length bytes) is in let size = length-take (most + 1) all in
    is ∙ take_all (most + 1) all (omega (arith, same, size, within))

-- by the reader whose limit is one byte more than the most
pub is_all : (most limit : ℕ) (known remaining : Option (List ℕ)) (front read : List ℕ)
    → limit ≡ most + 1 → known ≡ remaining → front ≡ []
    → IfSome (option_map (take limit) known) (λ (xs : List ℕ). read ≡ front ++ xs) → length read ≤ most
    → IfSome remaining (λ (all : List ℕ). read ≡ all)
is_all most limit known remaining front read is_limit is_known is_front found within =
    all_read most remaining read
    (subst (λ (k : Option (List ℕ)). IfSome (option_map (take (most + 1)) k) (λ (xs : List ℕ). read ≡ [] ++ xs)) is_known
    (subst (λ (n : ℕ). IfSome (option_map (take n) known) (λ (xs : List ℕ). read ≡ [] ++ xs)) is_limit
    (subst (λ (f : List ℕ). IfSome (option_map (take limit) known) (λ (xs : List ℕ). read ≡ f ++ xs)) is_front found)))
    within
