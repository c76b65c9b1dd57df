-- The bytes of what a rung sends, one after the other.
use Rattle.std.proofs.Common.{◌≡◌, ℕ, ◌+◌, ◌-◌, ◌<◌, ◌==◌, Bool, false, List, [], ◌∷◌, ◌++◌, drop, length, Some, ap, arith, ◌∙◌, sym}
use Rattle.std.proofs.lemmas.Bool.Decides.{nat_tests}
use Rattle.std.proofs.lemmas.List.{append_assoc, drop_more, length-drop}
use Rattle.uug_sim_ladder.specs.declared.way.WayByte.{WayByte}
use Rattle.uug_sim_ladder.specs.Way.{rest_of}

abbrev byte_of : ℕ → (is_last : Bool) → WayByte
byte_of place is_last = record { of = Some place; is_first = false; is_last = is_last }

last_is : (count i : ℕ) → i < count → (count - i == 1) ≡ (count - (i + 1) == 0)
last_is count i within = grind (arith, nat_tests)

-- one more of them follows
pub rest_more : (place i : ℕ) (bytes : List ℕ) (before after all : List WayByte) → i < length bytes →
    after ≡ before ++ byte_of place (length bytes - i == 1) ∷ [] → before ++ rest_of place (drop i bytes) ≡ all →
    after ++ rest_of place (drop (i + 1) bytes) ≡ all
rest_more place i bytes before after all within a so_far =
    let rest : List WayByte = rest_of place (drop (i + 1) bytes) in
    ap (λ (w : List WayByte). w ++ rest) a ∙ append_assoc before (byte_of place (length bytes - i == 1) ∷ []) rest
    ∙ ap (λ b. before ++ byte_of place b ∷ rest) (last_is (length bytes) i within ∙ ap (λ n. n == 0) (sym (length-drop (i + 1) bytes)))
    ∙ ap (λ r. before ++ r) (sym (ap (rest_of place) (drop_more bytes i 0 within))) ∙ so_far
