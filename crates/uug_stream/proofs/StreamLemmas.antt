-- Pieces that are written one after the other, and faults that are counted on the way.
use Rattle.std.proofs.Common.{◌≡◌, ℕ, ◌-◌, List, ◌++◌, Option, Some, None, sym, ap, ◌∙◌, append_assoc, length, take, drop}
use Rattle.std.proofs.lemmas.List.{take_rest, take-append-drop}
use Rattle.uug_stream.specs.Streams.{Appends}

-- the front grows by n elements of the rest, as slices of it are cut
pub front-grows : (s front rest : List ℕ) (n : ℕ) → s ≡ front ++ rest → s ≡ (front ++ take n rest) ++ take (length rest - n) (drop n rest)
front-grows s front rest n h =
    h ∙ ap (λ x. front ++ x) (sym (take-append-drop n rest)) ∙ sym (append_assoc front (take n rest) (drop n rest))
    ∙ ap (λ x. (front ++ take n rest) ++ x) (sym (take_rest rest n))

-- one piece and then another
pub Appends-join : (a b : List ℕ) (x y z : Option (List ℕ)) → Appends a x y → Appends b y z → Appends (a ++ b) x z
Appends-join a b None y z h k = tt
Appends-join a b (Some s) y z h k =
    let then : z ≡ Some ((s ++ a) ++ b) = rw h at k in
    then ∙ ap Some (append_assoc s a b)
