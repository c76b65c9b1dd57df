-- How far the messages of a file bring it.
use Rattle.std.proofs.Common.{◌≡◌, ℕ, ◌+◌, ◌<◌, ◌≤◌, Bool, true, false, nat_le, List, [], ◌∷◌, ◌++◌, length, take, drop, refl, ap, arith}
use Rattle.std.proofs.lemmas.Bool.Decides.{nat_tests}
use Rattle.std.proofs.lemmas.List.{length-append, length-take}
use Rattle.std.specs.List.{concat}
use Rattle.uug_talk.specs.Chunks.{cut_up_to, file_messages}
use Rattle.uug_conversation.specs.Left.{Advances, by_messages, by_nothing, to_its_end}

far_by : (size whole before first came : ℕ) → 0 < size → 0 < whole → (size ≤ whole → first ≡ size) → (whole ≤ size → first ≡ whole) →
    first ≤ came → came ≤ whole → (fits : Bool) → nat_le size whole ≡ fits → Advances size (before + whole) before (before + came)
far_by size whole before first came some any full last least most true e =
    let fits : size ≤ whole = grind (arith, nat_tests, e) in
    let is_full = full fits in
    by_messages (omega (arith, is_full, least))
far_by size whole before first came some any full last least most false e =
    let short : whole ≤ size = grind (arith, nat_tests, e) in
    let is_last = last short in
    to_its_end (omega (arith, is_last, least, any)) (omega (arith, is_last, least, most))

pub advances_by : (size before : ℕ) (bytes : List ℕ) (came rest : List (List ℕ)) → 0 < size →
    file_messages size bytes ≡ came ++ rest → length (concat came) ≤ length bytes →
    Advances size (before + length bytes) before (before + length (concat came))
advances_by size before bytes [] rest some e most = by_nothing (omega arith)
advances_by size before [] (m ∷ more) rest some e most = by_nothing (omega (arith, most))
advances_by size before (x ∷ xs) (m ∷ more) rest some e most =
    let messages : take size (x ∷ xs) ∷ (cut_up_to (length xs) size (drop size (x ∷ xs)) ++ [] ∷ []) ≡ m ∷ (more ++ rest) = e in
    let first : take size (x ∷ xs) ≡ m = cc in
    let taken = ap length first in
    let sizes = length-append m (concat more) in
    far_by size (length (x ∷ xs)) before (length m) (length (concat (m ∷ more))) some (omega arith)
    (λ fits. omega (arith, taken, length-take size (x ∷ xs), fits)) (λ short. omega (arith, taken, length-take size (x ∷ xs), short))
    (omega (arith, sizes)) most (nat_le size (length (x ∷ xs))) refl
