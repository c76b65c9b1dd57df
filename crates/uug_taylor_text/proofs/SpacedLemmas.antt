-- The words of a text in which each word has a space in front.
use Rattle.std.proofs.Common.{◌≡◌, ℕ, List, [], ◌∷◌, ◌++◌, filter, refl, ap, ◌∙◌}
use Rattle.std.proofs.lemmas.List.{append-nil}
use Rattle.std.proofs.lemmas.List.Splits.{slice_split_none, slice_split_at}
use Rattle.std.specs.List.{AllByRecursion, slice_split}
use Rattle.uug_talk.specs.Words.{is_space, is_word, words}
use Rattle.uug_taylor_text.specs.CommandTexts.{HasNoSpace}
use Rattle.uug_taylor_text.specs.ExecutionTexts.{spaced}

pub words_of_one : (word : List ℕ) → HasNoSpace word → words word ≡ filter is_word (word ∷ [])
words_of_one word h = ap (filter is_word) (slice_split_none is_space word h)

pub words_behind : (word rest : List ℕ) → HasNoSpace word → words (word ++ 32 ∷ rest) ≡ filter is_word (word ∷ slice_split is_space rest)
words_behind word rest h = ap (filter is_word) (slice_split_at is_space word 32 rest h refl)

in_front : (word : List ℕ) (left right : List (List ℕ)) → filter is_word left ≡ filter is_word right
    → filter is_word (word ∷ left) ≡ filter is_word (word ∷ right)
in_front [] left right h = h
in_front (b ∷ bs) left right h = ap (λ r. (b ∷ bs) ∷ r) h

-- the words are those that are not empty
pub spaced_words : (ws : List (List ℕ)) → AllByRecursion HasNoSpace ws → words (spaced ws) ≡ filter is_word ws
spaced_words [] h = refl
spaced_words (v ∷ []) h = ap words (append-nil v) ∙ words_of_one v h.0
spaced_words (v ∷ w ∷ ws) h =
    words_behind v (w ++ spaced ws) h.0 ∙ in_front v (slice_split is_space (w ++ spaced ws)) (w ∷ ws) (spaced_words (w ∷ ws) h.1)
