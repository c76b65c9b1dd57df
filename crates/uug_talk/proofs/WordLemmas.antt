-- The words of a text, one by one.
use Rattle.std.proofs.Common.{◌≡◌, ℕ, suc, ◌+◌, ◌<◌, Bool, true, false, List, [], ◌∷◌, length, take, drop, filter, refl, sym, ap, ◌∙◌, arith}
use Rattle.std.specs.List.{slice_split, prefix_len, position_or_len}
use Rattle.uug_talk.specs.Words.{is_space, is_word, words}

one_more : (n : ℕ) → 1 + n ≡ suc n
one_more n = omega arith

module _ (p : ℕ → Bool) where
  abbrev parts : List ℕ → List (List ℕ)
  parts text = filter is_word (slice_split p text)

  skip_step : (b : Bool) (x : ℕ) (xs : List ℕ) → p x ≡ b → parts xs ≡ parts (drop (prefix_len p xs) xs) → parts (x ∷ xs) ≡ parts (drop (prefix_len p (x ∷ xs)) (x ∷ xs))
  skip_step true x xs e h = simp e (simp one_more h)
  skip_step false x xs e h = simp e

  skip_front : (text : List ℕ) → parts text ≡ parts (drop (prefix_len p text) text)
  skip_front [] = refl
  skip_front (x ∷ xs) = skip_step (p x) x xs refl (skip_front xs)

  -- the first part and what the others are
  record FirstPart (text : List ℕ) : Type 0 where
    others : List (List ℕ)
    split : slice_split p text ≡ take (position_or_len p text) text ∷ others
    rest : parts (drop (position_or_len p text) text) ≡ filter is_word others

  first_step : (b : Bool) (x : ℕ) (xs : List ℕ) → p x ≡ b → FirstPart xs → FirstPart (x ∷ xs)
  first_step true x xs e f = record { others = slice_split p xs; split = simp e; rest = simp e }
  first_step false x xs e f = record {
    others = f.others;
    split = simp (e, f.split) (simp one_more);
    rest = simp e (simp one_more f.rest);
  }

  first_part : (text : List ℕ) → FirstPart text
  first_part [] = record { others = []; split = refl; rest = refl }
  first_part (x ∷ xs) = first_step (p x) x xs refl (first_part xs)

  part_in_front : (t : List ℕ) → FirstPart t → is_word (take (position_or_len p t) t) ≡ true → parts t ≡ take (position_or_len p t) t ∷ parts (drop (position_or_len p t) t)
  part_in_front t f w = ap (filter is_word) f.split ∙ rw w (ap (λ r. take (position_or_len p t) t ∷ r) (sym f.rest))

  word_in_front : (b : Bool) (x : ℕ) (xs : List ℕ) → p x ≡ b → prefix_len p (x ∷ xs) ≡ 0
      → parts (x ∷ xs) ≡ take (position_or_len p (x ∷ xs)) (x ∷ xs) ∷ parts (drop (position_or_len p (x ∷ xs)) (x ∷ xs))
  word_in_front true x xs e h = absurd (omega (arith, rw e at h))
  word_in_front false x xs e h = part_in_front (x ∷ xs) (first_part (x ∷ xs)) (simp e (simp one_more))

module _ where
  front_step : (p : ℕ → Bool) (b : Bool) (x : ℕ) (xs : List ℕ) → p x ≡ b → prefix_len p (drop (prefix_len p xs) xs) ≡ 0 → prefix_len p (drop (prefix_len p (x ∷ xs)) (x ∷ xs)) ≡ 0
  front_step p true x xs e h = simp e (simp one_more h)
  front_step p false x xs e h = simp e

  front_gone : (p : ℕ → Bool) (xs : List ℕ) → prefix_len p (drop (prefix_len p xs) xs) ≡ 0
  front_gone p [] = refl
  front_gone p (x ∷ xs) = front_step p (p x) x xs refl (front_gone p xs)

-- a text of spaces has no word
pub words_of_spaces : (text t : List ℕ) → t ≡ drop (prefix_len is_space text) text → length t ≡ 0 → words text ≡ []
words_of_spaces text [] e h = skip_front is_space text ∙ ap (parts is_space) (sym e)
words_of_spaces text (x ∷ xs) e h = absurd (omega arith)

-- the first word, and the words behind it
pub words_first : (text t : List ℕ) (m : ℕ) → t ≡ drop (prefix_len is_space text) text → 0 < length t → m ≡ position_or_len is_space t → words text ≡ take m t ∷ words (drop m t)
words_first text [] m e h k = absurd (omega arith)
words_first text (x ∷ xs) m e h k =
    skip_front is_space text ∙ ap (parts is_space) (sym e)
    ∙ word_in_front is_space (is_space x) x xs refl (ap (prefix_len is_space) e ∙ front_gone is_space text)
    ∙ ap (λ i. take i (x ∷ xs) ∷ words (drop i (x ∷ xs))) (sym k)
