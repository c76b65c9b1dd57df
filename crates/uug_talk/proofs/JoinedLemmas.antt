-- Words that are joined by single spaces are the words of the text.
use Rattle.std.proofs.Common.{◌≡◌, ◌≢◌, ℕ, ◌<◌, false, List, [], ◌∷◌, length, filter, All, refl, ap, ◌∙◌, arith}
use Rattle.std.proofs.lemmas.Bool.Decides.{nat_tests}
use Rattle.std.proofs.lemmas.List.Elements.{All-weaker, All-nil, All-cons, All-append}
use Rattle.std.proofs.lemmas.List.Splits.{slice_split_none, slice_split_at}
use Rattle.std.specs.List.{AllByRecursion, slice_split}
use Rattle.uug_talk.specs.Name.{IsNameByte, IsName}
use Rattle.uug_talk.specs.Words.{is_space, is_word, words, joined}

-- a word: at least one byte, and no space
pub record IsWord (word : List ℕ) : Type 0 where
  pub some : 0 < length word
  pub solid : All (λ b. is_space b ≡ false) word

word_passes : (w : List ℕ) (ws : List (List ℕ)) → 0 < length w → filter is_word (w ∷ ws) ≡ w ∷ filter is_word ws
word_passes [] ws h = absurd (omega arith)
word_passes (b ∷ bs) ws h = refl

pub words-joined : (ws : List (List ℕ)) → AllByRecursion IsWord ws → words (joined ws) ≡ ws
words-joined [] h = refl
words-joined (w ∷ []) h = ap (filter is_word) (slice_split_none is_space w h.0.solid) ∙ word_passes w [] h.0.some
words-joined (w ∷ v ∷ vs) h =
    ap (filter is_word) (slice_split_at is_space w 32 (joined (v ∷ vs)) h.0.solid refl)
    ∙ word_passes w (slice_split is_space (joined (v ∷ vs))) h.0.some
    ∙ ap (λ r. w ∷ r) (words-joined (v ∷ vs) h.1)

no_space : (b : ℕ) → IsNameByte b → is_space b ≡ false
no_space b h = grind (arith, nat_tests)

-- a name is a word
pub IsWord-name : (name : List ℕ) → IsName name → IsWord name
IsWord-name name h = record { some = h.some; solid = All-weaker IsNameByte (λ b. is_space b ≡ false) no_space name h.printing }

-- Joined words have no zero byte where none of them has.

abbrev pub HasNoZero : List ℕ → Type 0
HasNoZero text = All (λ b. b ≢ 0) text

pub no_zero-joined : (ws : List (List ℕ)) → AllByRecursion HasNoZero ws → HasNoZero (joined ws)
no_zero-joined [] h = All-nil (λ b. b ≢ 0)
no_zero-joined (w ∷ []) h = h.0
no_zero-joined (w ∷ v ∷ vs) h =
    All-append (λ b. b ≢ 0) w (32 ∷ joined (v ∷ vs)) h.0
    (All-cons (λ b. b ≢ 0) 32 (joined (v ∷ vs)) (λ e. absurd (omega (arith, e))) (no_zero-joined (v ∷ vs) h.1))

pub no_zero-name : (name : List ℕ) → IsName name → HasNoZero name
no_zero-name name h = All-weaker IsNameByte (λ b. b ≢ 0) (λ b p e. absurd (omega (arith, p.0, e))) name h.printing
