-- An answer that asks for a file from a position on is read as SY, and tells that position.
use Rattle.std.proofs.Common.{◌≡◌, ◌≢◌, ℕ, zero, suc, ◌<◌, ◌^◌, List, [], ◌∷◌, ◌++◌, length, codes, refl, sym, ap, subst, ◌∙◌, arith}
use Rattle.std.proofs.lemmas.List.Elements.{All-from_recursion}
use Rattle.std.specs.Int.{to_be_bytes, w32}
use Rattle.std.specs.List.{AllByRecursion}
use Rattle.hex.proofs.HexLemmas.{length-encode_with}
use Rattle.hex.specs.Hex.{encode_lower, lower_digits}
use Rattle.uug_talk.proofs.DigitLemmas.{size_back, size_bytes}
use Rattle.uug_talk.proofs.TellingLemmas.{front_no_zero, front_word, no_zero_digits, short_word, solid_digits, some}
use Rattle.uug_talk.specs.Positions.{consent_text, or_first, position_by_words, position_told, resuming_words}
use Rattle.uug_talk.proofs.JoinedLemmas.{HasNoZero, IsWord, no_zero-joined, words-joined}
use Rattle.uug_talk.proofs.WriteLemmas.{IsCommandText-answer, ReadsAnswer-written}
use Rattle.uug_talk.specs.Answer.{ReadsAnswer, SpellsAnswer, answer_text}
use Rattle.uug_talk.specs.Chunks.{IsCommandText}
use Rattle.uug_talk.specs.Words.{joined, words}
use Rattle.uug_talk.specs.declared.answer.Answer.TheVariants.{SendYes}

abbrev digits : ℕ → List ℕ
digits position = encode_lower (to_be_bytes w32 position)

resuming_words_are_words : (position : ℕ) → AllByRecursion IsWord (resuming_words position)
resuming_words_are_words position = (
  short_word 83 (89 ∷ []) (refl, (refl, tt)),
  (front_word 48 (120 ∷ []) _ (refl, (refl, tt)) (solid_digits (to_be_bytes w32 position) (size_bytes position)), tt),
)

resuming_read : (position : ℕ) → words (joined (resuming_words position)) ≡ resuming_words position
resuming_read position = words-joined (resuming_words position) (resuming_words_are_words position)

resuming_no_zero : (position : ℕ) → HasNoZero (joined (resuming_words position))
resuming_no_zero position = no_zero-joined (resuming_words position) (
  All-from_recursion (λ b. b ≢ 0) (codes "SY") (some 83 (omega arith), (some 89 (omega arith), tt)),
  (front_no_zero (codes "0x") _ (some 48 (omega arith), (some 120 (omega arith), tt)) (no_zero_digits (to_be_bytes w32 position) (size_bytes position)), tt),
)

resuming_length : (position : ℕ) → length (joined (resuming_words position)) ≡ 13
resuming_length position =
    let size = length-encode_with lower_digits (to_be_bytes w32 position) in
    omega (arith, size)

resuming_command : (position : ℕ) → IsCommandText (joined (resuming_words position))
resuming_command position = record { short = omega (arith, resuming_length position); no_zero = resuming_no_zero position }

pub consent_command : (position : ℕ) → IsCommandText (consent_text position)
consent_command zero = IsCommandText-answer (answer_text SendYes) SendYes tt refl
consent_command (suc n) = resuming_command (suc n)

pub consent_reads : (position : ℕ) → ReadsAnswer (consent_text position) SendYes
consent_reads zero = ReadsAnswer-written (answer_text SendYes) SendYes tt refl
consent_reads (suc n) = record {
  within = (resuming_command (suc n)).short;
  spelled = subst (λ ws. SpellsAnswer ws SendYes) (sym (resuming_read (suc n))) ([], (codes "0x" ++ digits (suc n)) ∷ [], refl);
}

pub consent_tells : (position : ℕ) → position < 2 ^ 32 → position_told (consent_text position) ≡ position
consent_tells zero h = refl
consent_tells (suc n) h = ap position_by_words (resuming_read (suc n)) ∙ ap or_first (size_back (suc n) h)
