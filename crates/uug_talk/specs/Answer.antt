-- What an answer is as a text (Taylor UUCP manual, "UUCP Protocol"; what is read past, and that an
-- unknown number behind SN, RN or CN means later, is this project's profile).
use Rattle.std.specs.Prelude.{◌≡◌, ◌==◌, ◌&&◌, ℕ, ◌<◌, ◌≤◌, List, [], ◌∷◌, ◌++◌, length, codes, nat_lt, Result, Ok, Err, if◌then◌else◌}
use Rattle.uug_talk.specs.declared.answer.Answer.{Answer}
use Rattle.uug_talk.specs.declared.answer.Answer.TheVariants.{SendYes, SendNever, SendLater, GiveYes, GiveNever, GiveLater, DoneYes, DoneYesMaster, DoneNever, DoneLater, HangYes, HangNo}
use Rattle.uug_talk.specs.declared.answer.TheConstants.{DEFAULT_MODE}
use Rattle.uug_talk.specs.declared.error.BadText.{BadText}
use Rattle.uug_talk.specs.declared.error.BadText.TheVariants as fault
use Rattle.uug_talk.specs.declared.words.TheConstants.{COMMAND_MAX}
use Rattle.uug_talk.specs.declared.mode.TheConstants.{MODE_MAX}
use Rattle.uug_talk.specs.Mode.{IsModeWord, mode_of, mode_digits, mode_read}
use Rattle.uug_talk.specs.Refusal.{◌>>=◌}
use Rattle.uug_talk.specs.Words.{words, joined}

-- the first word begins with these letters, and more words may follow
abbrev pub BeginsWith : List (List ℕ) → List ℕ → Type 0
BeginsWith ws letters = (behind : List ℕ) × (more : List (List ℕ)) × (ws ≡ (letters ++ behind) ∷ more)

-- the mode in the second word, or the default where there is none
abbrev pub GivesMode : List (List ℕ) → ℕ → Type 0
GivesMode [] mode = ⊥
GivesMode (first ∷ []) mode = mode ≡ DEFAULT_MODE
GivesMode (first ∷ word ∷ more) mode = IsModeWord word × (mode ≡ mode_of word)

-- the words spell the answer
abbrev pub SpellsAnswer : List (List ℕ) → Answer → Type 0
SpellsAnswer ws SendYes = BeginsWith ws (codes "SY")
SpellsAnswer ws SendNever = BeginsWith ws (codes "SN2")
SpellsAnswer ws SendLater = BeginsWith ws (codes "SN") × ¬ BeginsWith ws (codes "SN2")
SpellsAnswer ws (GiveYes mode) = BeginsWith ws (codes "RY") × GivesMode ws mode
SpellsAnswer ws GiveNever = BeginsWith ws (codes "RN2")
SpellsAnswer ws GiveLater = BeginsWith ws (codes "RN") × ¬ BeginsWith ws (codes "RN2")
SpellsAnswer ws DoneYes = BeginsWith ws (codes "CY") × ¬ BeginsWith ws (codes "CYM")
SpellsAnswer ws DoneYesMaster = BeginsWith ws (codes "CYM")
SpellsAnswer ws DoneNever = BeginsWith ws (codes "CN5")
SpellsAnswer ws DoneLater = BeginsWith ws (codes "CN") × ¬ BeginsWith ws (codes "CN5")
SpellsAnswer ws HangYes = BeginsWith ws (codes "HY")
SpellsAnswer ws HangNo = BeginsWith ws (codes "HN")

-- the text is the answer
pub record ReadsAnswer (text : List ℕ) (answer : Answer) : Type 0 where
  pub within : length text ≤ COMMAND_MAX
  pub spelled : SpellsAnswer (words text) answer

-- Why a text is no answer: the first of these that holds, in this order.

abbrev pub RefusedLetters : BadText → List (List ℕ) → Type 0
RefusedLetters fault.Unknown ws = ((answer : Answer) → ¬ SpellsAnswer ws answer) × (¬ BeginsWith ws (codes "RY"))
RefusedLetters fault.Mode ws = BeginsWith ws (codes "RY") × ((first : List ℕ) × (word : List ℕ) × (more : List (List ℕ)) × (ws ≡ first ∷ word ∷ more) × (¬ IsModeWord word))
RefusedLetters fault.Fields ws = ⊥
RefusedLetters fault.Name ws = ⊥
RefusedLetters fault.TooLong ws = ⊥
RefusedLetters fault.Memory ws = ⊥

abbrev pub IsRefusedAnswer : BadText → List ℕ → Type 0
IsRefusedAnswer fault.TooLong text = COMMAND_MAX < length text
IsRefusedAnswer f text = (length text ≤ COMMAND_MAX) × RefusedLetters f (words text)

-- Writing. A refusal that a later try may change is written as SN4, RN6 or CN4.

-- what is written: CYM is only read
abbrev pub IsWritten : Answer → Type 0
IsWritten (GiveYes mode) = mode ≤ MODE_MAX
IsWritten DoneYesMaster = ⊥
IsWritten _ = Unit {0}

abbrev pub answer_words : Answer → List (List ℕ)
answer_words SendYes = codes "SY" ∷ []
answer_words SendNever = codes "SN2" ∷ []
answer_words SendLater = codes "SN4" ∷ []
answer_words (GiveYes mode) = codes "RY" ∷ mode_digits mode ∷ []
answer_words GiveNever = codes "RN2" ∷ []
answer_words GiveLater = codes "RN6" ∷ []
answer_words DoneYes = codes "CY" ∷ []
answer_words DoneNever = codes "CN5" ∷ []
answer_words DoneLater = codes "CN4" ∷ []
answer_words HangYes = codes "HY" ∷ []
answer_words HangNo = codes "HN" ∷ []
answer_words DoneYesMaster = []

abbrev pub answer_text : Answer → List ℕ
answer_text answer = joined (answer_words answer)

-- Reading, as a function: the answer, or the first refusal.

-- by the letter behind the first two
abbrev pub third : List ℕ → ℕ → Answer → Answer → Answer
third [] letter same other = other
third (c ∷ cs) letter same other = if c == letter then same else other

abbrev pub given_mode : List (List ℕ) → Result ℕ BadText
given_mode [] = Ok DEFAULT_MODE
given_mode (word ∷ more) = mode_read word

-- by the first two letters, what stands behind them and the words that follow
abbrev pub answer_by : ℕ → ℕ → List ℕ → List (List ℕ) → Result Answer BadText
answer_by a b behind more =
    if (a == 83) && (b == 89) then Ok SendYes else
    (if (a == 83) && (b == 78) then Ok (third behind 50 SendNever SendLater) else
    (if (a == 82) && (b == 89) then given_mode more >>= (λ mode. Ok (GiveYes mode)) else
    (if (a == 82) && (b == 78) then Ok (third behind 50 GiveNever GiveLater) else
    (if (a == 67) && (b == 89) then Ok (third behind 77 DoneYesMaster DoneYes) else
    (if (a == 67) && (b == 78) then Ok (third behind 53 DoneNever DoneLater) else
    (if (a == 72) && (b == 89) then Ok HangYes else
    (if (a == 72) && (b == 78) then Ok HangNo else Err fault.Unknown)))))))

abbrev pub answer_of_words : List (List ℕ) → Result Answer BadText
answer_of_words [] = Err fault.Unknown
answer_of_words ([] ∷ more) = Err fault.Unknown
answer_of_words ((a ∷ []) ∷ more) = Err fault.Unknown
answer_of_words ((a ∷ b ∷ behind) ∷ more) = answer_by a b behind more

abbrev pub answer_of : List ℕ → Result Answer BadText
answer_of text = if nat_lt COMMAND_MAX (length text) then Err fault.TooLong else answer_of_words (words text)
