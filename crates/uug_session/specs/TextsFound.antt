-- How what a search of the greeting's bytes leaves goes on as the whole stream does. That bytes in front of a text are
-- passed over is this project's profile.
use Rattle.std.specs.Prelude.{◌≡◌, ℕ, ◌≤◌, List, ◌++◌, length, take, drop}
use Rattle.uug_talk.specs.StreamTexts.{StreamTexts, TextsEnd, Rest, TooLong, StandBefore, texts_of, with_text, no_text}
use Rattle.uug_talk.specs.Texts.{IsFirstText, Heard, Passing, Holds, hear}
use Rattle.uug_session.specs.TextsHeld.{size_of_text}

-- behind the texts stands the same, but for bytes in front that were skipped
abbrev pub EndsBehind : TextsEnd → TextsEnd → Type 0
EndsBehind (Rest bytes) (Rest left) = (passed : List ℕ) × (bytes ≡ passed ++ left)
EndsBehind TooLong TooLong = Unit {0}
EndsBehind _ _ = ⊥

-- the texts are the same, and so is what stands behind them, but for what was skipped
pub record ReadsAs (found left : StreamTexts) : Type 0 where
  pub texts : found.texts ≡ left.texts
  pub end : EndsBehind found.end left.end

-- these texts, and then those that were found
abbrev pub with_texts : List (List ℕ) → StreamTexts → StreamTexts
with_texts texts found = record { texts = texts ++ found.texts; end = found.end }

-- Behind bytes that are skipped the first text of the stream stands, in front of the others; the texts of the stream
-- are this one and those behind it.
pub record FindsText (stream text others : List ℕ) : Type 0 where
  pub passed : List ℕ
  pub spelled : stream ≡ passed ++ others
  pub within : size_of_text text ≤ length others
  pub stands : IsFirstText (take (size_of_text text) others) text
  pub first : IsFirstText (passed ++ take (size_of_text text) others) text
  pub texts : texts_of stream ≡ with_text text (texts_of (drop (size_of_text text) others))

-- The stream has no text. Behind bytes that are skipped a rest waits, in which, whatever more comes, the texts are
-- those that the stream has with it.
pub record FindsNone (stream rest : List ℕ) : Type 0 where
  pub passed : List ℕ
  pub spelled : stream ≡ passed ++ rest
  pub none : texts_of stream ≡ no_text (Rest stream)
  pub goes_on : (more : List ℕ) → ReadsAs (texts_of (stream ++ more)) (texts_of (rest ++ more))

-- ---- what was skipped

-- it changes nothing of what is heard behind it
pub record Passed (passed held : List ℕ) : Type 0 where
  pub heard : Heard
  pub holds : Holds heard passed
  pub same : (more : List ℕ) → hear heard (held ++ more) ≡ hear Passing (held ++ more)

-- these texts were taken of what was accepted, and this is held behind what was skipped
pub record Taken (texts : List (List ℕ)) (accepted held : List ℕ) : Type 0 where
  pub passed : List ℕ
  pub stand : StandBefore texts (passed ++ held) accepted
  pub passes : Passed passed held
