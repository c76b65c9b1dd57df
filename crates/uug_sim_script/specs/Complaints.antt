-- What is wrong with a line of a script (this project's profile): of several things the first.
use Rattle.std.specs.Prelude.{ℕ, List, [], ◌∷◌, Option, Some, None, Result, Ok, Err}
use Rattle.std.specs.Borrow.{Bor}
use Rattle.uug_talk.specs.Words.{words}
use Rattle.uug_sim_script.specs.declared.complaint.Complaint.{Complaint}
use Rattle.uug_sim_script.specs.declared.complaint.Complaint.TheVariants as code
use Rattle.uug_sim_script.specs.declared.field.Field.{Field}

-- The line is too long; no statement begins with the word; the word is not what it has to be; this is missing; or the word
-- is one too many.
pub data Wrong : Type 0 where
  too_long : Wrong
  unknown : List ℕ → Wrong
  wrong : Field → List ℕ → Wrong
  missing : Field → Wrong
  too_many : List ℕ → Wrong

-- the second step, where nothing was wrong at the first
infixl 10 ◌>>=◌
abbrev pub ◌>>=◌ : {A B : Type 0} → Result A Wrong → (A → Result B Wrong) → Result B Wrong
(Ok x) >>= f = f x
(Err w) >>= f = Err w

abbrev pub read_or_wrong : {A : Type 0} → Field → List ℕ → List (List ℕ) → Option A → Result (A × List (List ℕ)) Wrong
read_or_wrong field word more None = Err (wrong field word)
read_or_wrong field word more (Some x) = Ok (x, more)

-- the word in front, which has to be this and is read so, and the words behind it
abbrev pub field_at : {A : Type 0} → Field → (List ℕ → Option A) → List (List ℕ) → Result (A × List (List ℕ)) Wrong
field_at field read [] = Err (missing field)
field_at field read (word ∷ more) = read_or_wrong field word more (read word)

-- ---- how the program keeps it

abbrev pub shown : Complaint → Wrong
shown code.TooLong = too_long
shown (code.Unknown word) = unknown word.now
shown (code.Wrong field word) = wrong field word.now
shown (code.Missing field) = missing field
shown (code.TooMany word) = too_many word.now

-- what was taken from the front of a text, and the words behind it
abbrev pub taken : {A : Type 0} → Result (A × Bor (List ℕ)) Complaint → Result (A × List (List ℕ)) Wrong
taken (Ok found) = Ok (found.0, words found.1.now)
taken (Err complaint) = Err (shown complaint)
