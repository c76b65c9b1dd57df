-- The open lines of C. files, and those that are left when some jobs are over (that a line with a copy is over when the
-- copy is gone is what Taylor UUCP 1.07 does; the rest is this project's profile).
use Rattle.std.specs.Prelude.{◌==◌, ℕ, suc, List, [], ◌∷◌, ◌++◌, length, Bool, false, not, Option, Some, None, Result, Ok, Err, if◌then◌else◌}
use Rattle.uug_conversation.specs.MemoryHoldings.{has_name}
use Rattle.uug_conversation.specs.declared.job.Job.{Job}
use Rattle.uug_store.specs.JobsAfter.{without_said}
use Rattle.uug_store.specs.OpenJobs.{with_said}
use Rattle.uug_talk.specs.Words.{words}
use Rattle.uug_taylor_queue.specs.Offers.{offer_of}
use Rattle.uug_taylor_queue.specs.declared.offer.NotOffered.{NotOffered}
use Rattle.uug_taylor_queue.specs.declared.offer.Offer.{Offer}
use Rattle.uug_taylor_queue.specs.declared.open_line.OpenLine.{OpenLine}

-- ---- the lines of a C. file

abbrev pub line_of : (file : List ℕ) (number : ℕ) (copy : Option (List ℕ)) (job : Option Job) → OpenLine
line_of file number copy job = record { file = file; number = number; copy = copy; job = job }

-- a line with a copy is over when the copy is not among the names that exist
abbrev pub is_over : (there : List (List ℕ)) (copy : Option (List ℕ)) → Bool
is_over there None = false
is_over there (Some copy) = not (has_name there copy)

abbrev pub second_lines : (file : List ℕ) (number : ℕ) (copy : Option (List ℕ)) (second : Option Job) → List OpenLine
second_lines file number copy None = []
second_lines file number copy (Some job) = line_of file number copy (Some job) ∷ []

-- both jobs of a line that runs a command have its copy
abbrev pub offered : (file : List ℕ) (number : ℕ) → Offer → List OpenLine
offered file number offer =
    line_of file number offer.copy (Some offer.first) ∷ second_lines file number offer.copy offer.second

-- a line that no session offers is open, without a job
abbrev pub open_by : (there : List (List ℕ)) (file : List ℕ) (number : ℕ) → Result Offer NotOffered → List OpenLine
open_by there file number (Err why) = line_of file number None None ∷ []
open_by there file number (Ok offer) = if is_over there offer.copy then [] else offered file number offer

-- a line without a word
abbrev pub is_blank : (text : List ℕ) → Bool
is_blank text = length (words text) == 0

-- a blank line asks for nothing
abbrev pub open_lines : (there : List (List ℕ)) (file : List ℕ) (number : ℕ) (text : List ℕ) → List OpenLine
open_lines there file number text = if is_blank text then [] else open_by there file number (offer_of text)

-- the open lines of these lines, which follow `number` others in the file
abbrev pub file_lines : (there : List (List ℕ)) (file : List ℕ) (number : ℕ) (texts : List (List ℕ)) → List OpenLine
file_lines there file number [] = []
file_lines there file number (text ∷ more) = open_lines there file number text ++ file_lines there file (suc number) more

-- ---- their jobs

abbrev pub jobs_of : List OpenLine → List Job
jobs_of [] = []
jobs_of (line ∷ more) = with_said line.job (jobs_of more)

-- ---- when these jobs are over, each once

abbrev pub line_left : (rest : Option (List Job)) (line : OpenLine) (over : List Job) → (List Job → List OpenLine) → List OpenLine
line_left None line over next = line ∷ next over
line_left (Some rest) line over next = next rest

-- the lines that stay
abbrev pub lines_left : (over : List Job) → List OpenLine → List OpenLine
lines_left over [] = []
lines_left over (line ∷ more) = line_left (without_said line.job over) line over (λ rest. lines_left rest more)

abbrev pub line_gone : (rest : Option (List Job)) (line : OpenLine) (over : List Job) → (List Job → List OpenLine) → List OpenLine
line_gone None line over next = next over
line_gone (Some rest) line over next = line ∷ next rest

-- the lines that go
abbrev pub lines_gone : (over : List Job) → List OpenLine → List OpenLine
lines_gone over [] = []
lines_gone over (line ∷ more) = line_gone (without_said line.job over) line over (λ rest. lines_gone rest more)
