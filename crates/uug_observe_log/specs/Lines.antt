-- The lines that report jobs, the progress of files, and losses (this project's profile).
use Rattle.std.specs.Prelude.{◌==◌, ◌-◌, ◌/◌, ℕ, List, [], ◌++◌, length, codes, nat_lt, Option, Some, None, if◌then◌else◌}
use Rattle.std.specs.Fmt.{decimal}
use Rattle.uug_observe_log.specs.Paces.{percent}
use Rattle.uug_observe_log.specs.declared.news_lines.TheConstants.{COLUMNS}
use Rattle.uug_observe_log.specs.declared.passed.Counts.{Counts}
use Rattle.uug_observe_log.specs.declared.transfer.FileProgress.{FileProgress}
use Rattle.uug_observe_log.specs.declared.transfer.News.{News}
use Rattle.uug_observe_log.specs.declared.transfer.News.TheVariants.{Begins, Resumes, Ends}
use Rattle.uug_observe_log.specs.declared.transfer.Outcome.{Outcome}
use Rattle.uug_observe_log.specs.declared.transfer.Outcome.TheVariants.{Done, Never, TooLarge, Later, Differs}
use Rattle.uug_observe_log.specs.declared.transfer.Transfer.{Transfer}
use Rattle.uug_observe_log.specs.declared.transfer.Wish.{Wish}
use Rattle.uug_observe_log.specs.declared.transfer.Wish.TheVariants.{Send, Request}
use Rattle.uug_observe_log.specs.declared.way.Way.{Way}
use Rattle.uug_observe_log.specs.declared.way.Way.TheVariants.{Out, In}

abbrev pub whose : Way → List ℕ
whose Out = codes ""
whose In = codes "peer's "

abbrev pub wish_word : Wish → List ℕ
wish_word Send = codes "send"
wish_word Request = codes "request"

abbrev pub outcome_word : Outcome → List ℕ
outcome_word Done = codes "done"
outcome_word Never = codes "refused"
outcome_word TooLarge = codes "refused, maybe for its size"
outcome_word Later = codes "put off"
outcome_word Differs = codes "wrong digest"

-- `uucpair: SECOND s:`, whose job it is, its kind and its source
abbrev pub job_words : ℕ → Transfer → List ℕ
job_words seconds job =
    codes "uucpair: " ++ decimal seconds ++ codes " s: " ++ whose job.way ++ wish_word job.wish ++ codes " " ++ job.source

-- the line of a job, with these words at its end
abbrev pub job_line : ℕ → Transfer → (ending : List ℕ) → List ℕ
job_line seconds job ending = job_words seconds job ++ codes " " ++ job.target ++ ending ++ codes "\n"

abbrev pub begin_line : ℕ → Transfer → List ℕ
begin_line seconds job = job_words seconds job ++ codes " " ++ job.target ++ codes "\n"

abbrev pub resumed_words : (position : ℕ) → List ℕ
resumed_words position = codes ": resumed at " ++ decimal position

abbrev pub resume_line : (seconds : ℕ) → Transfer → (position : ℕ) → List ℕ
resume_line seconds job position = job_line seconds job (resumed_words position)

abbrev pub outcome_words : (took : ℕ) → Outcome → (bytes : ℕ) → List ℕ
outcome_words took outcome bytes =
    codes ": " ++ outcome_word outcome ++ codes " " ++ decimal bytes ++ codes " bytes in " ++ decimal took ++ codes " s"

abbrev pub end_line : (seconds took : ℕ) → Transfer → Outcome → (bytes : ℕ) → List ℕ
end_line seconds took job outcome bytes = job_line seconds job (outcome_words took outcome bytes)

abbrev pub news_line : (seconds took : ℕ) → News → List ℕ
news_line seconds took (Begins job) = begin_line seconds job
news_line seconds took (Resumes job size position) = resume_line seconds job position
news_line seconds took (Ends job outcome bytes) = end_line seconds took job outcome bytes

-- how long the rest of a file takes at this rate, or nothing if the rate is 0
abbrev pub left_words : (rest rate : ℕ) → List ℕ
left_words rest rate = if rate == 0 then [] else codes ", " ++ decimal (rest / rate) ++ codes " s left"

-- the number of repeats, or nothing if there were none
abbrev pub repeat_words : ℕ → List ℕ
repeat_words repeats = if repeats == 0 then [] else codes ", " ++ decimal repeats ++ codes " repeats"

abbrev pub pace_words : (rate position size repeats : ℕ) → List ℕ
pace_words rate position size repeats =
    decimal (percent position size) ++ codes "%, " ++ decimal rate ++ codes " B/s" ++ left_words (size - position) rate ++ repeat_words repeats

-- the long line if it fits into a terminal, else the short one
abbrev pub fitting : (long short : List ℕ) → List ℕ
fitting long short = if nat_lt (length long) COLUMNS then long else short

abbrev pub sized_line : (words : List ℕ) → (rate position size repeats : ℕ) → List ℕ
sized_line words rate position size repeats = fitting
    (words ++ codes ": " ++ decimal position ++ codes " of " ++ decimal size ++ codes " bytes, " ++ pace_words rate position size repeats)
    (words ++ codes ": " ++ pace_words rate position size repeats)

abbrev pub unsized_line : (words : List ℕ) → (rate position repeats : ℕ) → List ℕ
unsized_line words rate position repeats =
    words ++ codes ": " ++ decimal position ++ codes " bytes, " ++ decimal rate ++ codes " B/s" ++ repeat_words repeats

abbrev pub file_line : (words : List ℕ) → (rate position : ℕ) → (size : Option ℕ) → (repeats : ℕ) → List ℕ
file_line words rate position None repeats = unsized_line words rate position repeats
file_line words rate position (Some size) repeats = sized_line words rate position size repeats

-- the progress of a job's file in this second, with the rate in bytes a second
abbrev pub progress_line : (seconds rate : ℕ) → FileProgress → List ℕ
progress_line seconds rate p = file_line (job_words seconds p.job) rate p.position p.size p.repeats

abbrev pub lost_words : Counts → List ℕ
lost_words counts =
    codes " rejects " ++ decimal counts.rejects ++ codes " repeats " ++ decimal counts.repeats ++ codes " damaged "
    ++ decimal counts.damaged

-- the verb says what was done with the bytes: wrote or read
abbrev pub counts_line : (verb : List ℕ) → (bytes : ℕ) → Counts → List ℕ
counts_line verb bytes counts =
    codes "uucpair: " ++ verb ++ codes " " ++ decimal bytes ++ codes " bytes" ++ lost_words counts ++ codes "\n"
