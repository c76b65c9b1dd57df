-- Spells the status of an end's folder for a person (this project's profile): a line for each fact.
use Rattle.std.specs.Fmt.{decimal}
use Rattle.std.specs.Prelude.{◌/◌, ◌==◌, ℕ, List, [], ◌∷◌, ◌++◌, codes, length, nat_lt, Option, Some, None, if◌then◌else◌}
use Rattle.uug_conversation.specs.declared.job.Job.{Job}
use Rattle.uug_conversation.specs.declared.job.Job.TheVariants.{Send, Request}
use Rattle.uug_io_disk.specs.declared.seen_files.HeldFile.{HeldFile}
use Rattle.uug_io_disk.specs.declared.seen_files.SeenFile.{SeenFile}
use Rattle.uug_store.specs.JobsText.{job_words}
use Rattle.uug_io_pending.specs.LastSession.{Entry, Last, told_in}
use Rattle.uug_io_pending.specs.declared.failed_job.FailedJob.{FailedJob}
use Rattle.uug_io_pending.specs.declared.pending_job.PendingJob.{PendingJob}
use Rattle.uug_scan.specs.Detailed.{escaped}
use Rattle.uug_talk.specs.Lines.{ended}
use Rattle.uug_talk.specs.Words.{joined}

abbrev pub count_words : (pending held failed : ℕ) → List ℕ
count_words pending held failed =
    decimal pending ++ (codes " pending, " ++ (decimal held ++ (codes " held, " ++ (decimal failed ++ ended (codes " failed")))))

-- in the largest unit of which a span of time has at least one
abbrev pub span_words : (seconds : ℕ) → List ℕ
span_words seconds =
    if nat_lt seconds 60 then decimal seconds ++ codes " s" else
    (if nat_lt seconds 3600 then decimal (seconds / 60) ++ codes " min" else
    (if nat_lt seconds 86400 then decimal (seconds / 3600) ++ codes " h" else
    (decimal (seconds / 86400) ++ codes " d")))

abbrev pub age_words : Option ℕ → List ℕ
age_words None = []
age_words (Some seconds) = codes ", " ++ (span_words seconds ++ codes " old")

-- the mark of a session is there while it runs, and after it was broken off
abbrev pub mark_line : (words : List ℕ) → (age : Option ℕ) → List ℕ
mark_line words age = words ++ ended (age_words age)

abbrev pub session_words : Option SeenFile → List ℕ
session_words None = []
session_words (Some mark) = mark_line (codes "session not over: its mark is there") mark.age

abbrev pub moment_words : Entry → List ℕ
moment_words e = codes " " ++ (escaped e.date ++ (codes " " ++ escaped e.time))

-- a line on the last session in the log: on its start, or on its end
abbrev pub entry_line : Entry → List ℕ
entry_line e = codes "session " ++ (escaped e.system ++ (moment_words e ++ (codes ": " ++ ended (escaped e.text))))

abbrev pub told_line : Option Entry → List ℕ
told_line None = []
told_line (Some e) = entry_line e

abbrev pub told_lines : (process : List ℕ) → List (List ℕ) → List ℕ
told_lines process [] = []
told_lines process (line ∷ more) = told_line (told_in process line) ++ told_lines process more

abbrev pub last_lines : Option Last → List ℕ
last_lines None = []
last_lines (Some l) = entry_line l.start ++ told_lines l.start.process l.behind

-- the file that a job sends; a job that requests a file has none here
abbrev pub file_words : Job → Option SeenFile → List ℕ
file_words (Request source target user) file = []
file_words (Send source target user temp) None = codes ": no file"
file_words (Send source target user temp) (Some file) = codes ": " ++ (decimal file.size ++ (codes " bytes" ++ age_words file.age))

abbrev pub pending_line : PendingJob → List ℕ
pending_line p = codes "pending " ++ (joined (job_words p.job) ++ ended (file_words p.job p.file))

abbrev pub pending_lines : List PendingJob → List ℕ
pending_lines [] = []
pending_lines (p ∷ more) = pending_line p ++ pending_lines more

abbrev pub held_line : HeldFile → List ℕ
held_line h =
    codes "held " ++ (h.name ++ (codes ": " ++ (decimal h.held.size ++ (codes " of " ++ (decimal h.whole
    ++ (codes " bytes" ++ ended (age_words h.held.age)))))))

abbrev pub held_lines : List HeldFile → List ℕ
held_lines [] = []
held_lines (h ∷ more) = held_line h ++ held_lines more

-- why a job failed, if a reason is given
abbrev pub why_words : (why : List ℕ) → List ℕ
why_words why = if length why == 0 then [] else codes ": " ++ escaped why

abbrev pub failed_line : FailedJob → List ℕ
failed_line f = codes "failed " ++ (joined (job_words f.job) ++ ended (why_words f.why.now))

abbrev pub failed_lines : List FailedJob → List ℕ
failed_lines [] = []
failed_lines (f ∷ more) = failed_line f ++ failed_lines more

abbrev pub status_text : (session : Option SeenFile) → Option Last → List PendingJob → List HeldFile → List FailedJob → List ℕ
status_text session last pending held failed =
    count_words (length pending) (length held) (length failed)
    ++ (session_words session ++ (last_lines last ++ (pending_lines pending ++ (held_lines held ++ failed_lines failed))))
