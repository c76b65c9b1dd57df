-- Spells the status of an end's folder as JSON (RFC 8259), one object in a line (this project's profile).
use Rattle.std.specs.Fmt.{decimal}
use Rattle.std.specs.Prelude.{◌==◌, ℕ, List, [], ◌∷◌, ◌++◌, codes, true, false, Option, Some, None, if◌then◌else◌}
use Rattle.uug_conversation.specs.declared.job.Job.{Job}
use Rattle.uug_conversation.specs.declared.job.Job.TheVariants.{Send, Request}
use Rattle.uug_io_disk.specs.declared.seen_files.HeldFile.{HeldFile}
use Rattle.uug_io_disk.specs.declared.seen_files.SeenFile.{SeenFile}
use Rattle.uug_io_pending.specs.LastSession.{Entry, Last, told_in}
use Rattle.uug_io_pending.specs.declared.failed_job.FailedJob.{FailedJob}
use Rattle.uug_io_pending.specs.declared.pending_job.PendingJob.{PendingJob}
use Rattle.uug_scan.specs.Detailed.{is_plain}
use Rattle.uug_scan.specs.Detailed as detailed
use Rattle.uug_talk.specs.Lines.{ended}

-- ---- values

-- A quotation mark has a backslash before it. A byte that the plain text writes in hex is in hex here too, and JSON
-- writes the backslash before it twice.
abbrev pub byte_words : ℕ → List ℕ
byte_words b =
    if b == 34 then codes "\\\"" else
    (if is_plain b then detailed.byte_words true b else codes "\\" ++ detailed.byte_words false b)

abbrev pub bytes_words : List ℕ → List ℕ
bytes_words [] = []
bytes_words (b ∷ bs) = byte_words b ++ bytes_words bs

abbrev pub text_words : List ℕ → List ℕ
text_words bytes = codes "\"" ++ (bytes_words bytes ++ codes "\"")

abbrev pub number_words : Option ℕ → List ℕ
number_words (Some n) = decimal n
number_words None = codes "null"

-- ---- the mark of a session that is not over

abbrev pub session_words : Option SeenFile → List ℕ
session_words None = codes "null"
session_words (Some mark) = codes "{\"age\":" ++ (number_words mark.age ++ codes "}")

-- ---- the last session in the log

abbrev pub moment_members : Entry → List ℕ
moment_members e = codes ",\"date\":" ++ (text_words e.date ++ (codes ",\"time\":" ++ text_words e.time))

abbrev pub entry_object : Entry → List ℕ
entry_object e =
    codes "{\"system\":" ++ (text_words e.system ++ (moment_members e ++ (codes ",\"text\":" ++ (text_words e.text ++ codes "}"))))

abbrev pub told_item : Option Entry → List ℕ
told_item None = []
told_item (Some e) = codes "," ++ entry_object e

abbrev pub told_rest : (process : List ℕ) → List (List ℕ) → List ℕ
told_rest process [] = []
told_rest process (line ∷ more) = told_item (told_in process line) ++ told_rest process more

abbrev pub last_items : Option Last → List ℕ
last_items None = []
last_items (Some l) = entry_object l.start ++ told_rest l.start.process l.behind

-- ---- jobs

abbrev pub members : (kind source target user : List ℕ) → List ℕ
members kind source target user =
    codes "\"kind\":\"" ++ (kind ++ (codes "\",\"source\":" ++ (text_words source ++ (codes ",\"target\":"
    ++ (text_words target ++ (codes ",\"user\":" ++ text_words user))))))

abbrev pub job_members : Job → List ℕ
job_members (Send source target user temp) = members (codes "send") source target user
job_members (Request source target user) = members (codes "request") source target user

abbrev pub size_of : Option SeenFile → Option ℕ
size_of None = None
size_of (Some file) = Some file.size

abbrev pub age_of : Option SeenFile → Option ℕ
age_of None = None
age_of (Some file) = file.age

abbrev pub file_members : Option SeenFile → List ℕ
file_members file = codes ",\"bytes\":" ++ (number_words (size_of file) ++ (codes ",\"age\":" ++ number_words (age_of file)))

abbrev pub pending_object : PendingJob → List ℕ
pending_object p = codes "{" ++ (job_members p.job ++ (file_members p.file ++ codes "}"))

-- those after the first one
abbrev pub pending_rest : List PendingJob → List ℕ
pending_rest [] = []
pending_rest (p ∷ more) = codes "," ++ (pending_object p ++ pending_rest more)

abbrev pub pending_items : List PendingJob → List ℕ
pending_items [] = []
pending_items (p ∷ more) = pending_object p ++ pending_rest more

abbrev pub failed_object : FailedJob → List ℕ
failed_object f = codes "{" ++ (job_members f.job ++ (codes ",\"why\":" ++ (text_words f.why.now ++ codes "}")))

abbrev pub failed_rest : List FailedJob → List ℕ
failed_rest [] = []
failed_rest (f ∷ more) = codes "," ++ (failed_object f ++ failed_rest more)

abbrev pub failed_items : List FailedJob → List ℕ
failed_items [] = []
failed_items (f ∷ more) = failed_object f ++ failed_rest more

-- ---- files that are held

abbrev pub held_object : HeldFile → List ℕ
held_object h =
    codes "{\"name\":" ++ (text_words h.name ++ (codes ",\"bytes\":" ++ (decimal h.held.size ++ (codes ",\"whole\":"
    ++ (decimal h.whole ++ (codes ",\"age\":" ++ (number_words h.held.age ++ codes "}")))))))

abbrev pub held_rest : List HeldFile → List ℕ
held_rest [] = []
held_rest (h ∷ more) = codes "," ++ (held_object h ++ held_rest more)

abbrev pub held_items : List HeldFile → List ℕ
held_items [] = []
held_items (h ∷ more) = held_object h ++ held_rest more

-- ---- all of it

abbrev pub status_json : (session : Option SeenFile) → Option Last → List PendingJob → List HeldFile → List FailedJob → List ℕ
status_json session last pending held failed =
    codes "{\"session\":" ++ (session_words session ++ (codes ",\"log\":[" ++ (last_items last ++ (codes "],\"pending\":["
    ++ (pending_items pending ++ (codes "],\"held\":[" ++ (held_items held ++ (codes "],\"failed\":["
    ++ (failed_items failed ++ ended (codes "]}"))))))))))
