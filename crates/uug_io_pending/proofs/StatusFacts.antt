-- Statuses whose texts are known, so that a wrong definition does not check.
use Rattle.std.proofs.Common.{◌≡◌, ◌++◌, ℕ, List, [], ◌∷◌, codes, Some, None, refl}
use Rattle.std.specs.Fmt.{digits}
use Rattle.uug_conversation.specs.declared.job.Job.{Job}
use Rattle.uug_conversation.specs.declared.job.Job.TheVariants.{Send, Request}
use Rattle.uug_io_disk.specs.declared.seen_files.SeenFile.{SeenFile}
use Rattle.uug_io_disk.specs.declared.seen_files.HeldFile.{HeldFile}
use Rattle.uug_io_pending.specs.Failed.{failed_in}
use Rattle.uug_io_pending.specs.LastSession.{entry_in, last_in, told_in}
use Rattle.uug_io_pending.specs.StatusJson.{bytes_words, held_object, pending_items, status_json}
use Rattle.uug_io_pending.specs.StatusText.{age_words, file_words, held_line, pending_line, session_words, span_words, status_text, why_words}
use Rattle.uug_io_pending.specs.declared.pending_job.PendingJob.{PendingJob}
use Rattle.uug_talk.specs.Lines.{ended}

abbrev sent : Job
sent = Send (codes "x") (codes "y") (codes "u") None

abbrev asked : Job
asked = Request (codes "q") (codes "r") (codes "u")

abbrev file : SeenFile
file = record { size = 9000; age = Some 7300 }

abbrev held : HeldFile
held = record { name = codes "z"; whole = 60000; held = record { size = 23000; age = None } }

abbrev pending : Job → PendingJob
pending job = record { job = job; file = Some file }

record AreSpans : Type 0 where
  none : span_words 0 ≡ codes "0 s"
  seconds : span_words 59 ≡ codes "59 s"
  minutes : span_words 60 ≡ codes "1 min"
  hours : span_words 7199 ≡ codes "1 h"
  days : span_words 200000 ≡ codes "2 d"
  unknown : age_words None ≡ []

spans : AreSpans
unfolding digits
spans = record { none = refl; seconds = refl; minutes = refl; hours = refl; days = refl; unknown = refl }

record AreLines : Type 0 where
  sends : pending_line (pending sent) ≡ ended (codes "pending send x y u: 9000 bytes, 2 h old")
  asks : pending_line (pending asked) ≡ ended (codes "pending request q r u")
  lacks : file_words sent None ≡ codes ": no file"
  holds : held_line held ≡ ended (codes "held z: 23000 of 60000 bytes")
  mark : session_words (Some file) ≡ ended (codes "session not over: its mark is there, 2 h old")
  why : why_words (codes "no\\") ≡ codes ": no\\x5c"
  nothing : status_text None None [] [] [] ≡ ended (codes "0 pending, 0 held, 0 failed")

lines : AreLines
unfolding digits
lines = record { sends = refl; asks = refl; lacks = refl; holds = refl; mark = refl; why = refl; nothing = refl }

record AreObjects : Type 0 where
  holds : held_object held ≡ codes "{\"name\":\"z\",\"bytes\":23000,\"whole\":60000,\"age\":null}"
  asks : pending_items (record { job = asked; file = None } ∷ [])
      ≡ codes "{\"kind\":\"request\",\"source\":\"q\",\"target\":\"r\",\"user\":\"u\",\"bytes\":null,\"age\":null}"
  text : bytes_words (codes "\"\\ a") ≡ codes "\\\"\\\\x5c a"
  nothing : status_json None None [] [] [] ≡ ended (codes "{\"session\":null,\"log\":[],\"pending\":[],\"held\":[],\"failed\":[]}")

objects : AreObjects
unfolding digits
objects = record { holds = refl; asks = refl; text = refl; nothing = refl }

-- each job has the last comment before it
failed : failed_in (ended (codes "send a b u") ++ (ended (codes "# no") ++ ended (codes "request q r u")))
    ≡ record { job = Send (codes "a") (codes "b") (codes "u") None; why = [] } ∷ record { job = asked; why = codes "no" } ∷ []
failed = refl

-- ---- the last session in a log

abbrev start : List ℕ
start = codes "uucpair - - (2026-11-30 01:02:03.45 12) Incoming call (login - port l)"

abbrev over : List ℕ
over = codes "uucpair b - (2026-11-30 01:02:04.00 12) Call complete (1 seconds)"

record AreEntries : Type 0 where
  begins : entry_in start ≡ Some (record {
    system = codes "-";
    date = codes "2026-11-30";
    time = codes "01:02:03.45";
    process = codes "12)";
    text = codes "Incoming call (login - port l)";
  })
  short : entry_in (codes "uucpair b - (2026-11-30 01:02:04.00") ≡ None
  no_date : entry_in (codes "a b c d e f g") ≡ None
  ends : told_in (codes "12)") over ≡ entry_in over
  another : told_in (codes "13)") over ≡ None
  begun : told_in (codes "12)") start ≡ None
  none : last_in (ended over) ≡ None

entries : AreEntries
entries = record { begins = refl; short = refl; no_date = refl; ends = refl; another = refl; begun = refl; none = refl }
