-- The entries of an end's log (this project's profile, in the format of Taylor UUCP 1.07).
use Rattle.std.specs.Prelude.{◌/◌, ◌%◌, ℕ, Bool, true, false, List, [], ◌∷◌, ◌++◌, Option, Some, codes, unsigned_abs}
use Rattle.jiff_core.specs.declared.civil.datetime.DateTime.{DateTime}
use Rattle.uug_conversation.specs.declared.side.Side.{Side}
use Rattle.uug_conversation.specs.declared.side.Side.TheVariants.{Caller, Called}
use Rattle.uug_observe_log.specs.Lines.{outcome_word, wish_word}
use Rattle.uug_observe_log.specs.declared.transfer.Outcome.{Outcome}
use Rattle.uug_observe_log.specs.declared.transfer.Outcome.TheVariants.{Done, Never, TooLarge, Later, Differs}
use Rattle.uug_observe_log.specs.declared.transfer.Transfer.{Transfer}
use Rattle.uug_observe_log.specs.declared.transfer.Wish.{Wish}
use Rattle.uug_observe_log.specs.declared.transfer.Wish.TheVariants.{Send, Request}
use Rattle.uug_observe_log.specs.declared.way.Way.{Way}
use Rattle.uug_observe_log.specs.declared.way.Way.TheVariants.{Out, In}
use Rattle.uug_scan.specs.Detailed.{escaped}
use Rattle.uug_taylor_text.specs.LogLines.{Entry, called, calls, fault, receives, receives_from, sends, sends_from}
use Rattle.uug_taylor_text.specs.declared.moment.Moment.{Moment}

-- the moment of a date and a time that a clock shows
abbrev pub moment_at : DateTime → Moment
moment_at shown = record {
  year = unsigned_abs shown.date.year;
  month = shown.date.month;
  day = shown.date.day;
  hour = shown.time.hour;
  minute = shown.time.minute;
  second = shown.time.second;
  hundredths = shown.time.subsec_nanosecond / 10000000 % 100;
}

-- the start of a session at this side. The caller has not logged in, so its login is `-`
abbrev pub start_entry : Side → (line : List ℕ) → Entry
start_entry Caller line = calls (escaped line)
start_entry Called line = called (codes "-") (escaped line)

-- whether a file goes to the other end: this end sends it, or the other end has requested it
abbrev pub is_sent : Way → Wish → Bool
is_sent Out Send = true
is_sent In Request = true
is_sent Out Request = false
is_sent In Send = false

-- the words for a job that is not done, and why
abbrev pub unfinished : Transfer → Outcome → List ℕ
unfinished job outcome =
    wish_word job.wish ++ (codes " " ++ (escaped job.source ++ (codes " " ++ (escaped job.target ++ (codes ": " ++ outcome_word outcome)))))

-- the entry of a job that is done: its file, under the name that it has at this end, and its bytes
abbrev pub done_entry : (sent : Bool) → (source target : List ℕ) → (bytes : ℕ) → Entry
done_entry true source target bytes = sends (escaped source) bytes
done_entry false source target bytes = receives (escaped target) (Some bytes)

abbrev pub job_entry : Transfer → Outcome → (bytes : ℕ) → Entry
job_entry job Done bytes = done_entry (is_sent job.way job.wish) job.source job.target bytes
job_entry job Never bytes = fault (unfinished job Never)
job_entry job TooLarge bytes = fault (unfinished job TooLarge)
job_entry job Later bytes = fault (unfinished job Later)
job_entry job Differs bytes = fault (unfinished job Differs)

-- the entry of a file that resumes at this position, with its whole size, if that was announced
abbrev pub resumed_entry : (sent : Bool) → (source target : List ℕ) → (size : Option ℕ) → (position : ℕ) → Entry
resumed_entry true source target size position = sends_from (escaped source) size position
resumed_entry false source target size position = receives_from (escaped target) size position

-- whether a job with this direction and outcome is one that the other end was refused
abbrev pub is_refused_to_it : Way → Outcome → Bool
is_refused_to_it In Never = true
is_refused_to_it In TooLarge = true
is_refused_to_it way outcome = false

-- the text of a session or a run that ended badly
abbrev pub end_text : (word said : List ℕ) → List ℕ
end_text word [] = word
end_text word (c ∷ said) = word ++ (codes ": " ++ c ∷ said)
