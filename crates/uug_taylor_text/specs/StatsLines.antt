-- The lines of the statistics, one for each file (as Taylor UUCP 1.07 writes them).
use Rattle.std.specs.Prelude.{◌==◌, ℕ, ◌+◌, ◌*◌, ◌/◌, ◌%◌, Bool, true, false, List, ◌∷◌, ◌++◌, codes, if◌then◌else◌}
use Rattle.std.specs.Fmt.{decimal}
use Rattle.uug_talk.specs.Lines.{ended}
use Rattle.uug_taylor_text.specs.Moments.{moment_text, two_digits}
use Rattle.uug_taylor_text.specs.declared.moment.Moment.{Moment}
use Rattle.uug_taylor_text.specs.declared.stats_text.Course.{Course}
use Rattle.uug_taylor_text.specs.declared.stats_text.Course.TheVariants.{Sent, Received}

-- the file that a line is about
pub record StatWords : Type 0 where
  pub user : List ℕ
  pub system : List ℕ
  pub moment : Moment
  pub port : List ℕ

abbrev pub course_text : Course → List ℕ
course_text Sent = codes "sent "
course_text Received = codes "received "

abbrev pub failure_text : (has_failed : Bool) → List ℕ
failure_text true = codes "failed after "
failure_text false = codes ""

-- SECONDS.THOUSANDTHS
abbrev pub seconds_text : (thousandths : ℕ) → List ℕ
seconds_text n = decimal (n / 1000) ++ 46 ∷ (48 + n / 100 % 10) ∷ two_digits n

-- bytes per second, or 0 if no time has passed
abbrev pub speed : (bytes thousandths : ℕ) → ℕ
speed bytes thousandths = if thousandths == 0 then 0 else bytes * 1000 / thousandths

-- the bytes of a file that were transferred, and the time that this took
abbrev pub amount_text : (bytes thousandths : ℕ) → List ℕ
amount_text bytes thousandths =
    decimal bytes ++ codes " bytes in " ++ seconds_text thousandths
    ++ codes " seconds (" ++ decimal (speed bytes thousandths) ++ codes " bytes/sec)"

-- USER SYSTEM (MOMENT) COURSE AMOUNT on port PORT
abbrev pub stats_line : StatWords → Course → (has_failed : Bool) → (bytes thousandths : ℕ) → List ℕ
stats_line w course has_failed bytes thousandths =
    ended (w.user ++ codes " " ++ w.system ++ codes " (" ++ moment_text w.moment ++ codes ") "
    ++ failure_text has_failed ++ course_text course ++ amount_text bytes thousandths ++ codes " on port " ++ w.port)
