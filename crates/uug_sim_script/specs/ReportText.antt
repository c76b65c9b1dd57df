-- The text of a report (this project's profile).
use Rattle.std.specs.Prelude.{ℕ, suc, List, [], ◌∷◌, ◌++◌, codes, Option, Some, None}
use Rattle.std.specs.Fmt.{decimal}
use Rattle.hex.specs.Hex.{encode_lower}
use Rattle.uug_conversation.specs.Holdings.{Kept}
use Rattle.uug_talk.specs.Mode.{mode_digits}
use Rattle.uug_talk.specs.Lines.{ended}
use Rattle.uug_sim_script.specs.declared.report.EndNumbers.{EndNumbers}
use Rattle.uug_sim_script.specs.declared.report.HeldFile.{HeldFile}
use Rattle.uug_sim_script.specs.declared.report.SessionNumbers.{SessionNumbers}
use Rattle.uug_conversation.specs.declared.side.Side.{Side}
use Rattle.uug_conversation.specs.declared.side.Side.TheVariants.{Caller, Called}
use Rattle.uug_line.specs.declared.verdict.LineVerdict.{LineVerdict}
use Rattle.uug_line.specs.declared.verdict.LineVerdict.TheVariants.{Clean, Fooled}
use Rattle.uug_session.specs.PhaseWords.{phase_word, side_word}

-- what became of an end's jobs, how many of each, the files that it has stored, in order, what it holds of files that were cut
-- off, where it resumes, and the number of its next conversation, where it keeps one
pub record EndResult : Type 0 where
  pub pending : ℕ
  pub struck : ℕ
  pub failed : ℕ
  pub stored : List Kept
  pub held : List HeldFile
  pub number : Option ℕ

pub record RunResult : Type 0 where
  pub sessions : List SessionNumbers
  pub caller : EndResult
  pub called : EndResult
  pub verdict : LineVerdict

-- SIDE sent A taken B most C PHASE
abbrev pub end_line : Side → EndNumbers → List ℕ
end_line side e =
    ended (side_word side ++ codes " sent " ++ decimal e.sent ++ codes " taken " ++ decimal e.taken
    ++ codes " most " ++ decimal e.most ++ codes " " ++ phase_word e.phase)

abbrev pub session_text : ℕ → SessionNumbers → List ℕ
session_text n s = ended (codes "session " ++ decimal n) ++ end_line Caller s.caller ++ end_line Called s.called

-- the first of these sessions has this number
abbrev pub sessions_text : ℕ → List SessionNumbers → List ℕ
sessions_text n [] = []
sessions_text n (s ∷ more) = session_text n s ++ sessions_text (suc n) more

-- SIDE pending P struck S failed F
abbrev pub jobs_line : Side → EndResult → List ℕ
jobs_line side e =
    ended (side_word side ++ codes " pending " ++ decimal e.pending ++ codes " struck " ++ decimal e.struck
    ++ codes " failed " ++ decimal e.failed)

-- two small hexadecimal digits for each byte, or a dash where there is none
abbrev pub hex_text : List ℕ → List ℕ
hex_text [] = codes "-"
hex_text (b ∷ bs) = encode_lower (b ∷ bs)

-- SIDE stored NAME MODE HEX, the mode as four octal digits
abbrev pub stored_line : Side → Kept → List ℕ
stored_line side f =
    ended (side_word side ++ codes " stored " ++ f.name ++ codes " " ++ mode_digits f.mode ++ codes " " ++ hex_text f.bytes)

abbrev pub stored_text : Side → List Kept → List ℕ
stored_text side [] = []
stored_text side (f ∷ more) = stored_line side f ++ stored_text side more

-- SIDE holds NAME BYTES
abbrev pub held_line : Side → HeldFile → List ℕ
held_line side f = ended (side_word side ++ codes " holds " ++ f.name ++ codes " " ++ decimal f.size)

abbrev pub held_text : Side → List HeldFile → List ℕ
held_text side [] = []
held_text side (f ∷ more) = held_line side f ++ held_text side more

-- SIDE number N, where a number is kept
abbrev pub number_line : Side → Option ℕ → List ℕ
number_line side None = []
number_line side (Some n) = ended (side_word side ++ codes " number " ++ decimal n)

abbrev pub verdict_line : LineVerdict → List ℕ
verdict_line Clean = ended (codes "verdict clean")
verdict_line (Fooled event side) = ended (codes "verdict fooled " ++ decimal event ++ codes " " ++ side_word side)

-- sessions are counted from 1
abbrev pub report_text : RunResult → List ℕ
report_text r =
    sessions_text 1 r.sessions ++ jobs_line Caller r.caller ++ jobs_line Called r.called
    ++ stored_text Caller r.caller.stored ++ stored_text Called r.called.stored
    ++ held_text Caller r.caller.held ++ held_text Called r.called.held
    ++ number_line Caller r.caller.number ++ number_line Called r.called.number ++ verdict_line r.verdict
