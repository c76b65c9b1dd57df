-- What is written of a script that is played and drawn (this project's profile).
use Rattle.std.specs.Io.KnownBytes.{Keeps}
use Rattle.std.specs.Prelude.{◌≡◌, ◌⊎◌, ℕ, ⊤, List, [], ◌++◌, Option, Some, IfSome, Result, Err}
use Rattle.uug_sim_play.specs.Played.{result_said}
use Rattle.uug_sim_script.specs.IsScript.{IsFirstBad, IsScript}
use Rattle.uug_sim_script.specs.ReportText.{report_text}
use Rattle.uug_sim_script.specs.Script.{ScriptSays}
use Rattle.uug_stream.specs.Streams.{Appends, AppendsFront}
use Rattle.uug_stream.specs.declared.fault.ToolFault.{ToolFault}
use Rattle.uug_stream.specs.declared.fault.ToolFault.TheVariants as tool_faults
use Rattle.uug_sim_play.specs.Numbers.{status_of_result}
use Rattle.uug_sim_ladder.specs.Fronts.{ladder_said}
use Rattle.uug_sim_ladder.specs.LadderText.{ladder_text}

-- the report and the ladder behind it
abbrev pub shown_of : ScriptSays → List ℕ
shown_of says = report_text (result_said says) ++ ladder_text (ladder_said says)

-- the text is a script, and this is written of what it says, and the status of its report
pub record IsShown (script text : List ℕ) (status : ℕ) : Type 0 where
  pub says : ScriptSays
  pub script_is : IsScript script says
  pub text_is : text ≡ shown_of says
  pub status_is : status ≡ status_of_result (result_said says)

abbrev pub AppendsShown : (script : List ℕ) → (status : ℕ) → Option (List ℕ) → Option (List ℕ) → Type 0
AppendsShown script status before after =
    (text : List ℕ) × IsShown script text status × Appends text before after

-- a front of it was appended, or none of it
abbrev pub BeginsShown : (script : List ℕ) → Option (List ℕ) → Option (List ℕ) → Type 0
BeginsShown script before after =
    (text : List ℕ) × (status : ℕ) × IsShown script text status × AppendsFront text before after

-- Where memory ran out, nothing was written, or the whole script was read and this begun. The first two are the bytes to
-- come before and after, the others what was written.
abbrev pub RunsOutShowing : (script left before after : Option (List ℕ)) → Type 0
RunsOutShowing script left before after =
    IfSome script (λ bytes. Keeps before after ⊎ ((left ≡ Some []) × BeginsShown bytes before after))

-- the fault says why nothing is shown; out of memory is left open
abbrev pub IsShowingFault : (script : List ℕ) → ToolFault → Type 0
IsShowingFault script (tool_faults.Script line) = IsFirstBad script line
IsShowingFault script tool_faults.Memory = ⊤
IsShowingFault script _ = ⊥

-- the faults of playing and drawing: those of devices, a bad script, and memory
abbrev pub IsDrawingFault : ToolFault → Type 0
IsDrawingFault tool_faults.Read = ⊤
IsDrawingFault tool_faults.Write = ⊤
IsDrawingFault tool_faults.Memory = ⊤
IsDrawingFault (tool_faults.Script line) = ⊤
IsDrawingFault tool_faults.Device = ⊤
IsDrawingFault _ = ⊥

-- the fact, where the answer comes before anything is written
abbrev pub BeforeWriting : {T : Type 0} → Result T ToolFault → Type 0 → Type 0
BeforeWriting (Err tool_faults.Read) P = P
BeforeWriting (Err tool_faults.Device) P = P
BeforeWriting (Err (tool_faults.Script line)) P = P
BeforeWriting answer P = ⊤
