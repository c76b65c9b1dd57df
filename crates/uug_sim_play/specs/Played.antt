-- What is played from a text (this project's profile).
use Rattle.std.specs.Io.KnownBytes.{Keeps}
use Rattle.std.specs.Prelude.{◌≡◌, ◌⊎◌, ℕ, List, [], Option, Some, Result, Ok, Err, IfSome, ⊤}
use Rattle.uug_stream.specs.Streams.{Appends, AppendsFront}
use Rattle.uug_stream.specs.declared.fault.ToolFault.{ToolFault}
use Rattle.uug_stream.specs.declared.fault.ToolFault.TheVariants as faults
use Rattle.uug_line.specs.Belongings.{EndSetupValue, SetupValue}
use Rattle.uug_line.specs.Setup.{with_nothing_held}
use Rattle.uug_line.specs.Spelled.{spelled}
use Rattle.uug_line.specs.World.{report_of_world}
pub use Rattle.uug_sim_script.specs.IsScript.{IsFirstBad, IsScript}
use Rattle.uug_sim_script.specs.ReportText.{RunResult, report_text}
use Rattle.uug_sim_script.specs.Script.{EndSays, ScriptSays}
use Rattle.uug_conversation.specs.Sides.{AtBoth}
use Rattle.uug_conversation.specs.Holdings.{Holdings}
use Rattle.uug_sim_play.specs.Numbers.{result_of, status_of_result}
use Rattle.uug_sim_play.specs.Reasons.{given_by, reasons_text}

-- an end as the script sets it up
abbrev pub end_setup_said : EndSays → EndSetupValue
end_setup_said e = record {
  name = e.name;
  own = e.announced;
  holdings = given_by e.held;
  belongings = record {
    lists = e.queue;
    kept = e.held.stored;
    partials = (with_nothing_held e.held).partials;
    number = e.number;
  };
}

abbrev pub setup_said : ScriptSays → SetupValue
setup_said s = record { at_caller = end_setup_said s.caller; at_called = end_setup_said s.called }

-- what the two ends that the script sets up do under its events, as somebody tells who knows both
abbrev pub result_said : ScriptSays → RunResult
result_said s = result_of (spelled (report_of_world (setup_said s) s.events))

-- the text is a script, and this the text and the status of the report of what it says
pub record IsPlayed (script text : List ℕ) (status : ℕ) : Type 0 where
  pub says : ScriptSays
  pub script_is : IsScript script says
  pub text_is : text ≡ report_text (result_said says)
  pub status_is : status ≡ status_of_result (result_said says)

-- what the spools of the two ends give and accept
abbrev pub holdings_said : ScriptSays → AtBoth Holdings
holdings_said s = record { at_caller = given_by s.caller.held; at_called = given_by s.called.held }

-- the same, and beside it why the jobs that are not done are not
pub record IsPlayedVerbosely (script text reasons : List ℕ) (status : ℕ) : Type 0 where
  pub says : ScriptSays
  pub script_is : IsScript script says
  pub text_is : text ≡ report_text (result_said says)
  pub reasons_are : reasons ≡ reasons_text (spelled (report_of_world (setup_said says) says.events)) (holdings_said says)
  pub status_is : status ≡ status_of_result (result_said says)

-- the report of what the script says was appended, where the output tells what was written
abbrev pub AppendsReport : (script : List ℕ) → (status : ℕ) → Option (List ℕ) → Option (List ℕ) → Type 0
AppendsReport script status before after =
    (text : List ℕ) × IsPlayed script text status × Appends text before after

-- that report was appended, and these are the reasons
abbrev pub AppendsVerbosely : (script reasons : List ℕ) → (status : ℕ) → Option (List ℕ) → Option (List ℕ) → Type 0
AppendsVerbosely script reasons status before after =
    (text : List ℕ) × IsPlayedVerbosely script text reasons status × Appends text before after

-- a front of that report was appended, or none of it
abbrev pub BeginsReport : (script : List ℕ) → Option (List ℕ) → Option (List ℕ) → Type 0
BeginsReport script before after =
    (text : List ℕ) × (status : ℕ) × IsPlayed script text status × AppendsFront text before after

-- ---- what was read and written when the answer came

-- the fact, where the answer comes only when the whole script was read
abbrev pub OnceRead : {T : Type 0} → Result T ToolFault → Type 0 → Type 0
OnceRead (Ok status) P = P
OnceRead (Err (faults.Script line)) P = P
OnceRead (Err faults.Write) P = P
OnceRead (Err fault) P = ⊤

-- the fact, where the answer comes before the report is written
abbrev pub BeforeReport : {T : Type 0} → Result T ToolFault → Type 0 → Type 0
BeforeReport (Err faults.Read) P = P
BeforeReport (Err faults.Device) P = P
BeforeReport (Err (faults.Script line)) P = P
BeforeReport answer P = ⊤

-- Where memory ran out, nothing was written, or the whole script was read and its report begun. The first two are the
-- bytes to come before and after, the others what was written.
abbrev pub RunsOut : (script left before after : Option (List ℕ)) → Type 0
RunsOut script left before after =
    IfSome script (λ bytes. Keeps before after ⊎ ((left ≡ Some []) × BeginsReport bytes before after))

-- the fault names the first bad line; out of memory is left open
abbrev pub IsScriptFault : (script : List ℕ) → ToolFault → Type 0
IsScriptFault script (faults.Script n) = IsFirstBad script n
IsScriptFault script faults.Memory = ⊤
IsScriptFault script _ = ⊥

-- the faults of playing: those of its devices, a bad script, and memory
abbrev pub IsPlayFault : ToolFault → Type 0
IsPlayFault faults.Read = ⊤
IsPlayFault faults.Write = ⊤
IsPlayFault faults.Memory = ⊤
IsPlayFault (faults.Script line) = ⊤
IsPlayFault faults.Device = ⊤
IsPlayFault _ = ⊥
