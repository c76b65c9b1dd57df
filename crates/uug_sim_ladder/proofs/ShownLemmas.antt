-- What is written of a script that is played and drawn.
use Rattle.std.proofs.Common.{◌≡◌, ℕ, List, ◌++◌, Option, Some, None, IfSome, Result, Ok, Err, IfErr, IsErrAnd, ap, sym, subst, inr, ◌∙◌}
use Rattle.uug_sim_play.specs.Played.{IsPlayed, result_said}
use Rattle.uug_sim_play.specs.Whole.{BringsAll}
use Rattle.uug_sim_script.proofs.ScriptTableLemmas.{script_is_read}
use Rattle.uug_sim_script.specs.ReportText.{report_text}
use Rattle.uug_sim_script.specs.ScriptOf.{script_of}
use Rattle.uug_stream.specs.Streams.{AppendsFront}
use Rattle.uug_stream.specs.declared.fault.ToolFault.{ToolFault}
use Rattle.uug_stream.specs.declared.fault.ToolFault.TheVariants as faults
use Rattle.uug_sim_ladder.specs.Fronts.{IsLadderOf, ladder_said}
use Rattle.uug_sim_ladder.specs.LadderText.{ladder_text}
use Rattle.uug_sim_ladder.specs.Played.{BeginsShown, IsShowingFault, IsShown, RunsOutShowing}
use Rattle.uug_sim_ladder.specs.Rungs.{LadderValue}
use Rattle.uug_sim_ladder.proofs.FrontLemmas.{one_saying}

-- the ladder is of what was played
same_ladder : (script text : List ℕ) (status : ℕ) (ladder : LadderValue) → (played : IsPlayed script text status) →
    IsLadderOf script ladder → ladder ≡ ladder_said played.says
same_ladder script text status ladder played is =
    is.ladder_is ∙ ap ladder_said (one_saying (script_of script) is.says played.says (script_is_read script is.says is.script_is)
    (script_is_read script played.says played.script_is))

pub text_shown : (script text all : List ℕ) (status : ℕ) (ladder : LadderValue) → IsPlayed script text status →
    IsLadderOf script ladder → all ≡ text ++ ladder_text ladder → IsShown script all status
text_shown script text all status ladder played is a = record {
  says = played.says;
  script_is = played.script_is;
  text_is = a ∙ ap (λ t. t ++ ladder_text ladder) played.text_is
      ∙ ap (λ l. report_text (result_said played.says) ++ ladder_text l) (same_ladder script text status ladder played is);
  status_is = played.status_is;
}

-- ---- what was written when writing gave up

pub begins_shown : (bytes text : List ℕ) (status : ℕ) (first left before after : Option (List ℕ)) → BringsAll bytes first left →
    IsShown bytes text status → AppendsFront text before after → IfSome first (λ script. BeginsShown script before after)
begins_shown bytes text status None left before after h shown front = tt
begins_shown bytes text status (Some all) left before after h shown front =
    (text, status, subst (λ b. IsShown b text status) (sym h.0) shown, front)

pub runs_out_showing : (bytes text : List ℕ) (status : ℕ) (first left before after : Option (List ℕ)) → BringsAll bytes first left →
    IsShown bytes text status → AppendsFront text before after → RunsOutShowing first left before after
runs_out_showing bytes text status None left before after h shown front = tt
runs_out_showing bytes text status (Some all) left before after h shown front =
    inr (h.1, begins_shown bytes text status (Some all) left before after h shown front)

-- ---- a fault that is handed on by `?`

pub memory_is_met : {T : Type 0} (script : List ℕ) (answer : Result T ToolFault) → IsErrAnd answer (λ fault. fault ≡ faults.Memory) →
    IfErr answer (IsShowingFault script)
memory_is_met script (Ok value) h = absurd h
memory_is_met script (Err fault) h = subst (IsShowingFault script) (sym h) tt
