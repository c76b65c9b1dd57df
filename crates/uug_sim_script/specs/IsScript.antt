-- What a text says as a script (this project's profile): its lines, taken in order, each behind those before it.
use Rattle.std.specs.Prelude.{◌≡◌, ℕ, ◌+◌, List, [], ◌∷◌, ◌++◌, length, ⊤, Some}
use Rattle.uug_conversation.specs.Jobs.{at_start}
use Rattle.uug_sim_script.specs.declared.fault.ScriptFault.{ScriptFault}
use Rattle.uug_sim_script.specs.declared.fault.ScriptFault.TheVariants as fault
use Rattle.uug_talk.specs.Lines.{lines}
use Rattle.uug_sim_script.specs.LineSays.{TextSays}
use Rattle.uug_sim_script.specs.Meaning.{LineMeaning}
use Rattle.uug_sim_script.specs.Script.{Said, nothing_said, added, EndSays, ScriptSays, completed}

-- the line adds this to what was said before it
pub record LineAdds (line : List ℕ) (before after : Said) : Type 0 where
  pub meaning : LineMeaning
  pub says : TextSays line meaning
  pub adds : added meaning before ≡ Some after

-- these lines in order, from what was said before them
pub data LinesAdd : List (List ℕ) → Said → Said → Type 0 where
  no_line : {said : Said} → LinesAdd [] said said
  line_more : {line : List ℕ} {more : List (List ℕ)} {before between after : Said}
      → LineAdds line before between → LinesAdd more between after → LinesAdd (line ∷ more) before after

-- the text is a script that says this: every line is good, and both ends are placed
pub record IsScript (text : List ℕ) (script : ScriptSays) : Type 0 where
  pub said : Said
  pub taken : LinesAdd (lines text) nothing_said said
  pub complete : completed said ≡ Some script

-- Behind these lines the next one is bad: it is no line of a script, or it adds nothing to what was said. Where there is
-- none, an end is not placed.
pub data BadNext : Said → List (List ℕ) → Type 0 where
  bad_line : {said : Said} {line : List ℕ} {more : List (List ℕ)} → ((after : Said) → LineAdds line said after → ⊥) → BadNext said (line ∷ more)
  no_end : {said : Said} → ((script : ScriptSays) → completed said ≡ Some script → ⊥) → BadNext said []

-- this line of the text, counted from 1, is the first bad one, or behind the last one where an end is not placed
pub record IsFirstBad (text : List ℕ) (n : ℕ) : Type 0 where
  pub good : List (List ℕ)
  pub rest : List (List ℕ)
  pub said : Said
  pub cut : lines text ≡ good ++ rest
  pub taken : LinesAdd good nothing_said said
  pub next : BadNext said rest
  pub counted : n ≡ length good + 1

-- an end's jobs all wait to be offered, and its spool has kept nothing
pub record EndBegins (end : EndSays) : Type 0 where
  pub jobs : end.queue ≡ at_start end.queue.ahead [] []
  pub stored : end.held.stored ≡ []

pub record BeginsAfresh (script : ScriptSays) : Type 0 where
  pub caller : EndBegins script.caller
  pub called : EndBegins script.called

-- the fault says the first bad line; running out of memory is left open
abbrev pub IsFaultOf : ScriptFault → List ℕ → Type 0
IsFaultOf (fault.Bad n) text = IsFirstBad text n
IsFaultOf fault.Memory text = ⊤
