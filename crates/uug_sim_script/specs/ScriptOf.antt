-- What a text says as a script, as a function, and what the program has read of it.
use Rattle.std.specs.Prelude.{◌≡◌, ℕ, ⊤, suc, List, [], ◌∷◌, Option, Some, None, Result, Err, ok_or}
use Rattle.std.specs.Result.{result_ok}
use Rattle.uug_line.specs.declared.setup.EndSetup.{EndSetup}
use Rattle.uug_link.specs.Announced.{announced}
use Rattle.uug_conversation.specs.MemoryHoldings.{held_by}
use Rattle.uug_sim_script.specs.declared.draft.Draft.{Draft}
use Rattle.uug_sim_script.specs.declared.draft.EndDraft.{EndDraft}
use Rattle.uug_sim_script.specs.declared.draft.EndPlace.{EndPlace}
use Rattle.uug_sim_script.specs.declared.fault.ScriptFault.{ScriptFault}
use Rattle.uug_sim_script.specs.declared.fault.ScriptFault.TheVariants as fault
use Rattle.uug_sim_script.specs.declared.line.EndStatement.{EndStatement}
use Rattle.uug_sim_script.specs.declared.line.Statement.{Statement}
use Rattle.uug_sim_script.specs.declared.script.Script.{Script}
use Rattle.uug_talk.specs.Chained.{◌>>=◌}
use Rattle.uug_sim_script.specs.Fields.{hex_bytes}
use Rattle.uug_talk.specs.Lines.{lines}
use Rattle.uug_sim_script.specs.Meaning.{file_meaning, end_meaning, line_meaning}
use Rattle.uug_sim_script.specs.ReadLine.{line_of}
use Rattle.uug_sim_script.specs.Script.{Place, EndSaid, Said, nothing_said, end_added, added, EndSays, ScriptSays, completed}

-- a line more
abbrev pub text_added : List ℕ → Said → Option Said
text_added line said = result_ok (line_of line) >>= (λ m. added m said)

-- the next step, or the number of the line at which there is none
abbrev pub or_bad : ℕ → Option Said → (Said → Result ScriptSays ℕ) → Result ScriptSays ℕ
or_bad n None next = Err n
or_bad n (Some said) next = next said

-- these lines, of which the first has this number, behind what was said before
abbrev pub script_from : ℕ → Said → List (List ℕ) → Result ScriptSays ℕ
script_from n said [] = ok_or (completed said) n
script_from n said (line ∷ more) = or_bad n (text_added line said) (λ next. script_from (suc n) next more)

-- what the text says, or the number of its first bad line
abbrev pub script_of : List ℕ → Result ScriptSays ℕ
script_of text = script_from 1 nothing_said (lines text)

-- ---- how the program keeps it

abbrev pub place_by : Option EndPlace → Option Place
place_by None = None
place_by (Some p) = Some (record { name = p.name; announced = announced p.announce })

abbrev pub said_of_end : {A : Type 0} → EndDraft A → EndSaid
said_of_end d = record {
  place = place_by d.place;
  queue = d.queue;
  held = held_by d.spool;
  number = d.number;
  quiet = d.quiet;
  short = d.short;
  limited = d.limited;
}

abbrev pub said_by : {A : Type 0} → Draft A → Said
said_by d = record { caller = said_of_end d.caller; called = said_of_end d.called; events = d.events.items }

abbrev pub end_said : {A : Type 0} → EndSetup A → EndSays
end_said s = record {
  name = s.name;
  announced = announced s.announce;
  queue = s.queue;
  held = held_by s.spool;
  number = s.number;
}

-- what a script in the program says
abbrev pub script_said : {A : Type 0} → Script A → ScriptSays
script_said s = record { caller = end_said s.setup.caller; called = end_said s.setup.called; events = s.events.items }

abbrev pub end_said_by : {A : Type 0} → Option (EndSetup A) → Option EndSays
end_said_by None = None
end_said_by (Some s) = Some (end_said s)

abbrev pub script_said_by : {A : Type 0} → Option (Script A) → Option ScriptSays
script_said_by None = None
script_said_by (Some s) = Some (script_said s)

abbrev pub file_added : List ℕ → ℕ → List ℕ → EndSaid → Option EndSaid
file_added name mode hex end = file_meaning name mode (hex_bytes hex) >>= (λ m. end_added m end)

abbrev pub end_line_added : EndStatement → EndSaid → Option EndSaid
end_line_added line end = end_meaning line >>= (λ m. end_added m end)

abbrev pub line_added : Statement → Said → Option Said
line_added line said = line_meaning line >>= (λ m. added m said)

-- the fault says the first bad line; running out of memory is left open
abbrev pub Faults : ScriptFault → Result ScriptSays ℕ → Type 0
Faults (fault.Bad n) script = script ≡ Err n
Faults fault.Memory script = ⊤
