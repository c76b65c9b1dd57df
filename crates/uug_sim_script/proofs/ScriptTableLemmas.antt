-- The function that reads a script, and what a script is, agree.
use Rattle.std.proofs.Common.{◌≡◌, ℕ, suc, ◌+◌, List, [], ◌∷◌, ◌++◌, length, Option, Some, None, Result, Ok, Err, IfOk, IfErr, ok_or, refl, sym, ap, ◌∙◌, arith}
use Rattle.std.proofs.lemmas.List.{append-nil}
use Rattle.std.specs.Result.{result_ok}
use Rattle.uug_sim_script.specs.Complaints.{Wrong}
use Rattle.uug_sim_script.specs.Meaning.{LineMeaning}
use Rattle.uug_sim_script.specs.declared.fault.ScriptFault.{ScriptFault}
use Rattle.uug_sim_script.specs.declared.fault.ScriptFault.TheVariants as fault
use Rattle.uug_sim_script.specs.declared.script.Script.{Script}
use Rattle.uug_sim_script.specs.IsScript.{LineAdds, LinesAdd, no_line, line_more, IsScript, BadNext, bad_line, no_end, IsFirstBad, IsFaultOf}
use Rattle.uug_talk.specs.Lines.{lines}
use Rattle.uug_sim_script.specs.ReadLine.{line_of}
use Rattle.uug_sim_script.specs.Script.{Said, nothing_said, added, ScriptSays, completed}
use Rattle.uug_sim_script.specs.ScriptOf.{text_added, or_bad, script_from, script_of, script_said, Faults}
use Rattle.uug_sim_script.proofs.TableLemmas.{text_says_read, read_text_says}
use Rattle.uug_sim_script.proofs.WordTableLemmas.{bind_some}

-- ---- one line

line_is_added : (line : List ℕ) (before after : Said) → LineAdds line before after → text_added line before ≡ Some after
line_is_added line before after h = rw (text_says_read line h.meaning h.says) h.adds

ok_when_some : (r : Result LineMeaning Wrong) (m : LineMeaning) → result_ok r ≡ Some m → r ≡ Ok m
ok_when_some (Ok x) m e = let same : x ≡ m = cc in ap Ok same
ok_when_some (Err w) m e = absurd cc

line_adds : (line : List ℕ) (before after : Said) → text_added line before ≡ Some after → LineAdds line before after
line_adds line before after e =
    let m = bind_some (result_ok (line_of line)) (λ m. added m before) after e in
    record { meaning = m.0; says = read_text_says line m.0 (ok_when_some (line_of line) m.0 m.1); adds = m.2 }

-- ---- the lines

-- what is read of a script from some lines on
taken_first : (n : ℕ) (good rest : List (List ℕ)) (before said : Said) → LinesAdd good before said
    → script_from n before (good ++ rest) ≡ script_from (length good + n) said rest
taken_first n good rest before said no_line = ap (λ k. script_from k before rest) (omega arith)
taken_first n good rest before said (line_more {line = line} {more = more} {between = between} h t) =
    rw (line_is_added line before between h) (taken_first (suc n) more rest between said t ∙ ap (λ k. script_from k said rest) (omega arith))

none_complete : (o : Option ScriptSays) → ((script : ScriptSays) → o ≡ Some script → ⊥) → o ≡ None
none_complete None h = refl
none_complete (Some script) h = absurd (h script refl)

none_added : (line : List ℕ) (said : Said) (o : Option Said) → text_added line said ≡ o → ((after : Said) → LineAdds line said after → ⊥) → o ≡ None
none_added line said None e h = refl
none_added line said (Some after) e h = absurd (h after (line_adds line said after e))

stops : (n : ℕ) (said : Said) (rest : List (List ℕ)) → BadNext said rest → script_from n said rest ≡ Err n
stops n said rest (bad_line {line = line} h) = rw (none_added line said (text_added line said) refl h) refl
stops n said rest (no_end h) = rw (none_complete (completed said) h) refl

pub script_is_read : (text : List ℕ) (script : ScriptSays) → IsScript text script → script_of text ≡ Ok script
script_is_read text script h =
    let all : lines text ++ [] ≡ lines text = append-nil (lines text) in
    ap (script_from 1 nothing_said) (sym all) ∙ taken_first 1 (lines text) [] nothing_said h.said h.taken ∙ rw h.complete refl

pub first_bad_is_read : (text : List ℕ) (n : ℕ) → IsFirstBad text n → script_of text ≡ Err n
first_bad_is_read text n h =
    ap (script_from 1 nothing_said) h.cut ∙ taken_first 1 h.good h.rest nothing_said h.said h.taken
    ∙ stops (length h.good + 1) h.said h.rest h.next ∙ ap Err (sym h.counted)

-- ---- back

record ReadScript (n : ℕ) (before : Said) (ls : List (List ℕ)) (script : ScriptSays) : Type 0 where
  said : Said
  taken : LinesAdd ls before said
  complete : completed said ≡ Some script

record ReadBad (n : ℕ) (before : Said) (ls : List (List ℕ)) (k : ℕ) : Type 0 where
  good : List (List ℕ)
  rest : List (List ℕ)
  said : Said
  cut : ls ≡ good ++ rest
  taken : LinesAdd good before said
  next : BadNext said rest
  counted : k ≡ length good + n

read_script : (n : ℕ) (before : Said) (ls : List (List ℕ)) (script : ScriptSays) → script_from n before ls ≡ Ok script → ReadScript n before ls script
read_script n before [] script e = by_end (completed before) refl e where
  by_end : (o : Option ScriptSays) → completed before ≡ o → ok_or o n ≡ Ok script → ReadScript n before [] script
  by_end (Some found) t f = let same : found ≡ script = cc in record { said = before; taken = no_line; complete = t ∙ ap Some same }
  by_end None t f = absurd cc
read_script n before (line ∷ more) script e = by_line (text_added line before) refl e (λ between. read_script (suc n) between more script) where
  by_line : (o : Option Said) → text_added line before ≡ o → or_bad n o (λ next. script_from (suc n) next more) ≡ Ok script
      → ((between : Said) → script_from (suc n) between more ≡ Ok script → ReadScript (suc n) between more script) → ReadScript n before (line ∷ more) script
  by_line (Some between) t f later =
      let r = later between f in
      record { said = r.said; taken = line_more (line_adds line before between t) r.taken; complete = r.complete }
  by_line None t f later = absurd cc

read_bad : (n : ℕ) (before : Said) (ls : List (List ℕ)) (k : ℕ) → script_from n before ls ≡ Err k → ReadBad n before ls k
read_bad n before [] k e = by_end (completed before) refl e where
  by_end : (o : Option ScriptSays) → completed before ≡ o → ok_or o n ≡ Err k → ReadBad n before [] k
  by_end (Some found) t f = absurd cc
  by_end None t f =
      let same : n ≡ k = cc in
      record { good = []; rest = []; said = before; cut = refl; taken = no_line; next = no_end (λ script g. absurd cc); counted = omega (arith, same) }
read_bad n before (line ∷ more) k e = by_line (text_added line before) refl e (λ between. read_bad (suc n) between more k) where
  by_line : (o : Option Said) → text_added line before ≡ o → or_bad n o (λ next. script_from (suc n) next more) ≡ Err k
      → ((between : Said) → script_from (suc n) between more ≡ Err k → ReadBad (suc n) between more k) → ReadBad n before (line ∷ more) k
  by_line (Some between) t f later =
      let r = later between f in
      record {
        good = line ∷ r.good;
        rest = r.rest;
        said = r.said;
        cut = ap (λ ls. line ∷ ls) r.cut;
        taken = line_more (line_adds line before between t) r.taken;
        next = r.next;
        counted = omega (arith, r.counted);
      }
  by_line None t f later =
      let same : n ≡ k = cc in
      record {
        good = [];
        rest = line ∷ more;
        said = before;
        cut = refl;
        taken = no_line;
        next = bad_line (λ after h. let g = line_is_added line before after h in absurd cc);
        counted = omega (arith, same);
      }

pub read_is_script : (text : List ℕ) (script : ScriptSays) → script_of text ≡ Ok script → IsScript text script
read_is_script text script e = let r = read_script 1 nothing_said (lines text) script e in record { said = r.said; taken = r.taken; complete = r.complete }

pub read_is_first_bad : (text : List ℕ) (n : ℕ) → script_of text ≡ Err n → IsFirstBad text n
read_is_first_bad text n e =
    let r = read_bad 1 nothing_said (lines text) n e in
    record { good = r.good; rest = r.rest; said = r.said; cut = r.cut; taken = r.taken; next = r.next; counted = r.counted }

-- ---- what was answered

pub script_found : {A : Type 0} (text : List ℕ) (r : Result (Script A) ScriptFault) → IfOk r (λ s. script_of text ≡ Ok (script_said s))
    → IfOk r (λ s. IsScript text (script_said s))
script_found text (Ok s) h = read_is_script text (script_said s) h
script_found text (Err fault) h = tt

fault_found : (text : List ℕ) (f : ScriptFault) → Faults f (script_of text) → IsFaultOf f text
fault_found text (fault.Bad n) h = read_is_first_bad text n h
fault_found text fault.Memory h = tt

pub bad_found : {A : Type 0} (text : List ℕ) (r : Result (Script A) ScriptFault) → IfErr r (λ f. Faults f (script_of text)) → IfErr r (λ f. IsFaultOf f text)
bad_found text (Ok s) h = tt
bad_found text (Err f) h = fault_found text f h
