-- The ladder of a run, drawn event by event.
use Rattle.std.proofs.Common.{◌≡◌, ℕ, suc, ◌+◌, ◌<◌, ◌≤◌, Bool, true, false, List, [], ◌∷◌, ◌++◌, drop, get_or, length, take, take_all, Result, Ok, Err, IfErr, IsErrAnd, Option, Some, None, IsSomeAnd, refl, ap, arith, sym, ◌∙◌, subst}
use Rattle.std.proofs.lemmas.List.{drop_all, drop_more, take_more}
use Rattle.uug_line.specs.declared.event.Event.{Event}
use Rattle.uug_line.specs.Belongings.{SetupValue}
use Rattle.uug_line.specs.OfSomeRun.{IsRunOf}
use Rattle.uug_line.specs.Simulator.{IsBehind, SimulatorValue, Steps, report_kept}
use Rattle.uug_line.specs.WholeReport.{WholeReport}
use Rattle.uug_sim_play.specs.Played.{setup_said}
use Rattle.uug_sim_script.specs.IsScript.{IsScript}
use Rattle.uug_sim_script.specs.Script.{ScriptSays}
use Rattle.uug_sim_ladder.specs.declared.fault.LadderFault.{LadderFault}
use Rattle.uug_sim_ladder.specs.declared.fault.LadderFault.TheVariants as faults
use Rattle.uug_sim_ladder.specs.declared.moment.Moment.{Moment}
use Rattle.uug_sim_ladder.specs.Code.Progress.{DrawnSoFar, drawn_on, moment_now}
use Rattle.uug_conversation.specs.Sides.{AtBoth}
use Rattle.uug_conversation.specs.declared.side.Side.TheVariants.{Caller, Called}
use Rattle.uug_line.specs.Told.{SpelledReport}
use Rattle.uug_sim_ladder.specs.Drawing.{DrawingValue, draws, first_drawing, unless_fooled}
use Rattle.uug_sim_ladder.specs.Fronts.{IsLadderFault, IsLadderOf, front_behind, front_of, ladder_of, ladder_said}
use Rattle.uug_sim_ladder.specs.Moments.{Front, front_shown, moment_told}
use Rattle.uug_sim_ladder.specs.Rungs.{LadderValue}

-- a text says one thing
abbrev says_or : ScriptSays → Result ScriptSays ℕ → ScriptSays
says_or s (Ok says) = says
says_or s (Err n) = s

pub one_saying : (script : Result ScriptSays ℕ) (says s : ScriptSays) → script ≡ Ok says → script ≡ Ok s → says ≡ s
one_saying script says s h other = ap (says_or says) (sym h ∙ other)

-- ---- a run's report shows what is told, and what is on the lines, behind its events

abbrev front_by : SpelledReport → (caller called : List ℕ) → Front
front_by told caller called = record { told = told; lines = record { at_caller = caller; at_called = called } }

shows : (setup : SetupValue) (events : List Event) (report : WholeReport) → IsRunOf setup events report → front_shown report ≡ front_behind setup events
shows setup events report is =
    ap (λ told. front_by told report.left.at_caller.line report.left.at_called.line) is.told
    ∙ ap (λ line. front_by (front_behind setup events).told line report.left.at_called.line) (is.lines Caller)
    ∙ ap (λ line. front_by (front_behind setup events).told (front_behind setup events).lines.at_caller line) (is.lines Called)

-- ---- behind the first events

module _ (setup : SetupValue) (events : List Event) where
  abbrev front : ℕ → Front
  front = front_of setup events

  abbrev whole : DrawingValue
  whole = draws front 0 events (first_drawing (front 0))

  -- what is drawn in all, with the events behind so many
  abbrev drawn_in_all : (number : ℕ) → DrawnSoFar → DrawingValue
  drawn_in_all number drawn = unless_fooled drawn.stopped (draws front number (drop number events)) drawn.drawing

  -- so many have happened, and are drawn
  pub record Stands (number : ℕ) (run : Option SimulatorValue) (drawn : DrawnSoFar) : Type 0 where
    pub behind : IsSomeAnd run (IsBehind setup (take number events))
    pub in_all : drawn_in_all number drawn ≡ whole

  pub stands_first : (run : Option SimulatorValue) (drawn : DrawnSoFar) → IsSomeAnd run (IsBehind setup []) →
      IsSomeAnd (report_kept run) (λ report. drawn ≡ record { drawing = first_drawing (front_shown report); stopped = false }) → Stands 0 run drawn
  stands_first None drawn b d = absurd b
  stands_first (Some run) drawn b d = record {
    behind = b;
    in_all = ap (drawn_in_all 0) d ∙ ap (λ now. draws front 0 events (first_drawing now)) (shows setup [] run.report b.is);
  }

  -- what is drawn of an event more
  next_drawn : (stopped : Bool) (number : ℕ) (event : Event) (drawing : DrawingValue) → drop number events ≡ event ∷ drop (suc number) events →
      unless_fooled stopped (draws front number (drop number events)) drawing ≡ whole →
      drawn_in_all (suc number) (drawn_on stopped event number (moment_told (front number).told) (front (suc number)) drawing) ≡ whole
  next_drawn true number event drawing at h = h
  next_drawn false number event drawing at h = sym (ap (λ es. draws front number es drawing) at) ∙ h

  -- an event happens to a run that stands behind the first ones, and is drawn
  stepped_on : (number : ℕ) (d : Event) (old new : SimulatorValue) (drawn next : DrawnSoFar) →
      number < length events → Stands number (Some old) drawn → Steps (get_or events number d) (Some old) (Some new) →
      next ≡ drawn_on drawn.stopped (get_or events number d) number (moment_told old.report.told) (front_shown new.report) drawn.drawing →
      Stands (suc number) (Some new) next
  stepped_on number d old new drawn next within stands happened n =
      let event : Event = get_or events number d in
      let one_more : number + 1 ≡ suc number = omega arith in
      let behind : IsBehind setup (take (suc number) events) new =
      subst (λ k. IsBehind setup (take k events) new) one_more
      (subst (λ (es : List Event). IsBehind setup es new) (sym (take_more events number d within))
      (happened setup (take number events) stands.behind)) in
      record {
        behind = behind;
        in_all =
            ap (drawn_in_all (suc number)) (n
            ∙ ap (λ told. drawn_on drawn.stopped event number (moment_told told) (front_shown new.report) drawn.drawing) stands.behind.is.told
            ∙ ap (λ now. drawn_on drawn.stopped event number (moment_told (front number).told) now drawn.drawing)
            (shows setup (take (suc number) events) new.report behind.is))
            ∙ next_drawn drawn.stopped number event drawn.drawing
            (drop_more events number d within ∙ ap (λ k. event ∷ drop k events) one_more) stands.in_all;
      }

  pub stands_next : (number : ℕ) (d : Event) (old new : Option SimulatorValue) (drawn next : DrawnSoFar) →
      number < length events → Stands number old drawn → Steps (get_or events number d) old new →
      IsSomeAnd (report_kept new) (λ report. next ≡ drawn_on drawn.stopped (get_or events number d) number (moment_now (report_kept old)) (front_shown report) drawn.drawing) →
      Stands (number + 1) new next
  stands_next number d None new drawn next within stands happened n = absurd stands.behind
  stands_next number d (Some old) None drawn next within stands happened n = absurd n
  stands_next number d (Some old) (Some new) drawn next within stands happened n =
      let one_more : number + 1 ≡ suc number = omega arith in
      subst (λ k. Stands k (Some new) next) (sym one_more) (stepped_on number d old new drawn next within stands happened n)

  all_drawn : (stopped : Bool) (rest : List Event) (number : ℕ) (drawing : DrawingValue) → rest ≡ [] →
      unless_fooled stopped (draws front number rest) drawing ≡ whole → drawing ≡ whole
  all_drawn true rest number drawing none h = h
  all_drawn false rest number drawing none h = sym (ap (λ es. draws front number es drawing) none) ∙ h

  -- behind the last event all is drawn
  pub ladder_whole : (number : ℕ) (run : Option SimulatorValue) (drawn : DrawnSoFar) → length events ≤ number → Stands number run drawn →
      drawn.drawing.ladder ≡ ladder_of setup events
  ladder_whole number run drawn past stands =
      ap (λ (d : DrawingValue). d.ladder)
      (all_drawn drawn.stopped (drop number events) number drawn.drawing (drop_all number events past) stands.in_all)

  -- and the run is that of all events
  pub run_whole : (number : ℕ) (run : Option SimulatorValue) (drawn : DrawnSoFar) (kept : Option WholeReport) (report : WholeReport) →
      length events ≤ number → kept ≡ report_kept run → kept ≡ Some report → Stands number run drawn → IsRunOf setup events report
  run_whole number None drawn kept report past k is stands = absurd stands.behind
  run_whole number (Some run) drawn kept report past k is stands =
      let same : run.report ≡ report = let e : Some run.report ≡ Some report = sym k ∙ is in cc in
      subst (λ (r : WholeReport). IsRunOf setup events r) same
      (subst (λ (es : List Event). IsRunOf setup es run.report) (take_all number events past) stands.behind.is)

-- ---- so the ladder is that of what the script says

ladder_drawn : (s : ScriptSays) (events : List Event) (ladder : LadderValue) → events ≡ s.events →
    ladder ≡ ladder_of (setup_said s) events → ladder ≡ ladder_said s
unfolding ladder_said
ladder_drawn s events ladder e l = l ∙ ap (ladder_of (setup_said s)) e

pub is_ladder : (text : List ℕ) (s : ScriptSays) (events : List Event) (ladder : LadderValue) → IsScript text s → events ≡ s.events →
    ladder ≡ ladder_of (setup_said s) events → IsLadderOf text ladder
is_ladder text s events ladder is e l = record { says = s; script_is = is; ladder_is = ladder_drawn s events ladder e l }

-- ---- a fault that is handed on by `?`

pub memory_is_met : {T : Type 0} (text : List ℕ) (answer : Result T LadderFault) → IsErrAnd answer (λ fault. fault ≡ faults.Memory) →
    IfErr answer (IsLadderFault text)
memory_is_met text (Ok value) h = absurd h
memory_is_met text (Err fault) h = subst (IsLadderFault text) (sym h) tt
