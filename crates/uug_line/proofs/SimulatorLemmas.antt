-- An event more behind those of a report.
use Rattle.std.proofs.Common.{◌≡◌, ℕ, ◌+◌, Bool, true, false, List, [], ◌∷◌, ◌++◌, length, length-append, Option, Some, None, IfSome, refl, sym, ap, subst, ◌∙◌, arith}
use Rattle.std.proofs.lemmas.List.Elements.{All-append, All-cons, All-nil}
use Rattle.uug_conversation.specs.DialogueState.{DialogueState}
use Rattle.uug_line.specs.declared.event.Event.{Event}
use Rattle.uug_conversation.specs.declared.side.Side.{Side}
use Rattle.uug_conversation.specs.declared.side.Side.TheVariants.{Caller, Called}
use Rattle.uug_line.specs.declared.verdict.LineVerdict.{LineVerdict}
use Rattle.uug_line.specs.declared.verdict.LineVerdict.TheVariants.{Clean, Fooled}
use Rattle.uug_line.specs.Belongings.{SetupValue}
use Rattle.uug_line.specs.OfBytes.{AreOfTypes, IsOfBytes}
use Rattle.uug_line.specs.OfSomeRun.{IsRunOf}
use Rattle.uug_line.specs.Run.{Run, first_run, goes_through}
use Rattle.uug_line.specs.RunKeeper.{RunKeeper, by_numbers, by_themselves}
use Rattle.uug_line.specs.RunValue.{AllIsSaid, EndsAs, Happens, RunValue, StandsAs, hearing_side}
use Rattle.uug_line.specs.Settle.{line_from}
use Rattle.uug_line.specs.Simulator.{IsBehind, IsBehindSome, SimulatorValue, Steps, report_kept, simulator, simulator_kept, verdict_behind}
use Rattle.uug_line.specs.Spelled.{spelled}
use Rattle.uug_line.specs.StillHeld.{HoldWhatIsLeft}
use Rattle.uug_line.specs.Told.{SpelledReport}
use Rattle.uug_line.specs.WholeReport.{WholeReport, whole_report}
use Rattle.uug_line.specs.World.{report_of, run_of_ends, world}
use Rattle.uug_line.proofs.PastLemmas.{goes_on, next_event, when_fooled}
use Rattle.uug_line.proofs.ReportLemmas.{is_run_of, stands_again}
use Rattle.uug_line.proofs.RunLemmas.{ends_clean, happens_clean, happens_fooled}

types_more : (setup : SetupValue) (events : List Event) (event : Event) → AreOfTypes setup events → IsOfBytes event
    → AreOfTypes setup (events ++ event ∷ [])
types_more setup events event types is = record {
  sound = types.sound;
  of_bytes = types.of_bytes;
  events_of_bytes = All-append IsOfBytes events (event ∷ []) types.events_of_bytes (All-cons IsOfBytes event [] is (All-nil IsOfBytes));
}

-- a run that goes on from a clean report
pub record GoesOn (setup : SetupValue) (events : List Event) (new : RunValue) (verdict : LineVerdict) : Type 0 where
  pub is : IsRunOf setup events (whole_report new verdict)
  pub said : AllIsSaid new

module _ (setup : SetupValue) (events : List Event) (event : Event) where
  abbrev more : List Event
  more = events ++ event ∷ []

  all_sent_on : (old new : RunValue) → StandsAs setup (run_of_ends setup events) old → AreOfTypes setup more → Happens event true old new
      → GoesOn setup more new Clean
  all_sent_on old new stands types happens =
      let next : StandsAs setup (run_of_ends setup more) new =
      subst (λ (run : Run DialogueState). StandsAs setup run new) (sym (next_event by_themselves setup events event stands.clean))
      (happens_clean event (length events) setup (run_of_ends setup events) old new stands happens) in
      record {
        is = is_run_of setup more Clean new types (ends_clean (run_of_ends setup more) setup new next) (λ clean. next.steady);
        said = record { caller = next.steady.at_caller.ordered.cleared; called = next.steady.at_called.ordered.cleared };
      }

  unsent_on : (old new : RunValue) → StandsAs setup (run_of_ends setup events) old → AreOfTypes setup more → Happens event false old new
      → GoesOn setup more new (Fooled (length events) (hearing_side event))
  unsent_on old new stands types happens =
      let verdict : LineVerdict = Fooled (length events) (hearing_side event) in
      let ends : EndsAs setup (run_of_ends setup more) verdict new =
      subst (λ (run : Run DialogueState). EndsAs setup run verdict new) (sym (next_event by_themselves setup events event stands.clean))
      (happens_fooled event (length events) setup (run_of_ends setup events) old new stands happens) in
      record {
        is = is_run_of setup more verdict new types ends (λ clean. absurd (let e : Fooled (length events) (hearing_side event) ≡ Clean = clean in cc));
        said = record { caller = (ends.ends Caller).ordered.cleared; called = (ends.ends Called).ordered.cleared };
      }

  by_verdict : (all_sent : Bool) (number : ℕ) (old new : RunValue) → number ≡ length events → StandsAs setup (run_of_ends setup events) old
      → AreOfTypes setup more → Happens event all_sent old new → GoesOn setup more new (verdict_behind all_sent number event)
  by_verdict true number old new counted stands types happens = all_sent_on old new stands types happens
  by_verdict false number old new counted stands types happens =
      subst (λ (n : ℕ). GoesOn setup more new (Fooled n (hearing_side event))) (sym counted) (unsent_on old new stands types happens)

  pub one_more_event : (report : WholeReport) (number : ℕ) (all_sent : Bool) (old new : RunValue) → (behind : IsBehind setup events (simulator report number))
      → report.told.verdict ≡ Clean → old ≡ behind.is.left.parts → IsOfBytes event → Happens event all_sent old new
      → GoesOn setup more new (verdict_behind all_sent number event)
  one_more_event report number all_sent old new behind clean same is_byte happens =
      let is = behind.is in
      let stands : StandsAs setup (run_of_ends setup events) old =
      subst (λ (r : RunValue). StandsAs setup (run_of_ends setup events) r) (sym same)
      (stands_again setup events report.told.verdict is.left.parts clean is.left.ends (is.left.steady clean)) in
      by_verdict all_sent number old new behind.counted stands (types_more setup events event is.types is_byte) happens

  -- ---- a run that is fooled has stopped

  same_run : {C : Type 0} (k : RunKeeper C) (m : ℕ) (side : Side) → (goes_through k setup 0 events (first_run k setup)).verdict ≡ Fooled m side
      → goes_through k setup 0 more (first_run k setup) ≡ goes_through k setup 0 events (first_run k setup)
  same_run k m side fooled =
      goes_on k setup 0 events (event ∷ []) (first_run k setup)
      ∙ when_fooled k setup (0 + length events) m side (event ∷ []) (goes_through k setup 0 events (first_run k setup)) fooled

  pub has_stopped : (report : WholeReport) (m : ℕ) (side : Side) → IsRunOf setup events report → report.told.verdict ≡ Fooled m side → IsOfBytes event
      → IsRunOf setup more report
  has_stopped report m side is fooled is_byte =
      let by_ends : run_of_ends setup more ≡ run_of_ends setup events = same_run by_themselves m side (is.left.ends.verdict_is ∙ fooled) in
      let by_world : world setup more ≡ world setup events =
      same_run by_numbers m side (sym (ap (λ (told : SpelledReport). told.verdict) is.told) ∙ fooled) in
      record {
        types = types_more setup events event is.types is_byte;
        told = is.told ∙ ap (λ run. spelled (report_of by_numbers setup run)) (sym by_world);
        spools = is.spools;
        held = subst (λ run. HoldWhatIsLeft run report.held) (sym by_world) is.held;
        lines = λ side. is.lines side ∙ ap (λ run. line_from side run) (sym by_world);
        left = record {
          parts = is.left.parts;
          shown = is.left.shown;
          ends = subst (λ (run : Run DialogueState). EndsAs setup run report.told.verdict is.left.parts) (sym by_ends) is.left.ends;
          steady = is.left.steady;
        };
      }

pub counted_more : (events : List Event) (event : Event) (number more : ℕ) → number ≡ length events → more ≡ number + 1
    → more ≡ length (events ++ event ∷ [])
counted_more events event number more n m = omega (arith, n, m, length-append events (event ∷ []))

-- ---- as the program keeps it

pub kept_report : (report : Option WholeReport) (count : ℕ) → report_kept (simulator_kept report count) ≡ report
kept_report None count = refl
kept_report (Some report) count = refl

-- the report that is taken out is of some two ends and events
pub some_kept : (kept taken : Option WholeReport) (count : ℕ) (report : WholeReport) → taken ≡ kept → taken ≡ Some report
    → IfSome (simulator_kept kept count) IsBehindSome → IsBehindSome (simulator report count)
some_kept kept taken count report same is some =
    subst (λ (r : Option WholeReport). IfSome (simulator_kept r count) IsBehindSome) (sym same ∙ is) some

module _ (event : Event) (count more : ℕ) (before after : WholeReport) (m : more ≡ count + 1)
    (next : (setup : SetupValue) (events : List Event) → IsBehind setup events (simulator before count) → IsRunOf setup (events ++ event ∷ []) after) where
  one_more : (setup : SetupValue) (events : List Event) → IsBehind setup events (simulator before count)
      → IsBehind setup (events ++ event ∷ []) (simulator after more)
  one_more setup events behind = record { is = next setup events behind; counted = counted_more events event count more behind.counted m }

  pub one_more_kept : IsBehindSome (simulator before count) → IsBehindSome (simulator after more)
  one_more_kept some = record { setup = some.setup; events = some.events ++ event ∷ []; is = one_more some.setup some.events some.is }

  pub steps_kept : (value : Option SimulatorValue) (kept taken : Option WholeReport) → simulator_kept kept count ≡ value → taken ≡ kept
      → taken ≡ Some before → Steps event value (Some (simulator after more))
  steps_kept value kept taken view same is =
      subst (λ (v : Option SimulatorValue). Steps event v (Some (simulator after more)))
      (ap (λ (r : Option WholeReport). simulator_kept r count) (sym is ∙ same) ∙ view) one_more
