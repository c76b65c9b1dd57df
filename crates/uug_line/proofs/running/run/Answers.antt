use Rattle.std.proofs.Common.{◌∙◌, ap, subst, sym, take}
use Rattle.std.proofs.lemmas.List.Elements.{All-take}
use Rattle.uug_conversation.specs.declared.side.Side.{Side}
use Rattle.uug_conversation.specs.declared.side.Side.TheVariants.{Caller, Called}
use Rattle.uug_line.specs.declared.verdict.LineVerdict.{LineVerdict}
use Rattle.uug_line.specs.Fooled.{NamesUnsent}
use Rattle.uug_line.specs.Headline.{AllKeptToWindows, AllTookFronts, StaysInFront, StruckWereStored}
use Rattle.uug_line.specs.OfBytes.{IsOfBytes}
use Rattle.uug_line.specs.Run.{first_run}
use Rattle.uug_line.specs.RunKeeper.{by_themselves}
use Rattle.uug_line.specs.RunValue.{run_value}
use Rattle.uug_line.specs.Setup.{setup_of}
use Rattle.uug_line.specs.Spelled.{GiveAsSetUp}
use Rattle.uug_line.specs.World.{report_of_ends, run_of_ends}
use Rattle.uug_line.specs.StillHeld.{HoldWhatIsLeft}
use Rattle.uug_line.specs.Told.{SpelledReport}
use Rattle.uug_line.specs.OfSomeRun.{IsRunOf}
use Rattle.uug_line.specs.WholeReport.{WholeReport}
use Rattle.uug_line.proofs.HeardLemmas.{heard_at, scanned_at}
use Rattle.uug_line.proofs.PastLemmas.{were_present}
use Rattle.uug_line.proofs.ReportLemmas.{is_run_of}
use Rattle.uug_line.proofs.World.RightPacketLemmas.{ends_bytes}
use Rattle.uug_line.proofs.RunLemmas.{give_as_set_up, told_by_ends, told_by_world}
use Rattle.uug_line.proofs.Standing.{all_kept, all_own, present_ran, report_is, stays_in_front}
use Rattle.uug_line.proofs.ToldLemmas.{earlier_spelled, fronts_spelled, windows_spelled}
use Rattle.uug_line.proofs.VerdictLemmas.{arrivals_are_places, fooled_by_unsent, nothing_left, stopped_at, unsent_when_fooled}
use Rattle.uug_line.proofs.running.run.Goals as goal

pub into_report-requires : goal.into_report-requires
into_report-requires g c =
    let setup = setup_of c.args.setup in
    let events = c.args.events.now in
    let types = c.look_at_setup.ensures c.if-not-look_at_setup.false in
    let verdict = c.in-Ok.verdict in
    let parts = run_value c.go_through.new.self in
    let ended = c.in-Ok.ensures.ends setup (first_run by_themselves setup) c.in_ok-run.ensures in
    record {
      some_run = record {
        setup = setup;
        events = events;
        is = is_run_of setup events verdict parts types ended c.in-Ok.ensures.steady;
      };
      said = record { caller = (ended.ends Caller).ordered.cleared; called = (ended.ends Called).ordered.cleared };
    }

pub returns : goal.returns
returns g c =
    let setup = setup_of c.args.setup in
    let events = c.args.events.now in
    let types = c.look_at_setup.ensures c.if-not-look_at_setup.false in
    let sound = types.sound in
    let verdict = c.in-Ok.verdict in
    let parts = run_value c.go_through.new.self in
    let ended = c.in-Ok.ensures.ends setup (first_run by_themselves setup) c.in_ok-run.ensures in
    let told = ap (λ (report : WholeReport). report.told) c.in_ok-report.ensures in
    let ends = told ∙ told_by_ends setup events verdict parts ended in
    let report = report_of_ends setup events in
    let same_verdict = ap (λ (report : SpelledReport). report.verdict) ends in
    record {
      front = subst (λ (told : SpelledReport). AllTookFronts told) (sym ends)
          (fronts_spelled report (λ k d within. (all_kept setup sound events k d within).front));
      stored = subst (λ (told : SpelledReport). (giver : Side) → StruckWereStored setup told giver) (sym ends)
          (λ giver. (all_own setup sound events giver).places);
      earlier = subst (λ (told : SpelledReport). (side : Side) → StaysInFront setup told side) (sym ends)
          (λ side. earlier_spelled setup report side (stays_in_front setup sound events side));
      window = subst (λ (told : SpelledReport). AllKeptToWindows setup told) (sym ends)
          (windows_spelled setup report (λ k d within. (all_kept setup sound events k d within).window));
      ends = ends;
      world = told
          ∙ told_by_world setup events verdict parts ended (report_is setup sound events);
      of = subst (λ (report : WholeReport). IsRunOf setup events report) (sym c.in_ok-report.ensures)
          (is_run_of setup events verdict parts types ended c.in-Ok.ensures.steady);
      spools = subst (λ (report : WholeReport). GiveAsSetUp setup report.spools) (sym c.in_ok-report.ensures)
          (give_as_set_up setup (run_of_ends setup events) verdict parts ended);
      fooled = subst (λ (verdict : LineVerdict). NamesUnsent setup events verdict)
          (sym same_verdict)
          (record {
            exactly = λ side. (
              λ fooled. unsent_when_fooled by_themselves setup events fooled.0 side fooled.1,
              fooled_by_unsent by_themselves setup events side,
            );
            stopped = stopped_at by_themselves setup events;
          });
      types = types;
      heard = λ n side. heard_at by_themselves setup (take n events) side
          (ends_bytes setup types.of_bytes sound (take n events) (All-take IsOfBytes n events types.events_of_bytes) side);
      past = were_present setup events;
      places = arrivals_are_places by_themselves setup events;
      clean = λ clean side. nothing_left by_themselves setup events (sym same_verdict ∙ clean) side;
      scanned = λ clean side. scanned_at by_themselves setup events side
          (ends_bytes setup types.of_bytes sound events types.events_of_bytes side)
          (nothing_left by_themselves setup events (sym same_verdict ∙ clean) side);
      holds = subst (λ (report : WholeReport). HoldWhatIsLeft (run_of_ends setup events) report.held) (sym c.in_ok-report.ensures) ended.held;
      machine = λ k d within. (all_kept setup sound events k d within).machine;
      present = present_ran setup sound events;
    }
