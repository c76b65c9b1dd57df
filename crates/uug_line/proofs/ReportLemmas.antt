-- What a report shows of the program's run, and the run that goes on from a report.
use Rattle.std.proofs.Common.{◌≡◌, ℕ, List, [], ◌∷◌, ◌++◌, All, length, length-append, map, take, drop, get_or, refl, ap, ap₂, sym, subst, ◌∙◌, arith}
use Rattle.std.proofs.lemmas.List.{map-append}
use Rattle.std.proofs.lemmas.List.Elements.{All-append, All-cons, All-nil}
use Rattle.std.proofs.Math.Seq.{drop-append_seam, take-append_seam}
use Rattle.uug_session.specs.Arriving.{Buffered}
use Rattle.uug_conversation.specs.Count.{Count}
use Rattle.uug_conversation.specs.MemoryHoldings.{held_by}
use Rattle.uug_conversation.specs.DialogueState.{DialogueState}
use Rattle.uug_line.specs.declared.event.Event.{Event}
use Rattle.uug_line.specs.declared.event.Event.TheVariants.{Pass, Timeout}
use Rattle.uug_line.specs.declared.report.LastEnd.{LastEnd}
use Rattle.uug_line.specs.declared.report.SessionReport.{SessionReport}
use Rattle.uug_conversation.specs.declared.side.Side.{Side}
use Rattle.uug_conversation.specs.declared.side.Side.TheVariants.{Caller, Called}
use Rattle.uug_line.specs.declared.verdict.LineVerdict.{LineVerdict}
use Rattle.uug_line.specs.declared.verdict.LineVerdict.TheVariants.{Clean}
use Rattle.uug_line.specs.Belongings.{SetupValue}
use Rattle.uug_line.specs.LineEndState.{LineEndState}
use Rattle.uug_line.specs.LineEndValue.{LineEndValue, told_of}
use Rattle.uug_line.specs.OfBytes.{AreOfTypes, IsOfBytes}
use Rattle.uug_line.specs.OfSomeRun.{IsRunOf}
use Rattle.uug_line.specs.Report.{end_now}
use Rattle.uug_line.specs.Run.{Run, end_at}
use Rattle.uug_line.specs.RunValue.{EndsAs, IsSteady, RunValue, StandsAs, held_parts}
use Rattle.uug_line.specs.Settle.{EndMaySettle, MaySettle, Round, events_of, late, line_from, passing}
use Rattle.uug_line.specs.Settled.{AreDone, CanSettle, EndCanSettle, SettlesInto}
use Rattle.uug_line.specs.Code.Settling.{IsFinished, MayFinish}
use Rattle.uug_line.specs.Shown.{end_shown, session_shown}
use Rattle.uug_conversation.specs.Sides.{AtBoth, at}
use Rattle.uug_line.specs.Spelled.{spelled}
use Rattle.uug_line.specs.StillHeld.{HoldWhatIsLeft}
use Rattle.uug_line.specs.Told.{EndNow, SpelledEnd, SpelledReport}
use Rattle.uug_line.specs.WholeReport.{WholeReport, left_of, part_from, report_shown, whole_report}
use Rattle.uug_line.specs.World.{counted, report_of_world, run_of_ends, world}
use Rattle.uug_line.proofs.RunLemmas.{ends_clean, give_as_set_up, held_at, held_counted, told_by_world}
use Rattle.uug_line.proofs.Standing.{report_is, run_goes}

-- ---- a report of the program's run

lines_are : (setup : SetupValue) (events : List Event) (verdict : LineVerdict) (r : RunValue) →
    EndsAs setup (run_of_ends setup events) verdict r → counted (run_of_ends setup events) ≡ world setup events →
    (side : Side) → (at side (whole_report r verdict).left).line ≡ line_from side (world setup events)
lines_are setup events verdict r ends is_world Caller =
    sym (ap (λ (e : LineEndState DialogueState). e.line) (ends.ends Caller).end_is) ∙ ap (λ (run : Run Count). line_from Caller run) is_world
lines_are setup events verdict r ends is_world Called =
    sym (ap (λ (e : LineEndState DialogueState). e.line) (ends.ends Called).end_is) ∙ ap (λ (run : Run Count). line_from Called run) is_world

pub is_run_of : (setup : SetupValue) (events : List Event) (verdict : LineVerdict) (r : RunValue) → AreOfTypes setup events →
    EndsAs setup (run_of_ends setup events) verdict r → (verdict ≡ Clean → IsSteady r) → IsRunOf setup events (whole_report r verdict)
is_run_of setup events verdict r types ends steady =
    let is_world = (run_goes setup types.sound events).counted_is in
    record {
      types = types;
      told = told_by_world setup events verdict r ends (report_is setup types.sound events);
      spools = give_as_set_up setup (run_of_ends setup events) verdict r ends;
      held = subst (λ (w : Run Count). HoldWhatIsLeft w (held_parts r)) is_world
          (held_counted (run_of_ends setup events) (held_parts r) ends.held);
      lines = lines_are setup events verdict r ends is_world;
      left = record { parts = r; shown = refl; ends = ends; steady = steady };
    }

-- ---- the run that goes on from it

-- what stands in front of the last, and the last
pub same_ends : {A : Type 0} (xs ys : List A) (x y : A) → xs ++ x ∷ [] ≡ ys ++ y ∷ [] → (xs ≡ ys) × (x ≡ y)
same_ends {A} xs ys x y same =
    let count : length xs ≡ length ys = omega (arith, length-append xs (x ∷ []), length-append ys (y ∷ []), ap length same) in
    let back : x ∷ [] ≡ y ∷ [] =
    sym (drop-append_seam xs (x ∷ [])) ∙ ap (drop (length xs)) same ∙ ap (λ (n : ℕ). drop n (ys ++ y ∷ [])) count
    ∙ drop-append_seam ys (y ∷ []) in (
      sym (take-append_seam xs (x ∷ [])) ∙ ap (take (length xs)) same ∙ ap (λ (n : ℕ). take n (ys ++ y ∷ [])) count
          ∙ take-append_seam ys (y ∷ []),
      ap (λ (l : List A). get_or l 0 x) back,
    )

-- the parts of a run are those of which the report is
pub same_parts : (r : RunValue) (report : WholeReport) (past : List (AtBoth SpelledEnd)) (caller called : SpelledEnd) →
    whole_report r report.told.verdict ≡ report →
    report.told.sessions ≡ past ++ record { at_caller = caller; at_called = called } ∷ [] →
    record {
      past = past;
      ends = record {
        at_caller = part_from caller report.left.at_caller report.spools.at_caller;
        at_called = part_from called report.left.at_called report.spools.at_called;
      };
    } ≡ r
same_parts r report past caller called shown sessions =
    let last : AtBoth SpelledEnd = record { at_caller = told_of r.ends.at_caller; at_called = told_of r.ends.at_called } in
    let ends = same_ends past r.past (record { at_caller = caller; at_called = called }) last
    (sym sessions ∙ sym (ap (λ (w : WholeReport). w.told.sessions) shown)) in
    let made : List (AtBoth SpelledEnd) → AtBoth SpelledEnd → WholeReport → RunValue = λ front back w. record {
      past = front;
      ends = record {
        at_caller = part_from back.at_caller w.left.at_caller w.spools.at_caller;
        at_called = part_from back.at_called w.left.at_called w.spools.at_called;
      };
    } in
    ap (λ (front : List (AtBoth SpelledEnd)). made front (record { at_caller = caller; at_called = called }) report) ends.0
    ∙ ap (λ (back : AtBoth SpelledEnd). made r.past back report) ends.1
    ∙ ap (λ (w : WholeReport). made r.past last w) (sym shown)

-- ---- it may settle where its world may

pub ends_told : (told : SpelledReport) (setup : SetupValue) (events : List Event) → told ≡ spelled (report_of_world setup events) →
    (side : Side) → at side told.ends ≡ end_now (end_at side (world setup events)).end
ends_told told setup events same Caller = ap (λ (t : SpelledReport). t.ends.at_caller) same
ends_told told setup events same Called = ap (λ (t : SpelledReport). t.ends.at_called) same

end_may : (run : Run Count) (side : Side) (now : EndNow) (held line : List ℕ) → now ≡ end_now (end_at side run).end →
    held ≡ (end_at side run).held → line ≡ line_from side run → EndCanSettle now held line → EndMaySettle run side
end_may run side now held line now_is held_is line_is can =
    let on = subst (λ (n : EndNow). EndCanSettle n held line) now_is can in
    record {
      on_link = on.on_link;
      is_up = on.is_up;
      plain = on.plain;
      timeouts = on.timeouts;
      holds_none = sym held_is ∙ on.holds_none;
      empty = sym line_is ∙ on.empty;
    }

end_can : (run : Run Count) (side : Side) (now : EndNow) (held line : List ℕ) → now ≡ end_now (end_at side run).end →
    held ≡ (end_at side run).held → line ≡ line_from side run → EndMaySettle run side → EndCanSettle now held line
end_can run side now held line now_is held_is line_is may =
    subst (λ (n : EndNow). EndCanSettle n held line) (sym now_is) (record {
      on_link = may.on_link;
      is_up = may.is_up;
      plain = may.plain;
      timeouts = may.timeouts;
      holds_none = held_is ∙ may.holds_none;
      empty = line_is ∙ may.empty;
    })

pub may_settle : (setup : SetupValue) (events : List Event) (report : WholeReport) → IsRunOf setup events report →
    CanSettle report → MaySettle (world setup events)
may_settle setup events report is can = record { clean = clean; ends = ends }
  where
    clean : (world setup events).verdict ≡ Clean
    clean = sym (ap (λ (told : SpelledReport). told.verdict) is.told) ∙ can.clean

    ends : (side : Side) → EndMaySettle (world setup events) side
    ends Caller = end_may (world setup events) Caller report.told.ends.at_caller report.held.at_caller report.left.at_caller.line
        (ends_told report.told setup events is.told Caller) (is.held.all clean Caller) (is.lines Caller) can.caller
    ends Called = end_may (world setup events) Called report.told.ends.at_called report.held.at_called report.left.at_called.line
        (ends_told report.told setup events is.told Called) (is.held.all clean Called) (is.lines Called) can.called

pub can_settle : (setup : SetupValue) (events : List Event) (report : WholeReport) → IsRunOf setup events report →
    MaySettle (world setup events) → CanSettle report
can_settle setup events report is may =
    let run = world setup events in
    record {
      clean = ap (λ (told : SpelledReport). told.verdict) is.told ∙ may.clean;
      caller = end_can run Caller report.told.ends.at_caller report.held.at_caller report.left.at_caller.line
          (ends_told report.told setup events is.told Caller) (is.held.all may.clean Caller) (is.lines Caller) (may.ends Caller);
      called = end_can run Called report.told.ends.at_called report.held.at_called report.left.at_called.line
          (ends_told report.told setup events is.told Called) (is.held.all may.clean Called) (is.lines Called) (may.ends Called);
    }

-- ---- a run that goes on to its end

-- the run of a report that is clean, as it stands
pub stands_again : (setup : SetupValue) (events : List Event) (verdict : LineVerdict) (r : RunValue) → verdict ≡ Clean →
    EndsAs setup (run_of_ends setup events) verdict r → IsSteady r → StandsAs setup (run_of_ends setup events) r
stands_again setup events verdict r is_clean ends steady =
    let clean : (run_of_ends setup events).verdict ≡ Clean = ends.verdict_is ∙ is_clean in
    let hearer : List ℕ → LineEndState DialogueState → Buffered (LineEndState DialogueState) = λ held end. record { held = held; end = end } in
    record {
      past = ends.past;
      ends = λ side. record {
        hearer = ap₂ hearer (sym (ends.held.all clean side) ∙ held_at r side) (ends.ends side).end_is;
        standing = (ends.ends side).standing;
      };
      steady = steady;
      clean = clean;
    }

-- the run with the parts of a report that may settle
pub may_finish : (setup : SetupValue) (events : List Event) (report : WholeReport) (r : RunValue) →
    (is : IsRunOf setup events report) → CanSettle report → r ≡ is.left.parts → MayFinish setup events r
may_finish setup events report r is can same = record {
  types = is.types;
  stands = subst (λ (parts : RunValue). StandsAs setup (run_of_ends setup events) parts) (sym same)
      (stands_again setup events report.told.verdict is.left.parts can.clean is.left.ends (is.left.steady can.clean));
  settles = may_settle setup events report is can;
}

-- the events of rounds are of bytes
rounds_of_bytes : (rounds : List Round) → All IsOfBytes (events_of rounds)
rounds_of_bytes [] = All-nil IsOfBytes
rounds_of_bytes (late ∷ rounds) =
    All-cons IsOfBytes (Timeout Caller) (Timeout Called ∷ events_of rounds) tt
    (All-cons IsOfBytes (Timeout Called) (events_of rounds) tt (rounds_of_bytes rounds))
rounds_of_bytes (passing n m ∷ rounds) =
    All-cons IsOfBytes (Pass Called n) (Pass Caller m ∷ events_of rounds) tt
    (All-cons IsOfBytes (Pass Caller m) (events_of rounds) tt (rounds_of_bytes rounds))

types_behind : (setup : SetupValue) (events : List Event) (rounds : List Round) → AreOfTypes setup events →
    AreOfTypes setup (events ++ events_of rounds)
types_behind setup events rounds types = record {
  sound = types.sound;
  of_bytes = types.of_bytes;
  events_of_bytes = All-append IsOfBytes events (events_of rounds) types.events_of_bytes (rounds_of_bytes rounds);
}

pub settles_into : (setup : SetupValue) (events : List Event) (r : RunValue) → AreOfTypes setup events →
    IsFinished setup events r → SettlesInto setup events (whole_report r Clean)
settles_into setup events r types finished =
    let rounds = finished.settles.rounds in
    let more = events ++ events_of rounds in
    record {
      settles = finished.settles;
      is = is_run_of setup more Clean r (types_behind setup events rounds types)
          (ends_clean (run_of_ends setup more) setup r finished.stands) (λ clean. finished.stands.steady);
    }

pub settled_are_done : (setup : SetupValue) (events : List Event) (report : WholeReport) → SettlesInto setup events report →
    AreDone report.told
settled_are_done setup events report into side =
    let more = events ++ events_of into.settles.rounds in
    ap (λ (now : EndNow). now.stage) (ends_told report.told setup more into.is.told side) ∙ (into.settles.settled.ends side).done

-- ---- the program's report

pub one_less : {A : Type 0} (sessions front : List (SessionReport A)) (last : SessionReport A) → sessions ≡ front ++ last ∷ [] →
    map session_shown sessions ≡ map session_shown front ++ session_shown last ∷ []
one_less {A} sessions front last is =
    let shown : SessionReport A → AtBoth SpelledEnd = λ s. session_shown s in
    ap (λ (xs : List (SessionReport A)). map shown xs) is ∙ map-append shown front (last ∷ [])

-- ---- the run that a report goes on as

pub goes_on_as : {A : Type 0} (sessions front : List (SessionReport A)) (last : SessionReport A) (kept_caller kept_called : LastEnd A)
    (verdict : LineVerdict) (report : WholeReport) (caller called : LineEndValue) →
    report_shown sessions kept_caller kept_called verdict ≡ report → sessions ≡ front ++ last ∷ [] →
    caller ≡ part_from (end_shown last.caller) (left_of kept_caller) (held_by kept_caller.node.value.spool) →
    called ≡ part_from (end_shown last.called) (left_of kept_called) (held_by kept_called.node.value.spool) →
    (parts : RunValue) → whole_report parts report.told.verdict ≡ report →
    record { past = map session_shown front; ends = record { at_caller = caller; at_called = called } } ≡ parts
goes_on_as {A} sessions front last kept_caller kept_called verdict report caller called view_is one_more caller_is called_is parts shown =
    let made : LineEndValue → LineEndValue → RunValue =
    λ a b. record { past = map session_shown front; ends = record { at_caller = a; at_called = b } } in
    let from_report : WholeReport → RunValue = λ w. record {
      past = map session_shown front;
      ends = record {
        at_caller = part_from (end_shown last.caller) w.left.at_caller w.spools.at_caller;
        at_called = part_from (end_shown last.called) w.left.at_called w.spools.at_called;
      };
    } in
    let told = sym (ap (λ (w : WholeReport). w.told.sessions) view_is) ∙ one_less sessions front last one_more in
    ap₂ made caller_is called_is ∙ ap from_report view_is
    ∙ same_parts parts report (map session_shown front) (end_shown last.caller) (end_shown last.called) shown told
