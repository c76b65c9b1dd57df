-- The sessions of a run that are over stay as they are, and each was the present one before.
use Rattle.std.proofs.Common.{◌≡◌, ℕ, suc, ◌+◌, ◌<◌, inl, inr, ◌⊎◌, zero, List, [], ◌∷◌, ◌++◌, length, take, drop, slice_get, Some, refl, sym, ap, subst, ◌∙◌, append_assoc, arith}
use Rattle.std.proofs.lemmas.List.{append-nil, take-append-le}
use Rattle.std.proofs.Math.Seq.{take-append_seam}
use Rattle.std.proofs.lemmas.Option.{slice_get_within}
use Rattle.uug_link.proofs.OnTheLineLemmas.{slice_get-append, slice_get-last}
use Rattle.uug_session.specs.Arriving.{Arrival, all_taken, stopped}
use Rattle.uug_session.specs.EndStep.{EndState, Emitted, Identity, Stage, hailing, linked, ended, line_lost, stage_step}
use Rattle.uug_conversation.specs.Keeper.{Keeper}
use Rattle.uug_conversation.specs.DialogueState.{DialogueState}
use Rattle.uug_line.specs.declared.event.Event.{Event}
use Rattle.uug_line.specs.declared.event.Event.TheVariants.{Pass, Drop, Flip, Insert, Timeout, HangUp, Call}
use Rattle.uug_conversation.specs.declared.side.Side.{Side}
use Rattle.uug_conversation.specs.declared.side.Side.TheVariants.{Caller, Called}
use Rattle.uug_line.specs.declared.verdict.LineVerdict.{LineVerdict}
use Rattle.uug_line.specs.declared.verdict.LineVerdict.TheVariants.{Clean, Fooled}
use Rattle.uug_line.specs.Belongings.{SetupValue}
use Rattle.uug_line.specs.Fooled.{present}
use Rattle.uug_line.specs.LineEndState.{LineEndState, Participant, does, messages_sent, packets_in}
use Rattle.uug_line.specs.PastSessions.{DidTheSame, WasPresent}
use Rattle.uug_line.specs.Report.{report_of_end}
use Rattle.uug_line.specs.Run.{Run, end_at, participant, first_run, flipped, with_line_to, hears_next, after_hearing, hung_up, after_event, unless_fooled, goes_through, run_of}
use Rattle.uug_line.specs.RunKeeper.{RunKeeper, by_themselves}
use Rattle.uug_conversation.specs.Sides.{AtBoth, at, at_each}
use Rattle.uug_line.specs.Told.{EndReportValue}
use Rattle.uug_line.specs.World.{run_of_ends}

module _ {C : Type 0} (k : RunKeeper C) (setup : SetupValue) where
  -- ---- events behind others

  when_clean : (number : ℕ) (event : Event) (events : List Event) (run : Run C) → run.verdict ≡ Clean →
      goes_through k setup number (event ∷ events) run
      ≡ goes_through k setup (suc number) events (after_event k setup number event run)
  when_clean number event events run clean =
      ap (λ (v : LineVerdict). unless_fooled v (λ before. goes_through k setup (suc number) events (after_event k setup number event before)) run) clean

  pub when_fooled : (number at_number : ℕ) (side : Side) (events : List Event) (run : Run C) → run.verdict ≡ Fooled at_number side →
      goes_through k setup number events run ≡ run
  when_fooled number at_number side [] run fooled = refl
  when_fooled number at_number side (event ∷ events) run fooled =
      ap (λ (v : LineVerdict). unless_fooled v (λ before. goes_through k setup (suc number) events (after_event k setup number event before)) run) fooled

  goes_on_by : (verdict : LineVerdict) (number : ℕ) (event : Event) (events more : List Event) (run : Run C) → run.verdict ≡ verdict →
      (goes_through k setup (suc number) (events ++ more) (after_event k setup number event run)
      ≡ goes_through k setup (suc number + length events) more
      (goes_through k setup (suc number) events (after_event k setup number event run))) →
      goes_through k setup number (event ∷ (events ++ more)) run
      ≡ goes_through k setup (number + length (event ∷ events)) more (goes_through k setup number (event ∷ events) run)
  goes_on_by Clean number event events more run is later =
      let count : suc number + length events ≡ number + length (event ∷ events) = omega arith in
      when_clean number event (events ++ more) run is ∙ later
      ∙ ap (λ (n : ℕ). goes_through k setup n more (goes_through k setup (suc number) events (after_event k setup number event run))) count
      ∙ ap (goes_through k setup (number + length (event ∷ events)) more) (sym (when_clean number event events run is))
  goes_on_by (Fooled m side) number event events more run is later =
      when_fooled number m side (event ∷ (events ++ more)) run is
      ∙ sym (when_fooled (number + length (event ∷ events)) m side more run is)
      ∙ ap (goes_through k setup (number + length (event ∷ events)) more) (sym (when_fooled number m side (event ∷ events) run is))

  pub goes_on : (number : ℕ) (events more : List Event) (run : Run C) →
      goes_through k setup number (events ++ more) run
      ≡ goes_through k setup (number + length events) more (goes_through k setup number events run)
  goes_on number [] more run =
      let count : number ≡ number + 0 = omega arith in ap (λ (n : ℕ). goes_through k setup n more run) count
  goes_on number (event ∷ events) more run =
      goes_on_by run.verdict number event events more run refl (goes_on (suc number) events more (after_event k setup number event run))

  -- ---- what is over stays

  past_heard : (number : ℕ) (side : Side) (came : Arrival (LineEndState C)) (run : Run C) → (after_hearing number side came run).past ≡ run.past
  past_heard number side (all_taken h) run = refl
  past_heard number side (stopped h) run = refl

  same_past : (before now : Run C) → now.past ≡ before.past → (later : List (AtBoth EndReportValue)) × (now.past ≡ before.past ++ later)
  same_past before now is = ([], is ∙ sym (append-nil before.past))

  event_stays : (number : ℕ) (event : Event) (run : Run C) →
      (later : List (AtBoth EndReportValue)) × ((after_event k setup number event run).past ≡ run.past ++ later)
  event_stays number (Pass side n) run =
      same_past run (after_event k setup number (Pass side n) run)
      (past_heard number side (hears_next k setup side n run) (with_line_to side (drop n) run))
  event_stays number (Drop side n) run = same_past run (with_line_to side (drop n) run) refl
  event_stays number (Flip side mask) run = same_past run (with_line_to side (flipped mask) run) refl
  event_stays number (Insert side byte) run = same_past run (with_line_to side (λ line. byte ∷ line) run) refl
  event_stays number (Timeout side) run = same_past run (after_event k setup number (Timeout side) run) refl
  event_stays number (HangUp side) run = same_past run (after_event k setup number (HangUp side) run) refl
  event_stays number Call run = (at_each (λ side. report_of_end (hung_up k setup run side).end) ∷ [], refl)

  stays_by : (verdict : LineVerdict) (number : ℕ) (event : Event) (events : List Event) (run : Run C) → run.verdict ≡ verdict →
      ((later : List (AtBoth EndReportValue)) × ((goes_through k setup (suc number) events (after_event k setup number event run)).past
      ≡ (after_event k setup number event run).past ++ later)) →
      (later : List (AtBoth EndReportValue)) × ((goes_through k setup number (event ∷ events) run).past ≡ run.past ++ later)
  stays_by Clean number event events run is more =
      let first = event_stays number event run in (
        first.0 ++ more.0,
        ap (λ (r : Run C). r.past) (when_clean number event events run is) ∙ more.1
            ∙ ap (λ (past : List (AtBoth EndReportValue)). past ++ more.0) first.1 ∙ append_assoc run.past first.0 more.0,
      )
  stays_by (Fooled m side) number event events run is more =
      same_past run (goes_through k setup number (event ∷ events) run)
      (ap (λ (r : Run C). r.past) (when_fooled number m side (event ∷ events) run is))

  stays : (number : ℕ) (events : List Event) (run : Run C) →
      (later : List (AtBoth EndReportValue)) × ((goes_through k setup number events run).past ≡ run.past ++ later)
  stays number [] run = same_past run run refl
  stays number (event ∷ events) run =
      stays_by run.verdict number event events run refl (stays (suc number) events (after_event k setup number event run))

  pub past_stays : (events more : List Event) →
      (later : List (AtBoth EndReportValue)) × ((run_of k setup (events ++ more)).past ≡ (run_of k setup events).past ++ later)
  past_stays events more =
      let rest = stays (0 + length events) more (run_of k setup events) in
      (rest.0, ap (λ (r : Run C). r.past) (goes_on 0 events more (first_run k setup)) ∙ rest.1)

  -- the event behind some others
  pub next_event : (events : List Event) (event : Event) → (run_of k setup events).verdict ≡ Clean →
      run_of k setup (events ++ event ∷ []) ≡ after_event k setup (length events) event (run_of k setup events)
  next_event events event clean =
      goes_on 0 events (event ∷ []) (first_run k setup)
      ∙ when_clean (0 + length events) event [] (run_of k setup events) clean
      ∙ (let count : 0 + length events ≡ length events = omega arith in
      ap (λ (n : ℕ). after_event k setup n event (run_of k setup events)) count)

-- ---- hanging up does nothing more

lost_emits : {C : Type 0} (k : Keeper C) (id : Identity) (stage : Stage) (e : EndState C) → (stage_step k id stage line_lost e).emitted ≡ []
lost_emits k id (hailing g) e = refl
lost_emits k id linked e = refl
lost_emits k id (ended how) e = refl

lost_did : {C : Type 0} (p : Participant C) (e : LineEndState C) → DidTheSame (report_of_end (does p line_lost e)) (report_of_end e)
lost_did p e =
    let none = lost_emits p.keeper p.identity e.state.stage e.state in
    record {
      sent = ap (λ (es : List Emitted). e.log.sent ++ messages_sent es) none ∙ append-nil e.log.sent;
      taken = refl;
      packets = ap (λ (es : List Emitted). e.log.packets ++ packets_in es) none ∙ append-nil e.log.packets;
      arrivals = refl;
    }

-- ---- each was the present one

abbrev IsIn : {A : Type 0} → (xs : List A) → (x y : A) → (i : ℕ) → Type 0
IsIn xs x y i = (slice_get xs i ≡ Some y) ⊎ ((length xs ≡ i) × (y ≡ x))

last_behind : {A : Type 0} (z : A) (zs : List A) (x y : A) (i : ℕ) → IsIn zs x y i → IsIn (z ∷ zs) x y (suc i)
last_behind z zs x y i (inl within) = inl within
last_behind z zs x y i (inr last) = let count : length (z ∷ zs) ≡ suc i = omega (arith, last.0) in inr (count, last.1)

-- the last one, or one of those before it
last_or : {A : Type 0} (xs : List A) (x y : A) (i : ℕ) → slice_get (xs ++ x ∷ []) i ≡ Some y → IsIn xs x y i
last_or [] x y zero is = inr (refl, cc)
last_or [] x y (suc i) is = absurd cc
last_or (z ∷ zs) x y zero is = inl is
last_or (z ∷ zs) x y (suc i) is = last_behind z zs x y i (last_or zs x y i is)

module _ (setup : SetupValue) where
  abbrev AllWere : List Event → List (AtBoth EndReportValue) → Type 0
  AllWere events past = (i : ℕ) (session : AtBoth EndReportValue) → slice_get past i ≡ Some session → WasPresent setup events i session

  more_were : (events more : List Event) (i : ℕ) (session : AtBoth EndReportValue) → WasPresent setup events i session →
      WasPresent setup (events ++ more) i session
  more_were events more i session was =
      let within : was.before < length events = slice_get_within events was.before Call was.event in
      let same : take was.before (events ++ more) ≡ take was.before events =
      take-append-le was.before events more (omega (arith, within)) in
      record {
        before = was.before;
        event = slice_get-append events more was.before Call was.event;
        earlier = ap (λ (es : List Event). length (run_of_ends setup es).past) same ∙ was.earlier;
        told = was.told
            ∙ ap (λ (es : List Event). at_each (λ side. report_of_end (hung_up by_themselves setup (run_of_ends setup es) side).end)) (sym same);
        same = λ side. subst (λ (es : List Event). DidTheSame (at side session) (at side (present (run_of_ends setup es)))) (sym same)
            (was.same side);
      }

  none_more : (events : List Event) (event : Event) (past : List (AtBoth EndReportValue)) → past ≡ (run_of_ends setup events).past →
      AllWere events (run_of_ends setup events).past → AllWere (events ++ event ∷ []) past
  none_more events event past is were i session at_i =
      more_were events (event ∷ []) i session
      (were i session (ap (λ (xs : List (AtBoth EndReportValue)). slice_get xs i) (sym is) ∙ at_i))

  this_was : (events : List Event) → WasPresent setup (events ++ Call ∷ []) (length (run_of_ends setup events).past)
      (at_each (λ side. report_of_end (hung_up by_themselves setup (run_of_ends setup events) side).end))
  this_was events = record {
    before = length events;
    event = slice_get-last events Call;
    earlier = ap (λ (es : List Event). length (run_of_ends setup es).past) front;
    told = ap (λ (es : List Event). at_each (λ side. report_of_end (hung_up by_themselves setup (run_of_ends setup es) side).end)) (sym front);
    same = same;
  }
    where
      front : take (length events) (events ++ Call ∷ []) ≡ events
      front = take-append_seam events (Call ∷ [])

      same : (side : Side) → DidTheSame
          (at side (at_each (λ s. report_of_end (hung_up by_themselves setup (run_of_ends setup events) s).end)))
          (at side (present (run_of_ends setup (take (length events) (events ++ Call ∷ [])))))
      same Caller = subst (λ (es : List Event). DidTheSame
          (report_of_end (hung_up by_themselves setup (run_of_ends setup events) Caller).end)
          (report_of_end (end_at Caller (run_of_ends setup es)).end)) (sym front)
          (lost_did (participant by_themselves setup (run_of_ends setup events) Caller) (end_at Caller (run_of_ends setup events)).end)
      same Called = subst (λ (es : List Event). DidTheSame
          (report_of_end (hung_up by_themselves setup (run_of_ends setup events) Called).end)
          (report_of_end (end_at Called (run_of_ends setup es)).end)) (sym front)
          (lost_did (participant by_themselves setup (run_of_ends setup events) Called) (end_at Called (run_of_ends setup events)).end)

  one_by : (events : List Event) (i : ℕ) (session : AtBoth EndReportValue) → AllWere events (run_of_ends setup events).past →
      IsIn (run_of_ends setup events).past
      (at_each (λ side. report_of_end (hung_up by_themselves setup (run_of_ends setup events) side).end)) session i →
      WasPresent setup (events ++ Call ∷ []) i session
  one_by events i session were (inl within) = more_were events (Call ∷ []) i session (were i session within)
  one_by events i session were (inr here) =
      subst (λ (n : ℕ). WasPresent setup (events ++ Call ∷ []) n session) here.0
      (subst (λ (s : AtBoth EndReportValue). WasPresent setup (events ++ Call ∷ []) (length (run_of_ends setup events).past) s)
      (sym here.1) (this_was events))

  one_more : (events : List Event) → AllWere events (run_of_ends setup events).past →
      AllWere (events ++ Call ∷ []) ((run_of_ends setup events).past
      ++ at_each (λ side. report_of_end (hung_up by_themselves setup (run_of_ends setup events) side).end) ∷ [])
  one_more events were i session at_i =
      one_by events i session were (last_or (run_of_ends setup events).past
      (at_each (λ side. report_of_end (hung_up by_themselves setup (run_of_ends setup events) side).end)) session i at_i)

  event_were : (events : List Event) (event : Event) → AllWere events (run_of_ends setup events).past →
      AllWere (events ++ event ∷ []) (after_event by_themselves setup (length events) event (run_of_ends setup events)).past
  event_were events (Pass side n) were =
      let run = run_of_ends setup events in
      none_more events (Pass side n) (after_event by_themselves setup (length events) (Pass side n) run).past
      (past_heard by_themselves setup (length events) side (hears_next by_themselves setup side n run) (with_line_to side (drop n) run)) were
  event_were events (Drop side n) were = none_more events (Drop side n) (run_of_ends setup events).past refl were
  event_were events (Flip side mask) were = none_more events (Flip side mask) (run_of_ends setup events).past refl were
  event_were events (Insert side byte) were = none_more events (Insert side byte) (run_of_ends setup events).past refl were
  event_were events (Timeout side) were = none_more events (Timeout side) (run_of_ends setup events).past refl were
  event_were events (HangUp side) were = none_more events (HangUp side) (run_of_ends setup events).past refl were
  event_were events Call were = one_more events were

  next_were : (verdict : LineVerdict) (events : List Event) (event : Event) → (run_of_ends setup events).verdict ≡ verdict →
      AllWere events (run_of_ends setup events).past →
      AllWere (events ++ event ∷ []) (run_of_ends setup (events ++ event ∷ [])).past
  next_were Clean events event is were =
      subst (λ (r : Run DialogueState). AllWere (events ++ event ∷ []) r.past) (sym (next_event by_themselves setup events event is))
      (event_were events event were)
  next_were (Fooled m side) events event is were =
      none_more events event (run_of_ends setup (events ++ event ∷ [])).past
      (ap (λ (r : Run DialogueState). r.past) (goes_on by_themselves setup 0 events (event ∷ []) (first_run by_themselves setup)
      ∙ when_fooled by_themselves setup (0 + length events) m side (event ∷ []) (run_of_ends setup events) is)) were

  rest_were : (events rest : List Event) → AllWere events (run_of_ends setup events).past →
      AllWere (events ++ rest) (run_of_ends setup (events ++ rest)).past
  rest_were events [] were = subst (λ (es : List Event). AllWere es (run_of_ends setup es).past) (sym (append-nil events)) were
  rest_were events (event ∷ rest) were =
      subst (λ (es : List Event). AllWere es (run_of_ends setup es).past) (append_assoc events (event ∷ []) rest)
      (rest_were (events ++ event ∷ []) rest (next_were (run_of_ends setup events).verdict events event refl were))

  none_were : AllWere [] []
  none_were i session is = absurd cc

  pub were_present : (events : List Event) (i : ℕ) (session : AtBoth EndReportValue) →
      slice_get (run_of_ends setup events).past i ≡ Some session → WasPresent setup events i session
  were_present events = rest_were [] events none_were
