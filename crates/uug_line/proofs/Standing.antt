-- What a run of two ends has come to, after every event: its ends are joined, and the run by numbers is the same.
use Rattle.std.proofs.Common.{◌≡◌, inl, inr, ℕ, suc, List, [], ◌∷◌, ◌++◌, take, drop, All, ◌+◌, refl, sym, ap, ap₂, subst, ◌∙◌}
use Rattle.std.proofs.lemmas.List.Elements.{All-nil, All-push}
use Rattle.std.proofs.lemmas.Nat.{pow_pos}
use Rattle.uug_link.specs.Moves.{ReadsBoth}
use Rattle.uug_link.specs.State.{State, caller_state, called_state}
use Rattle.uug_link.specs.TwoLinks.{End, Ends}
use Rattle.uug_link.specs.WindowMachine.{Machine}
use Rattle.uug_session.specs.Arriving.{held_in, Buffered, Arrival, all_taken, stopped, takes_piece}
use Rattle.uug_conversation.specs.Count.{Count}
use Rattle.uug_session.specs.EndStep.{EndEvent, time_ran_out, line_lost}
use Rattle.uug_conversation.specs.Jobs.{at_start, pending}
use Rattle.uug_conversation.specs.Party.{HoldsFronts, IsSound, TakesSizes}
use Rattle.uug_conversation.specs.Left.{left_of}
use Rattle.uug_conversation.proofs.ResumingLemmas.{fronts_then, holds_no_fronts}
use Rattle.uug_line.proofs.SessionLemmas.{left_joined}
use Rattle.uug_conversation.specs.DialogueState.{DialogueState}
use Rattle.uug_line.specs.declared.event.Event.{Event}
use Rattle.uug_line.specs.declared.event.Event.TheVariants.{Pass, Drop, Flip, Insert, Timeout, HangUp, Call}
use Rattle.uug_conversation.specs.Turns.{other}
use Rattle.uug_conversation.specs.declared.side.Side.{Side}
use Rattle.uug_conversation.specs.declared.side.Side.TheVariants.{Caller, Called}
use Rattle.uug_line.specs.declared.verdict.LineVerdict.{LineVerdict}
use Rattle.uug_line.specs.declared.verdict.LineVerdict.TheVariants.{Clean, Fooled}
use Rattle.uug_line.specs.Belongings.{Belongings, SetupValue, party, renewed}
use Rattle.uug_line.specs.Headline.{TookFronts, KeptToWindows, StaysInFront}
use Rattle.uug_line.specs.LineEndState.{LineEndState, Participant, does, called_with, changed_line}
use Rattle.uug_line.specs.LinkRun.{LinksRan, after_all}
use Rattle.uug_line.specs.Report.{end_now, report_of_end}
use Rattle.uug_line.specs.Run.{Run, end_at, with_end_at, has_now, first_end, session_begins, flipped, with_line_to, after_hearing, calls, hears_next, hung_up, calls_again, participant, after_event, unless_fooled, goes_through, first_run}
use Rattle.uug_line.specs.RunKeeper.{by_themselves, by_numbers}
use Rattle.uug_conversation.specs.Sides.{AtBoth, at, at_each, with_at}
use Rattle.uug_line.specs.SoundSetup.{IsSoundSetup}
use Rattle.uug_line.specs.Speaking.{HaveSpoken}
use Rattle.uug_line.specs.Taking.{line_taker}
use Rattle.uug_line.specs.World.{report_of, counted_hearer, counted, run_of_ends, world, report_of_ends, report_of_world}
use Rattle.uug_line.proofs.World.Hearing.{counted_came, end_of, taken_piece}
use Rattle.uug_line.proofs.World.Joining.{EndsJoined, HasPassed, IsSoundSession, LinksOf, link_end, moment_of}
use Rattle.uug_line.proofs.MachineLemmas.{stands_behind, stands_first}
use Rattle.uug_line.specs.MachineRun.{PresentRanAsMachine, RanAsMachine, SomeLinksRan, first_links, first_machine, link_end as told_end, link_ends}
use Rattle.uug_line.specs.Told.{EndReportValue}
use Rattle.uug_line.proofs.SideLemmas.{at_each_is, counted_at, each, each_are, other_twice, with_both, with_here}
use Rattle.uug_line.proofs.World.Steps.{talk_player, count_player, IsNoPacket, Steps}
use Rattle.uug_line.proofs.StoredSince.{OwnSince, names_now, own_of_both, own_at_first, OwnPlaces, own_places, set_up}
use Rattle.uug_link.proofs.TwoLinksRuns.{first_reads}
use Rattle.uug_link.proofs.MovesRuns.{run_moves as links_move}
use Rattle.uug_line.proofs.LowerLemmas.{always_within}
use Rattle.uug_line.proofs.World.JoinedSteps.{steps as all_steps}

-- the session is as the headline says
pub record IsKept (setup : SetupValue) (session : AtBoth EndReportValue) : Type 0 where
  pub front : TookFronts session
  pub window : KeptToWindows setup session
  pub machine : SomeLinksRan setup session

pub record Stands (setup : SetupValue) (run : Run DialogueState) : Type 0 where
  pub sound : IsSoundSession setup run.brought
  pub joined : (side : Side) → EndsJoined setup run.brought side (end_at side run).end (end_at (other side) run).end
  pub past : All (IsKept setup) run.past
  pub own : (giver : Side) → OwnSince setup run.brought giver

-- it stands so, and is described by numbers
pub record Goes (setup : SetupValue) (run : Run DialogueState) (numbers : Run Count) : Type 0 where
  pub stands : Stands setup run
  pub counted_is : counted run ≡ numbers

-- ---- the bytes on a line join and part nothing

near_line : (setup : SetupValue) (brought : AtBoth Belongings) (side : Side) (change : List ℕ → List ℕ)
    (h : Buffered (LineEndState DialogueState)) (f : LineEndState DialogueState) → EndsJoined setup brought side h.end f →
    EndsJoined setup brought side (changed_line change h).end f
near_line setup brought side change h f j = record {
  joined = j.joined;
  near_hails = j.near_hails;
  far_hails = j.far_hails;
  near_most = j.near_most;
  far_most = j.far_most;
  near_passed = j.near_passed;
  far_passed = j.far_passed;
  near_spoken = j.near_spoken;
  far_spoken = j.far_spoken;
}

-- ---- a session's end by end

-- how the links of these ends stand
abbrev links_at : LineEndState DialogueState → LineEndState DialogueState → AtBoth State
links_at e f = record { at_caller = e.state.link; at_called = f.state.link }

-- an end's link with what is told of the end
as_told : (e : LineEndState DialogueState) → HasPassed e.log → link_end (moment_of e) ≡ told_end (report_of_end e) e.state.link
as_told e passed = ap (λ (n : ℕ). record {
  link = e.state.link;
  sent = e.log.sent;
  taken = e.log.taken;
  emitted = e.log.packets;
  passed = n;
}) passed

module _ (setup : SetupValue) where
  steps_of : (run : Run DialogueState) → Stands setup run → Steps setup run.brought
  steps_of run s = all_steps setup run.brought s.sound

  -- two ends of the run, the one of which is at the side
  abbrev AreJoined : Run DialogueState → Side → (x y : Buffered (LineEndState DialogueState)) → Type 0
  AreJoined run side x y = EndsJoined setup run.brought side x.end y.end

  turned_back : (run : Run DialogueState) → Stands setup run → (side : Side) (x y : Buffered (LineEndState DialogueState)) → AreJoined run (other side) x y →
      AreJoined run side y x
  turned_back run s side x y joined =
      subst (λ (z : Side). AreJoined run z y x) (sym (other_twice side)) ((steps_of run s).turned (other side) x.end y.end joined)

  -- one end becomes another
  one_becomes : (side : Side) (run : Run DialogueState) (x : Buffered (LineEndState DialogueState)) → Stands setup run →
      AreJoined run side x (end_at (other side) run) → Stands setup (with_end_at side x run)
  one_becomes side run x s joined = record {
    sound = s.sound;
    joined = with_here (AreJoined run) side x run.ends joined ((steps_of run s).turned side x.end (end_at (other side) run).end joined);
    past = s.past;
    own = s.own;
  }

  counted_with : (side : Side) (x : Buffered (LineEndState DialogueState)) (run : Run DialogueState) →
      counted (with_end_at side x run) ≡ with_end_at side (counted_hearer x) (counted run)
  counted_with Caller x run = refl
  counted_with Called x run = refl

  player_is : (run : Run DialogueState) (side : Side) → talk_player setup run.brought side ≡ participant by_themselves setup run side
  player_is run Caller = refl
  player_is run Called = refl

  -- ---- bytes on the line

  line_changes : (side : Side) (change : List ℕ → List ℕ) (run : Run DialogueState) → Stands setup run →
      Goes setup (with_end_at side (changed_line change (end_at side run)) run)
      (with_end_at side (changed_line change (end_at side (counted run))) (counted run))
  line_changes side change run s =
      let h = end_at side run in
      record {
        stands = one_becomes side run (changed_line change h) s
            (near_line setup run.brought side change h (end_at (other side) run).end (s.joined side));
        counted_is = counted_with side (changed_line change h) run
            ∙ ap (λ (z : Buffered (LineEndState Count)). with_end_at side (changed_line change z) (counted run)) (sym (counted_at run side));
      }

  -- ---- an end's call

  calls_keep : (side : Side) (event : EndEvent) (run : Run DialogueState) → IsNoPacket event → Stands setup run →
      Goes setup (calls by_themselves setup side event run) (calls by_numbers setup side event (counted run))
  calls_keep side event run no_packet s =
      let here = end_at side run in
      let there = (end_at (other side) run).end in
      let steps = steps_of run s in
      subst (λ (p : Participant DialogueState). Goes setup (with_end_at side (called_with p event here) run) (calls by_numbers setup side event (counted run)))
      (player_is run side) (record {
        stands = one_becomes side run (called_with (talk_player setup run.brought side) event here) s
            (steps.does_joined side event here.end there no_packet (s.joined side));
        counted_is = counted_with side (called_with (talk_player setup run.brought side) event here) run
            ∙ ap (λ (z : LineEndState Count). with_end_at side (record { held = held_in z.state.stage here.held; end = z }) (counted run))
            (steps.does_counted side event here.end there no_packet (s.joined side))
            ∙ ap (λ (z : Buffered (LineEndState Count)). with_end_at side (called_with (count_player setup run.brought side) event z) (counted run))
            (sym (counted_at run side));
      })

  -- ---- bytes that come

  -- the other end's line was changed so
  heard_joined : (side : Side) (change : List ℕ → List ℕ) (run : Run DialogueState) (h : Buffered (LineEndState DialogueState)) → Stands setup run →
      AreJoined run side h (end_at (other side) run) →
      (let now = with_at side h (with_at (other side) (changed_line change (end_at (other side) run)) run.ends) in
      (z : Side) → AreJoined run z (at z now) (at (other z) now))
  heard_joined side change run h s joined =
      let there = end_at (other side) run in
      let far = near_line setup run.brought (other side) change there h.end ((steps_of run s).turned side h.end there.end joined) in
      with_both (AreJoined run) side h (changed_line change there) run.ends (turned_back run s side (changed_line change there) h far) far

  heard_stands : (number : ℕ) (side : Side) (change : List ℕ → List ℕ) (run : Run DialogueState) → Stands setup run → (came : Arrival (LineEndState DialogueState)) →
      EndsJoined setup run.brought side (end_of came) (end_at (other side) run).end →
      Stands setup (after_hearing number side came (with_line_to side change run))
  heard_stands number side change run s (all_taken h) joined =
      record { sound = s.sound; joined = heard_joined side change run h s joined; past = s.past; own = s.own }
  heard_stands number side change run s (stopped h) joined =
      record { sound = s.sound; joined = heard_joined side change run h s joined; past = s.past; own = s.own }

  heard_counted : (number : ℕ) (side : Side) (change : List ℕ → List ℕ) (run : Run DialogueState) (came : Arrival (LineEndState DialogueState)) →
      counted (after_hearing number side came (with_line_to side change run))
      ≡ after_hearing number side (counted_came came) (with_line_to side change (counted run))
  heard_counted number Caller change run (all_taken h) = refl
  heard_counted number Caller change run (stopped h) = refl
  heard_counted number Called change run (all_taken h) = refl
  heard_counted number Called change run (stopped h) = refl

  next_counted : (side : Side) (n : ℕ) (run : Run DialogueState) →
      (let there = (end_at (other side) run).end in
      takes_piece (line_taker (count_player setup run.brought side) there.log.packets) (take n there.line) (counted_hearer (end_at side run))
      ≡ hears_next by_numbers setup side n (counted run))
  next_counted Caller n run = refl
  next_counted Called n run = refl

  goes_to : (run : Run DialogueState) (x y : Run Count) → Goes setup run x → x ≡ y → Goes setup run y
  goes_to run x y g e = record { stands = g.stands; counted_is = g.counted_is ∙ e }

  passes : (number : ℕ) (side : Side) (n : ℕ) (run : Run DialogueState) → Stands setup run →
      Goes setup (after_event by_themselves setup number (Pass side n) run) (after_event by_numbers setup number (Pass side n) (counted run))
  passes number side n run s =
      let here = end_at side run in
      let there = (end_at (other side) run).end in
      let piece = take n there.line in
      let taken = taken_piece setup run.brought s.sound side there piece here (s.joined side) in
      let came = takes_piece (line_taker (talk_player setup run.brought side) there.log.packets) piece here in
      subst (λ (p : Participant DialogueState). Goes setup
      (after_hearing number side (takes_piece (line_taker p there.log.packets) piece here) (with_line_to side (drop n) run))
      (after_event by_numbers setup number (Pass side n) (counted run))) (player_is run side) (record {
        stands = heard_stands number side (drop n) run s came taken.joined;
        counted_is = heard_counted number side (drop n) run came
            ∙ ap (λ z. after_hearing number side z (with_line_to side (drop n) (counted run))) (taken.counted ∙ next_counted side n run);
      })

  -- ---- a session begins

  begun_counted : (brought : AtBoth Belongings) → Steps setup brought → (side : Side) →
      counted_hearer (first_end by_themselves setup brought side) ≡ first_end by_numbers setup brought side
  begun_counted brought steps side =
      ap (λ (z : LineEndState Count). record { held = held_in z.state.stage []; end = z }) (steps.first_counted side)

  begins_so : (past : List (AtBoth EndReportValue)) (brought : AtBoth Belongings) → IsSoundSession setup brought →
      All (IsKept setup) past → ((giver : Side) → OwnSince setup brought giver) →
      Goes setup (session_begins by_themselves setup past brought) (session_begins by_numbers setup past brought)
  begins_so past brought sound kept own =
      let steps = all_steps setup brought sound in
      let run = session_begins by_themselves setup past brought in
      record {
        stands = record {
          sound = sound;
          joined = each (λ side. EndsJoined setup brought side (end_at side run).end (end_at (other side) run).end) steps.first_joined
              (steps.turned Caller (end_at Caller run).end (end_at Called run).end steps.first_joined);
          past = kept;
          own = own;
        };
        counted_is = ap₂ (λ x y. record { past = past; brought = brought; ends = record { at_caller = x; at_called = y }; verdict = Clean })
            (begun_counted brought steps Caller) (begun_counted brought steps Called);
      }

  -- ---- a call

  -- the run of the two links, as it is told
  links_told : (e f : LineEndState DialogueState) → HasPassed e.log → HasPassed f.log → LinksOf setup Caller (moment_of e) (moment_of f) →
      LinksRan (first_links setup)
      (link_ends (record { at_caller = report_of_end e; at_called = report_of_end f }) (links_at e f)) e.log.arrivals f.log.arrivals
  links_told e f near far ran =
      subst (λ (a : End). LinksRan (first_links setup)
      (record { near = a; far = told_end (report_of_end f) f.state.link }) e.log.arrivals f.log.arrivals) (as_told e near)
      (subst (λ (b : End). LinksRan (first_links setup)
      (record { near = link_end (moment_of e); far = b }) e.log.arrivals f.log.arrivals) (as_told f far) ran)

  ran_as_machine : (brought : AtBoth Belongings) → IsSoundSession setup brought → (e f : LineEndState DialogueState) →
      EndsJoined setup brought Caller e f →
      RanAsMachine setup (record { at_caller = report_of_end e; at_called = report_of_end f }) (links_at e f)
  ran_as_machine brought sound e f joined =
      let ends = link_ends (record { at_caller = report_of_end e; at_called = report_of_end f }) (links_at e f) in
      let run = links_told e f joined.near_passed joined.far_passed joined.joined.links in
      let window : ℕ = setup.at_called.own.window in
      let other : ℕ = setup.at_caller.own.window in
      let near : State = caller_state setup.at_caller.own in
      let far : State = called_state setup.at_called.own in
      let moved = links_move setup.at_caller.own setup.at_called.own near far run.occurrences (sound.window Caller)
      (sound.window Called) (inl refl) (inr refl) run.allowed in
      let behind = stands_behind window other (first_links setup) run.occurrences (first_machine setup) moved.0
      (stands_first window other (first_links setup)
      (first_reads setup.at_caller.own setup.at_called.own near far (inl refl) (inr refl))) moved.1 in
      let machine : Machine = after_all (first_machine setup) moved.0 in
      let bounds = always_within window other machine (sound.window Called) (sound.window Caller) behind.reached in
      record {
        run = run;
        moves = moved.0;
        moved = moved.1;
        machine = machine;
        behind = refl;
        reads = subst (λ (p : Ends). ReadsBoth p machine) run.leads behind.reads;
        out_bounds = bounds.0;
        back_bounds = bounds.1;
      }

  -- a session whose ends are joined is as the headline says
  session_kept : (brought : AtBoth Belongings) → IsSoundSession setup brought → (e f : LineEndState DialogueState) →
      EndsJoined setup brought Caller e f →
      IsKept setup (record { at_caller = report_of_end e; at_called = report_of_end f })
  session_kept brought sound e f joined =
      record { front = front; window = window; machine = (links_at e f, ran_as_machine brought sound e f joined) }
    where
      steps : Steps setup brought
      steps = all_steps setup brought sound

      front : TookFronts (record { at_caller = report_of_end e; at_called = report_of_end f })
      front Caller = steps.front Caller e f joined
      front Called = steps.front Called f e (steps.turned Caller e f joined)

      window : KeptToWindows setup (record { at_caller = report_of_end e; at_called = report_of_end f })
      window Caller = joined.near_most
      window Called = joined.far_most

  -- both ends have hung up
  hung_up_joined : (run : Run DialogueState) → Stands setup run →
      EndsJoined setup run.brought Caller (does (talk_player setup run.brought Caller) line_lost run.ends.at_caller.end)
      (does (talk_player setup run.brought Called) line_lost run.ends.at_called.end)
  hung_up_joined run s =
      let steps = steps_of run s in
      let e = run.ends.at_caller.end in
      let f = run.ends.at_called.end in
      let e' = does (talk_player setup run.brought Caller) line_lost e in
      let first = steps.does_joined Caller line_lost e f tt (s.joined Caller) in
      steps.turned Called (does (talk_player setup run.brought Called) line_lost f) e'
      (steps.does_joined Called line_lost f e' tt (steps.turned Caller e' f first))

  abbrev brings : Run DialogueState → AtBoth Belongings
  brings run = at_each (λ side. renewed (has_now by_themselves setup run side))

  brings_sound : (run : Run DialogueState) → Stands setup run → IsSoundSession setup (brings run)
  brings_sound run s = record {
    window = s.sound.window;
    party = party_sound;
    renewed = renewed_so;
    fronts = record {
      of_caller = fronts_of_caller;
      of_called = fronts_of_called;
      sizes_of_caller = sizes_of_caller;
      sizes_of_called = sizes_of_called;
    };
  }
    where
      fronts_of_caller : HoldsFronts (party setup (brings run) Caller).holdings (party setup (brings run) Called).holdings
      fronts_of_caller = fronts_then (party setup run.brought Caller) (party setup run.brought Called).holdings
          (left_of (party setup run.brought Called).holdings run.ends.at_called.end.state.keeper.machine) s.sound.fronts.of_caller
          (left_joined setup run.brought s.sound Called run.ends.at_called.end run.ends.at_caller.end (s.joined Called))

      fronts_of_called : HoldsFronts (party setup (brings run) Called).holdings (party setup (brings run) Caller).holdings
      fronts_of_called = fronts_then (party setup run.brought Called) (party setup run.brought Caller).holdings
          (left_of (party setup run.brought Caller).holdings run.ends.at_caller.end.state.keeper.machine) s.sound.fronts.of_called
          (left_joined setup run.brought s.sound Caller run.ends.at_caller.end run.ends.at_called.end (s.joined Caller))

      sizes_of_caller : TakesSizes (party setup (brings run) Caller).holdings (party setup (brings run) Called).holdings
      sizes_of_caller = s.sound.fronts.sizes_of_caller

      sizes_of_called : TakesSizes (party setup (brings run) Called).holdings (party setup (brings run) Caller).holdings
      sizes_of_called = s.sound.fronts.sizes_of_called

      party_sound : (side : Side) → IsSound (party setup (brings run) side)
      party_sound Caller = record {
        names = names_now setup run.brought s.sound Caller run.ends.at_caller.end run.ends.at_called.end (s.joined Caller) refl
            (s.sound.party Caller).names;
        modes = (s.sound.party Caller).modes;
        limit = (s.sound.party Caller).limit;
        size = (s.sound.party Caller).size;
      }
      party_sound Called = record {
        names = names_now setup run.brought s.sound Called run.ends.at_called.end run.ends.at_caller.end
            (s.joined Called) refl (s.sound.party Called).names;
        modes = (s.sound.party Called).modes;
        limit = (s.sound.party Called).limit;
        size = (s.sound.party Called).size;
      }

      renewed_so : (side : Side) → (at side (brings run)).lists
          ≡ at_start (pending (at side (brings run)).lists) (at side (brings run)).lists.struck (at side (brings run)).lists.failed
      renewed_so Caller = refl
      renewed_so Called = refl

  own_of_now : (run : Run DialogueState) → Stands setup run → (giver : Side) → OwnSince setup (at_each (has_now by_themselves setup run)) giver
  own_of_now run s giver =
      own_of_both setup run.brought s.sound giver (at_each (has_now by_themselves setup run))
      run.ends.at_caller.end run.ends.at_called.end (s.joined Caller) refl refl (s.own giver)

  renewed_own : (now : AtBoth Belongings) (giver : Side) → OwnSince setup now giver → OwnSince setup (at_each (λ side. renewed (at side now))) giver
  renewed_own now giver own =
      let renews : (side : Side) → at side (at_each (λ s. renewed (at s now))) ≡ renewed (at side now) = at_each_is (λ s. renewed (at s now)) in
      record {
        jobs = own.jobs;
        givers = own.givers;
        receivers = own.receivers;
        entries = own.entries;
        givers_are = ap (λ (b : Belongings). b.lists.struck) (renews giver) ∙ own.givers_are;
        receivers_are = ap (λ (b : Belongings). b.lists.struck) (renews (other giver)) ∙ own.receivers_are;
        entries_are = ap (λ (b : Belongings). b.kept) (renews (other giver)) ∙ own.entries_are;
        own = own.own;
      }

  has_counted : (run : Run DialogueState) → Stands setup run → at_each (has_now by_themselves setup run) ≡ at_each (has_now by_numbers setup (counted run))
  has_counted run s =
      let steps = steps_of run s in
      each_are (has_now by_themselves setup run) (has_now by_numbers setup (counted run))
      (each (λ side. has_now by_themselves setup run side ≡ has_now by_numbers setup (counted run) side)
      (sym (steps.has_counted Caller run.ends.at_caller.end run.ends.at_called.end (s.joined Caller)))
      (sym (steps.has_counted Called run.ends.at_called.end run.ends.at_caller.end (s.joined Called))))

  -- what is told of the session that is over
  abbrev told_by_numbers : Run DialogueState → AtBoth EndReportValue
  told_by_numbers run = at_each (λ side. report_of_end (hung_up by_numbers setup (counted run) side).end)

  abbrev told : Run DialogueState → AtBoth EndReportValue
  told run = at_each (λ side. report_of_end (hung_up by_themselves setup run side).end)

  told_counted : (run : Run DialogueState) → Stands setup run → told run ≡ told_by_numbers run
  told_counted run s =
      let steps = steps_of run s in
      let e = run.ends.at_caller.end in
      let f = run.ends.at_called.end in
      let lost : (side : Side) → LineEndState Count = λ side. (hung_up by_numbers setup (counted run) side).end in
      each_are (λ side. report_of_end (hung_up by_themselves setup run side).end) (λ side. report_of_end (lost side))
      (each (λ side. report_of_end (hung_up by_themselves setup run side).end ≡ report_of_end (lost side))
      (ap (λ (z : LineEndState Count). report_of_end z) (steps.does_counted Caller line_lost e f tt (s.joined Caller)))
      (ap (λ (z : LineEndState Count). report_of_end z) (steps.does_counted Called line_lost f e tt (s.joined Called))))

  again : (run : Run DialogueState) → Stands setup run →
      Goes setup (calls_again by_themselves setup run) (calls_again by_numbers setup (counted run))
  again run s =
      let past = run.past ++ told run ∷ [] in
      let kept = session_kept run.brought s.sound (does (talk_player setup run.brought Caller) line_lost run.ends.at_caller.end)
      (does (talk_player setup run.brought Called) line_lost run.ends.at_called.end) (hung_up_joined run s) in
      goes_to (calls_again by_themselves setup run) (session_begins by_numbers setup past (brings run))
      (calls_again by_numbers setup (counted run))
      (begins_so past (brings run) (brings_sound run s) (All-push (IsKept setup) run.past (told run) s.past kept)
      (λ giver. renewed_own (at_each (has_now by_themselves setup run)) giver (own_of_now run s giver)))
      (ap₂ (session_begins by_numbers setup) (ap (λ z. run.past ++ z ∷ []) (told_counted run s))
      (ap (λ (z : AtBoth Belongings). at_each (λ side. renewed (at side z))) (has_counted run s)))

  -- ---- the events

  keeps : (number : ℕ) (event : Event) (run : Run DialogueState) → Stands setup run →
      Goes setup (after_event by_themselves setup number event run) (after_event by_numbers setup number event (counted run))
  keeps number (Pass side n) run s = passes number side n run s
  keeps number (Drop side n) run s = line_changes (other side) (drop n) run s
  keeps number (Flip side mask) run s = line_changes (other side) (flipped mask) run s
  keeps number (Insert side byte) run s = line_changes (other side) (λ line. byte ∷ line) run s
  keeps number (Timeout side) run s = calls_keep side time_ran_out run tt s
  keeps number (HangUp side) run s = calls_keep side line_lost run tt s
  keeps number Call run s = again run s

  goes_unless : (verdict : LineVerdict) (more : Run DialogueState → Run DialogueState) (numbers : Run Count → Run Count) (run : Run DialogueState) →
      Stands setup run → Goes setup (more run) (numbers (counted run)) →
      Goes setup (unless_fooled verdict more run) (unless_fooled verdict numbers (counted run))
  goes_unless Clean more numbers run s g = g
  goes_unless (Fooled number side) more numbers run s g = record { stands = s; counted_is = refl }

  goes_on : (number : ℕ) (events : List Event) (run : Run DialogueState) → Stands setup run →
      Goes setup (goes_through by_themselves setup number events run) (goes_through by_numbers setup number events (counted run))
  goes_on number [] run s = record { stands = s; counted_is = refl }
  goes_on number (event ∷ events) run s =
      let next = keeps number event run s in
      let then = goes_on (suc number) events (after_event by_themselves setup number event run) next.stands in
      goes_unless run.verdict (λ before. goes_through by_themselves setup (suc number) events (after_event by_themselves setup number event before))
      (λ before. goes_through by_numbers setup (suc number) events (after_event by_numbers setup number event before)) run s
      (goes_to (goes_through by_themselves setup (suc number) events (after_event by_themselves setup number event run))
      (goes_through by_numbers setup (suc number) events (counted (after_event by_themselves setup number event run)))
      (goes_through by_numbers setup (suc number) events (after_event by_numbers setup number event (counted run)))
      then (ap (goes_through by_numbers setup (suc number) events) next.counted_is))

  -- ---- the run

  first_sound : IsSoundSetup setup → IsSoundSession setup (set_up setup)
  first_sound sound = record {
    window = λ side. (sound.each side).window;
    party = party_sound;
    renewed = renewed_so;
    fronts = record {
      of_caller = holds_no_fronts (party setup (set_up setup) Caller).holdings (party setup (set_up setup) Called).holdings (sound.each Called).holds_none;
      of_called = holds_no_fronts (party setup (set_up setup) Called).holdings (party setup (set_up setup) Caller).holdings (sound.each Caller).holds_none;
      sizes_of_caller = sound.sizes Caller;
      sizes_of_called = sound.sizes Called;
    };
  }
    where
      party_sound : (side : Side) → IsSound (party setup (set_up setup) side)
      party_sound Caller = record {
        names = (sound.each Caller).names;
        modes = (sound.each Caller).modes;
        limit = (sound.each Caller).limit;
        size = pow_pos (setup.at_called.own.size_code + 1 + 4);
      }
      party_sound Called = record {
        names = (sound.each Called).names;
        modes = (sound.each Called).modes;
        limit = (sound.each Called).limit;
        size = pow_pos (setup.at_caller.own.size_code + 1 + 4);
      }

      renewed_so : (side : Side) → (at side (set_up setup)).lists
          ≡ at_start (pending (at side (set_up setup)).lists) (at side (set_up setup)).lists.struck (at side (set_up setup)).lists.failed
      renewed_so Caller = refl
      renewed_so Called = refl

  first_goes : IsSoundSetup setup → Goes setup (first_run by_themselves setup) (first_run by_numbers setup)
  first_goes sound = begins_so [] (set_up setup) (first_sound sound) (All-nil (IsKept setup)) (own_at_first setup)

  pub run_goes : IsSoundSetup setup → (events : List Event) → Goes setup (run_of_ends setup events) (world setup events)
  run_goes sound events =
      let first = first_goes sound in
      goes_to (run_of_ends setup events) (goes_through by_numbers setup 0 events (counted (first_run by_themselves setup))) (world setup events)
      (goes_on 0 events (first_run by_themselves setup) first.stands)
      (ap (goes_through by_numbers setup 0 events) first.counted_is)

  reported : (run : Run DialogueState) → Stands setup run → report_of by_themselves setup run ≡ report_of by_numbers setup (counted run)
  reported run s = ap (λ z. record {
    sessions = run.past ++ at_each (λ side. report_of_end (end_at side run).end) ∷ [];
    ends = at_each (λ side. end_now (end_at side run).end);
    belongings = z;
    verdict = run.verdict;
  }) (has_counted run s)

  pub report_is : IsSoundSetup setup → (events : List Event) → report_of_ends setup events ≡ report_of_world setup events
  report_is sound events =
      let g = run_goes sound events in
      reported (run_of_ends setup events) g.stands ∙ ap (report_of by_numbers setup) g.counted_is

  pub all_kept : IsSoundSetup setup → (events : List Event) → All (IsKept setup) (report_of_ends setup events).sessions
  all_kept sound events =
      let s = (run_goes sound events).stands in
      let run = run_of_ends setup events in
      All-push (IsKept setup) run.past (at_each (λ side. report_of_end (end_at side run).end)) s.past
      (session_kept run.brought s.sound run.ends.at_caller.end run.ends.at_called.end (s.joined Caller))

  pub present_ran : IsSoundSetup setup → (events : List Event) → PresentRanAsMachine setup (run_of_ends setup events)
  present_ran sound events = record {
    ran = ran_as_machine run.brought s.sound run.ends.at_caller.end run.ends.at_called.end (s.joined Caller);
    passed = passed;
  }
    where
      run : Run DialogueState
      run = run_of_ends setup events

      s : Stands setup run
      s = (run_goes sound events).stands

      passed : (side : Side) → HasPassed (end_at side run).end.log
      passed side = (s.joined side).near_passed

  pub all_spoken : IsSoundSetup setup → (events : List Event) → HaveSpoken by_themselves setup (run_of_ends setup events)
  all_spoken sound events Caller = ((run_goes sound events).stands.joined Caller).near_spoken
  all_spoken sound events Called = ((run_goes sound events).stands.joined Called).near_spoken

  pub all_own : IsSoundSetup setup → (events : List Event) (giver : Side) →
      OwnPlaces setup (report_of_ends setup events).belongings giver
  all_own sound events giver =
      own_places setup (report_of_ends setup events).belongings giver
      (own_of_now (run_of_ends setup events) (run_goes sound events).stands giver)

  pub stays_in_front : IsSoundSetup setup → (events : List Event) (side : Side) → StaysInFront setup (report_of_ends setup events) side
  stays_in_front sound events Caller =
      record { struck = (all_own sound events Caller).struck; stored = (all_own sound events Called).stored }
  stays_in_front sound events Called =
      record { struck = (all_own sound events Called).struck; stored = (all_own sound events Caller).stored }
