-- What happens to the program's run is what happens in the definitions' one.
use Rattle.std.proofs.Common.{◌≡◌, ℕ, suc, ◌+◌, ◌<◌, ◌≤◌, Bool, true, false, List, [], ◌∷◌, ◌++◌, length, get_or, map, take, drop, ap, sym, subst, ◌∙◌, refl, arith, Option, None, ap₂}
use Rattle.std.proofs.lemmas.List.{drop_all, drop_more, map-append, take_all}
use Rattle.uug_reader.specs.declared.reader.TheConstants.{READER_SIZE}
use Rattle.uug_link.specs.Announced.{Announced}
use Rattle.uug_conversation.specs.Turns.{other}
use Rattle.uug_packet.specs.Spelling.{canonical}
use Rattle.uug_session.specs.Arriving.{Arrival, Buffered, all_taken, stopped, takes_piece}
use Rattle.uug_session.specs.EndStep.{EndEvent, EndState, Identity, Stage, hailing, linked, ended, begins_session, line_lost, stage_step, time_ran_out}
use Rattle.uug_conversation.specs.Count.{Count}
use Rattle.uug_conversation.specs.Holdings.{Holdings, Kept}
use Rattle.uug_conversation.specs.Jobs.{Lists}
use Rattle.uug_conversation.specs.Left.{left_of}
use Rattle.uug_conversation.specs.Machine.{State}
use Rattle.uug_conversation.specs.MemoryHoldings.{MemoryHoldings, holdings_of}
use Rattle.uug_conversation.specs.Partial.{Partial}
use Rattle.uug_conversation.specs.Partials.{holding, partials_then}
use Rattle.uug_conversation.specs.Party.{Party}
use Rattle.uug_session.specs.Node.{held_bytes}
use Rattle.uug_conversation.specs.Keeper.{Keeper}
use Rattle.uug_conversation.specs.DialogueState.{DialogueState, end_keeper, unopened}
use Rattle.uug_line.specs.declared.event.Event.{Event}
use Rattle.uug_line.specs.declared.event.Event.TheVariants.{Pass, Drop, Flip, Insert, Timeout, HangUp, Call}
use Rattle.uug_line.specs.declared.report.EndReport.{EndReport}
use Rattle.uug_line.specs.declared.report.SessionReport.{SessionReport}
use Rattle.uug_conversation.specs.declared.side.Side.{Side}
use Rattle.uug_conversation.specs.declared.side.Side.TheVariants.{Caller, Called}
use Rattle.uug_line.specs.declared.verdict.LineVerdict.{LineVerdict}
use Rattle.uug_line.specs.declared.verdict.LineVerdict.TheVariants.{Clean, Fooled}
use Rattle.uug_line.specs.Belongings.{Belongings, SetupValue, identity, party, renewed}
use Rattle.uug_line.specs.JournalValue.{packet_in}
use Rattle.uug_line.specs.LineEndState.{LineEndState, Participant, begins, called_with, changed_line}
use Rattle.uug_line.specs.LineEndValue.{AreWritten, BeginsAgain, HasBegun, IsCalled, IsOrdered, LineEndValue, Standing, hearer_of, line_end_of, player_of, standing_of, taker_of, told_of}
use Rattle.uug_line.specs.Report.{end_now, report_of_end}
use Rattle.uug_line.specs.Run.{Run, parties, flipped, after_event, after_hearing, calls, end_at, first_run, goes_through, hears_next, hung_up, participant, unless_fooled, with_end_at, with_line_to}
use Rattle.uug_line.specs.RunKeeper.{by_themselves}
use Rattle.uug_line.specs.RunValue.{CallsAgain, ChangesLine, EndsAs, Happens, HappensAt, IsEnd, IsLastEnd, IsSteadyEnd, IsSteady, Passes, RunValue, StandsAs, hearing_side, held_parts, owned_parts, parts_now, standing_at, told_in_all, with_line}
use Rattle.uug_line.specs.Shown.{end_shown, session_shown}
use Rattle.uug_conversation.specs.Sides.{AtBoth, at, at_each}
use Rattle.uug_line.specs.Spelled.{GiveAsSetUp, spelled, spelled_end, spelled_session}
use Rattle.uug_line.specs.StillHeld.{HoldWhatIsLeft}
use Rattle.uug_line.specs.Taking.{line_taker}
use Rattle.uug_line.specs.WholeReport.{whole_report}
use Rattle.uug_line.specs.World.{counted, report_of, report_of_ends, report_of_world, run_of_ends}
use Rattle.uug_line.specs.Told.{EndNow, EndReportValue, SpelledEnd, SpelledReport}
use Rattle.uug_line.proofs.SideLemmas.{at_each_is, counted_at, each, each_are, with_both, with_here}

-- ---- who an end is

player_by : Standing → Participant DialogueState
player_by s = record { identity = s.identity; keeper = end_keeper s.identity.side s.holdings }

who_is : (setup : SetupValue) (run : Run DialogueState) (side : Side) (e : LineEndValue) → standing_of e ≡ standing_at setup run.brought side
    → player_of e ≡ participant by_themselves setup run side
unfolding player_by
who_is setup run Caller e standing = ap player_by standing
who_is setup run Called e standing = ap player_by standing

-- ---- between two events

ready_at : (r : RunValue) → IsSteady r → (side : Side) → IsSteadyEnd (at side r.ends)
ready_at r steady = each (λ side. IsSteadyEnd (at side r.ends)) steady.at_caller steady.at_called

both_ready : (side : Side) (r : RunValue) → IsSteadyEnd (at side r.ends) → IsSteadyEnd (at (other side) r.ends) → IsSteady r
both_ready Caller r here there = record { at_caller = here; at_called = there }
both_ready Called r here there = record { at_caller = there; at_called = here }

line_ready : (change : List ℕ → List ℕ) (old new : LineEndValue) → new ≡ with_line change old → IsSteadyEnd old → IsSteadyEnd new
line_ready change old new is ready =
    let ordered = ready.ordered in
    subst IsSteadyEnd (sym is) (record {
      ordered = record {
        cleared = ordered.cleared;
        in_range = ordered.in_range;
        own = ordered.own;
        written = ordered.written;
        most = ordered.most;
      };
      room = ready.room;
    })

one_ready : (side : Side) (old new : RunValue) → IsSteady old → IsSteadyEnd (at side new.ends) → at (other side) new.ends ≡ at (other side) old.ends
    → IsSteady new
one_ready side old new steady ready same = both_ready side new ready (subst IsSteadyEnd (sym same) (ready_at old steady (other side)))

steady_changed : (change : List ℕ → List ℕ) (side : Side) (old new : RunValue) → IsSteady old → HappensAt side (ChangesLine change) old new
    → IsSteady new
steady_changed change side old new steady happens =
    one_ready side old new steady (line_ready change (at side old.ends) (at side new.ends) happens.0 (ready_at old steady side)) happens.1

steady_called : (event : EndEvent) (side : Side) (old new : RunValue) → IsSteady old → HappensAt side (IsCalled event) old new → IsSteady new
steady_called event side old new steady happens =
    one_ready side old new steady (record { ordered = happens.0.ordered; room = happens.0.room }) happens.1

pub happens_steady : (event : Event) (old new : RunValue) → IsSteady old → Happens event true old new → IsSteady new
happens_steady (Pass side n) old new steady happens =
    both_ready side new (record { ordered = happens.0.ordered; room = happens.0.room })
    (line_ready (drop n) (at (other side) old.ends) (at (other side) new.ends) happens.1 (ready_at old steady (other side)))
happens_steady (Drop side n) old new steady happens = steady_changed (drop n) (other side) old new steady happens.1
happens_steady (Flip side mask) old new steady happens = steady_changed (flipped mask) (other side) old new steady happens.1
happens_steady (Insert side byte) old new steady happens = steady_changed (λ line. byte ∷ line) (other side) old new steady happens.1
happens_steady (Timeout side) old new steady happens = steady_called time_ran_out side old new steady happens.1
happens_steady (HangUp side) old new steady happens = steady_called line_lost side old new steady happens.1
happens_steady Call old new steady happens =
    let ready : (side : Side) → IsSteadyEnd (at side new.ends) =
    λ side. record { ordered = (happens.1.begins side).ordered; room = (happens.1.begins side).room } in
    both_ready Caller new (ready Caller) (ready Called)

-- ---- one end becomes another

changes_end : (side : Side) (setup : SetupValue) (run : Run DialogueState) (old new : RunValue) (here : Buffered (LineEndState DialogueState))
    → StandsAs setup run old → IsSteady new → IsEnd setup run.brought side here (at side new.ends)
    → (at (other side) new.ends ≡ at (other side) old.ends) × (new.past ≡ old.past) → StandsAs setup (with_end_at side here run) new
changes_end side setup run old new here stands steady is same = record {
  past = stands.past ∙ sym same.1;
  ends = with_here (λ (s : Side) (h far : Buffered (LineEndState DialogueState)). IsEnd setup run.brought s h (at s new.ends)) side here run.ends is
      (subst (λ (e : LineEndValue). IsEnd setup run.brought (other side) (end_at (other side) run) e) (sym same.0) (stands.ends (other side)));
  steady = steady;
  clean = stands.clean;
}

-- by a call
end_called : (event : EndEvent) (side : Side) (setup : SetupValue) (run : Run DialogueState) (old new : LineEndValue)
    → IsEnd setup run.brought side (end_at side run) old → IsCalled event old new
    → IsEnd setup run.brought side (called_with (participant by_themselves setup run side) event (end_at side run)) new
end_called event side setup run old new was is = record {
  hearer = ap (λ (p : Participant DialogueState). called_with p event (end_at side run)) (sym (who_is setup run side old was.standing))
      ∙ ap (called_with (player_of old) event) was.hearer ∙ sym is.hearer;
  standing = is.standing ∙ was.standing;
}

at_called : (event : EndEvent) (side : Side) (setup : SetupValue) (run : Run DialogueState) (old new : RunValue) → StandsAs setup run old
    → IsSteady new → HappensAt side (IsCalled event) old new → StandsAs setup (calls by_themselves setup side event run) new
at_called event side setup run old new stands steady happens =
    changes_end side setup run old new (called_with (participant by_themselves setup run side) event (end_at side run)) stands steady
    (end_called event side setup run (at side old.ends) (at side new.ends) (stands.ends side) happens.0) (happens.1, happens.2)

-- by what becomes of the bytes on the line
end_changed : (change : List ℕ → List ℕ) (side : Side) (setup : SetupValue) (brought : AtBoth Belongings) (h : Buffered (LineEndState DialogueState)) (old new : LineEndValue)
    → IsEnd setup brought side h old → new ≡ with_line change old → IsEnd setup brought side (changed_line change h) new
end_changed change side setup brought h old new was is = record {
  hearer = ap (changed_line change) was.hearer ∙ ap hearer_of (sym is);
  standing = ap standing_of is ∙ was.standing;
}

line_changed : (change : List ℕ → List ℕ) (side : Side) (setup : SetupValue) (run : Run DialogueState) (old new : RunValue) → StandsAs setup run old
    → IsSteady new → HappensAt side (ChangesLine change) old new → StandsAs setup (with_end_at side (changed_line change (end_at side run)) run) new
line_changed change side setup run old new stands steady happens =
    changes_end side setup run old new (changed_line change (end_at side run)) stands steady
    (end_changed change side setup run.brought (end_at side run) (at side old.ends) (at side new.ends) (stands.ends side) happens.0) (happens.1, happens.2)

-- ---- a piece comes

-- what comes to an end is what comes to the end of the definitions' run
came_to : (side : Side) (n : ℕ) (setup : SetupValue) (run : Run DialogueState) (old : RunValue) (came : Arrival (LineEndState DialogueState)) → StandsAs setup run old
    → takes_piece (taker_of (at (other side) old.ends).journal.packets (at side old.ends)) (take n (at (other side) old.ends).line) (hearer_of (at side old.ends)) ≡ came
    → hears_next by_themselves setup side n run ≡ came
came_to side n setup run old came stands is =
    let p = participant by_themselves setup run side in
    let here = at side old.ends in
    let there = at (other side) old.ends in
    ap (λ (h : Buffered (LineEndState DialogueState)). takes_piece (line_taker p h.end.log.packets) (take n h.end.line) (end_at side run)) (stands.ends (other side)).hearer
    ∙ ap (takes_piece (line_taker p (line_end_of there).log.packets) (take n there.line)) (stands.ends side).hearer
    ∙ ap (λ (x : Participant DialogueState). takes_piece (line_taker x (line_end_of there).log.packets) (take n there.line) (hearer_of here))
    (sym (who_is setup run side here (stands.ends side).standing))
    ∙ is

passed_on : (side : Side) (n number : ℕ) (setup : SetupValue) (run : Run DialogueState) (old new : RunValue) → StandsAs setup run old → IsSteady new
    → Passes side n true old new → StandsAs setup (after_event by_themselves setup number (Pass side n) run) new
passed_on side n number setup run old new stands steady passes =
    let is = passes.0 in
    let heard = hearer_of (at side new.ends) in
    let there = end_at (other side) run in
    let after : StandsAs setup (after_hearing number side (all_taken heard) (with_line_to side (drop n) run)) new = record {
      past = stands.past ∙ sym passes.2;
      ends = with_both (λ (s : Side) (h far : Buffered (LineEndState DialogueState)). IsEnd setup run.brought s h (at s new.ends)) side heard (changed_line (drop n) there) run.ends
          (record { hearer = refl; standing = is.standing ∙ (stands.ends side).standing })
          (end_changed (drop n) (other side) setup run.brought there (at (other side) old.ends) (at (other side) new.ends) (stands.ends (other side)) passes.1);
      steady = steady;
      clean = stands.clean;
    } in
    subst (λ (c : Arrival (LineEndState DialogueState)). StandsAs setup (after_hearing number side c (with_line_to side (drop n) run)) new)
    (sym (came_to side n setup run old (all_taken heard) stands is.came)) after

-- ---- what the ends still hold

-- as they stop
last_end : (setup : SetupValue) (brought : AtBoth Belongings) (side : Side) (h : Buffered (LineEndState DialogueState)) (e : LineEndValue) → IsEnd setup brought side h e → IsOrdered e
    → IsLastEnd setup brought side h.end e
last_end setup brought side h e is ordered =
    record { end_is = ap (λ (x : Buffered (LineEndState DialogueState)). x.end) is.hearer; standing = is.standing; ordered = ordered }

all_held : (setup : SetupValue) (brought : AtBoth Belongings) (side : Side) (h : Buffered (LineEndState DialogueState)) (e : LineEndValue) → IsEnd setup brought side h e → held_bytes e.node ≡ h.held
all_held setup brought side h e is = sym (ap (λ (x : Buffered (LineEndState DialogueState)). x.held) is.hearer)

all_fits : (bytes held : List ℕ) → bytes ≡ held → length bytes < READER_SIZE → bytes ≡ take READER_SIZE held
all_fits bytes held is room =
    let size = ap (λ (x : List ℕ). length x) is in
    is ∙ sym (take_all READER_SIZE held (omega (arith, size, room)))

pub held_at : (r : RunValue) (side : Side) → at side (held_parts r) ≡ held_bytes (at side r.ends).node
held_at r side = at_each_is (λ (s : Side). held_bytes (at s r.ends).node) side

clean_holds : (setup : SetupValue) (run : Run DialogueState) (r : RunValue) → StandsAs setup run r → HoldWhatIsLeft run (held_parts r)
clean_holds setup run r stands = record { fits = fits; all = λ clean. all }
  where
    all : (side : Side) → at side (held_parts r) ≡ (end_at side run).held
    all side = held_at r side ∙ all_held setup run.brought side (end_at side run) (at side r.ends) (stands.ends side)

    fits : (side : Side) → at side (held_parts r) ≡ take READER_SIZE (end_at side run).held
    fits side = held_at r side
        ∙ all_fits (held_bytes (at side r.ends).node) (end_at side run).held
        (all_held setup run.brought side (end_at side run) (at side r.ends) (stands.ends side)) (ready_at r stands.steady side).room

-- so it is in the world
pub held_counted : (run : Run DialogueState) (held : AtBoth (List ℕ)) → HoldWhatIsLeft run held → HoldWhatIsLeft (counted run) held
held_counted run held holds = record {
  fits = λ side. holds.fits side ∙ sym (ap (λ (h : Buffered (LineEndState Count)). take READER_SIZE h.held) (counted_at run side));
  all = λ clean side. holds.all clean side ∙ sym (ap (λ (h : Buffered (LineEndState Count)). h.held) (counted_at run side));
}

-- the run is fooled
fooled_at : (side : Side) (n number : ℕ) (setup : SetupValue) (run : Run DialogueState) (old new : RunValue) → StandsAs setup run old
    → Passes side n false old new → EndsAs setup (after_event by_themselves setup number (Pass side n) run) (Fooled number side) new
fooled_at side n number setup run old new stands passes =
    let is = passes.0 in
    let stop : Buffered (LineEndState DialogueState) = record { held = is.held; end = line_end_of (at side new.ends) } in
    let there = changed_line (drop n) (end_at (other side) run) in
    let far = at (other side) new.ends in
    let changed : IsEnd setup run.brought (other side) there far =
    end_changed (drop n) (other side) setup run.brought (end_at (other side) run) (at (other side) old.ends) far (stands.ends (other side)) passes.1 in
    let ready = line_ready (drop n) (at (other side) old.ends) far passes.1 (ready_at old stands.steady (other side)) in
    let fits = with_both (λ (s : Side) (h far : Buffered (LineEndState DialogueState)). held_bytes (at s new.ends).node ≡ take READER_SIZE h.held) side stop there run.ends is.fits
    (all_fits (held_bytes far.node) there.held (all_held setup run.brought (other side) there far changed) ready.room) in
    let after : EndsAs setup (after_hearing number side (stopped stop) (with_line_to side (drop n) run)) (Fooled number side) new = record {
      past = stands.past ∙ sym passes.2;
      ends = with_both (λ (s : Side) (h far : Buffered (LineEndState DialogueState)). IsLastEnd setup run.brought s h.end (at s new.ends)) side stop there run.ends
          (record { end_is = refl; standing = is.standing ∙ (stands.ends side).standing; ordered = is.ordered })
          (last_end setup run.brought (other side) there far changed ready.ordered);
      verdict_is = refl;
      held = record {
        fits = λ s. held_at new s ∙ fits s;
        all = λ clean. absurd (let e : Fooled number side ≡ Clean = clean in cc);
      };
    } in
    subst (λ (c : Arrival (LineEndState DialogueState)). EndsAs setup (after_hearing number side c (with_line_to side (drop n) run)) (Fooled number side) new)
    (sym (came_to side n setup run old (stopped stop) stands is.came)) after

-- ---- a new call

lost_keeper : (k : Keeper DialogueState) (id : Identity) (stage : Stage) (e : EndState DialogueState) → (stage_step k id stage line_lost e).state.keeper ≡ e.keeper
lost_keeper k id (hailing g) e = refl
lost_keeper k id linked e = refl
lost_keeper k id (ended how) e = refl

kept_as_lost : (old lost : LineEndValue) → IsCalled line_lost old lost → (line_end_of lost).state.keeper ≡ (line_end_of old).state.keeper
kept_as_lost old lost is =
    ap (λ (h : Buffered (LineEndState DialogueState)). h.end.state.keeper) is.hearer
    ∙ lost_keeper (player_of old).keeper (player_of old).identity old.node.engine.stage (line_end_of old).state

lost_number : (k : Keeper DialogueState) (id : Identity) (stage : Stage) (e : EndState DialogueState) → (stage_step k id stage line_lost e).state.number ≡ e.number
lost_number k id (hailing g) e = refl
lost_number k id linked e = refl
lost_number k id (ended how) e = refl

number_as_lost : (old lost : LineEndValue) → IsCalled line_lost old lost → (line_end_of lost).state.number ≡ (line_end_of old).state.number
number_as_lost old lost is =
    ap (λ (h : Buffered (LineEndState DialogueState)). h.end.state.number) is.hearer
    ∙ lost_number (player_of old).keeper (player_of old).identity old.node.engine.stage (line_end_of old).state

owned_by_talk : Option (List Partial) → Holdings → (number : Option ℕ) → DialogueState → Belongings
owned_by_talk partials h number talk = record {
  lists = talk.machine.lists;
  kept = talk.kept;
  partials = partials_then partials (left_of h talk.machine);
  number = number;
}

-- what an end of the run has is what the program's end has
owned_is : (setup : SetupValue) (run : Run DialogueState) (side : Side) (e : LineEndValue) → standing_of e ≡ standing_at setup run.brought side →
    (number : Option ℕ) (talk : DialogueState) →
    owned_by_talk (at side run.brought).partials (at side (parties setup run.brought)).holdings number talk
    ≡ owned_by_talk e.spool.partials (holdings_of e.spool) number talk
owned_is setup run side e standing number talk =
    let same : (party setup run.brought side).holdings ≡ holdings_of e.spool = sym (ap (λ (s : Standing). s.holdings) standing) in
    ap₂ (λ ps h. owned_by_talk ps h number talk) (ap (λ (h : Holdings). h.partials) same)
    (ap (λ (p : Party). p.holdings) (at_each_is (party setup run.brought) side) ∙ same)

-- an end that has begun again, to which this was brought
record Begun (setup : SetupValue) (side : Side) (brought : Belongings) (e : LineEndValue) : Type 0 where
  hearer : begins (begins_session (identity setup side) (at side setup).own brought.number (by_themselves.first brought)) ≡ hearer_of e
  standing : standing_of e ≡ record {
    identity = identity setup side;
    own = (at side setup).own;
    holdings = holding brought.partials (at side setup).holdings;
  }

-- what is held behind a session, by what was held in it and how its machine stands
abbrev held_then : Holdings → State → Holdings
held_then h x = holding (partials_then h.partials (left_of h x)) h

end_begun : (setup : SetupValue) (run : Run DialogueState) (side : Side) (old lost new : LineEndValue) (now : Buffered (LineEndState DialogueState))
    → IsEnd setup run.brought side now old → IsCalled line_lost old lost → BeginsAgain lost new
    → Begun setup side (renewed (owned_by_talk (at side run.brought).partials (at side (parties setup run.brought)).holdings
    now.end.state.number now.end.state.keeper)) new
unfolding owned_by_talk
end_begun setup run side old lost new now was lost_is begun =
    let first : Standing → Option ℕ → DialogueState → Buffered (LineEndState DialogueState) =
    λ s number talk. begins (begins_session s.identity s.own number (by_themselves.first (renewed (owned_by_talk None s.holdings number talk)))) in
    let standing = lost_is.standing ∙ was.standing in
    let there : Standing = standing_at setup run.brought side in
    let talk_is : (line_end_of lost).state.keeper ≡ now.end.state.keeper =
    kept_as_lost old lost lost_is ∙ sym (ap (λ (h : Buffered (LineEndState DialogueState)). h.end.state.keeper) was.hearer) in
    let holdings_are : holdings_of lost.spool ≡ there.holdings = ap (λ (s : Standing). s.holdings) standing in
    let party_is : (at side (parties setup run.brought)).holdings ≡ there.holdings = ap (λ (p : Party). p.holdings) (at_each_is (party setup run.brought) side) in
    let held : held_then (holdings_of lost.spool) (line_end_of lost).state.keeper.machine
    ≡ holding (partials_then (at side run.brought).partials (left_of (at side (parties setup run.brought)).holdings now.end.state.keeper.machine)) (at side setup).holdings =
    ap₂ held_then holdings_are (ap (λ (t : DialogueState). t.machine) talk_is)
    ∙ ap (λ (h : Holdings). holding (partials_then (at side run.brought).partials (left_of h now.end.state.keeper.machine)) (at side setup).holdings) (sym party_is) in
    record {
      hearer = ap (λ (h : Buffered (LineEndState DialogueState)). first there h.end.state.number h.end.state.keeper) was.hearer
          ∙ ap (λ (n : Option ℕ). first there n (line_end_of old).state.keeper) (sym (number_as_lost old lost lost_is))
          ∙ ap (first there (line_end_of lost).state.number) (sym (kept_as_lost old lost lost_is))
          ∙ ap (λ (s : Standing). first s (line_end_of lost).state.number (line_end_of lost).state.keeper) (sym standing)
          ∙ sym begun.hearer;
      standing = begun.standing
          ∙ ap₂ (λ (s : Standing) (h : Holdings). record { identity = s.identity; own = s.own; holdings = h }) standing held;
    }

-- what is told of an end is told as the program tells it
spelled_back : (spellings : List (List ℕ)) → AreWritten spellings → map canonical (map packet_in spellings) ≡ spellings
spelled_back [] written = refl
spelled_back (b ∷ bs) written =
    ap (λ (x : List ℕ). x ∷ map canonical (map packet_in bs)) (sym written.0.0)
    ∙ ap (λ (xs : List (List ℕ)). b ∷ xs) (spelled_back bs written.1)

told_so : (e : LineEndValue) → AreWritten e.journal.packets → spelled_end (report_of_end (line_end_of e)) ≡ told_of e
told_so e written = ap (λ (ps : List (List ℕ)). record (told_of e) { packets = ps }) (spelled_back e.journal.packets written)

-- both of them
both_told : (now : Side → LineEndState DialogueState) (ends : AtBoth LineEndValue) → ((side : Side) → now side ≡ line_end_of (at side ends))
    → ((side : Side) → IsOrdered (at side ends))
    → spelled_session (at_each (λ side. report_of_end (now side))) ≡ at_each (λ side. told_of (at side ends))
both_told now ends same ordered =
    each_are (λ side. spelled_end (report_of_end (now side))) (λ side. told_of (at side ends))
    (λ side. ap (λ (e : LineEndState DialogueState). spelled_end (report_of_end e)) (same side) ∙ told_so (at side ends) (ordered side).written)

one_more_session : (past : List (AtBoth EndReportValue)) (last : AtBoth EndReportValue) (told : List (AtBoth SpelledEnd)) (last_told : AtBoth SpelledEnd)
    → map spelled_session past ≡ told → spelled_session last ≡ last_told
    → map spelled_session (past ++ last ∷ []) ≡ told ++ last_told ∷ []
one_more_session past last told last_told is last_is =
    map-append spelled_session past (last ∷ [])
    ∙ ap (λ (xs : List (AtBoth SpelledEnd)). xs ++ spelled_session last ∷ []) is
    ∙ ap (λ (x : AtBoth SpelledEnd). told ++ x ∷ []) last_is

called_again : (setup : SetupValue) (run : Run DialogueState) (old new : RunValue) → StandsAs setup run old → IsSteady new → CallsAgain old new
    → StandsAs setup (after_event by_themselves setup 0 Call run) new
unfolding owned_by_talk
called_again setup run old new stands steady again =
    let hung : (side : Side) → IsEnd setup run.brought side (hung_up by_themselves setup run side) (at side again.lost) =
    λ side. end_called line_lost side setup run (at side old.ends) (at side again.lost) (stands.ends side) (again.hangs_up side) in
    let begun = λ (side : Side).
    end_begun setup run side (at side old.ends) (at side again.lost) (at side new.ends) (end_at side run) (stands.ends side) (again.hangs_up side) (again.begins side) in
    record {
      past = one_more_session run.past (at_each (λ side. report_of_end (hung_up by_themselves setup run side).end)) old.past
          (at_each (λ side. told_of (at side again.lost))) stands.past
          (both_told (λ side. (hung_up by_themselves setup run side).end) again.lost
          (λ side. ap (λ (h : Buffered (LineEndState DialogueState)). h.end) (hung side).hearer) (λ side. (again.hangs_up side).ordered))
          ∙ sym again.past;
      ends = each (λ side. IsEnd setup (after_event by_themselves setup 0 Call run).brought side (end_at side (after_event by_themselves setup 0 Call run)) (at side new.ends))
          (record { hearer = (begun Caller).hearer; standing = (begun Caller).standing })
          (record { hearer = (begun Called).hearer; standing = (begun Called).standing });
      steady = steady;
      clean = refl;
    }

-- ---- an event

pub happens_clean : (event : Event) (number : ℕ) (setup : SetupValue) (run : Run DialogueState) (old new : RunValue) → StandsAs setup run old
    → Happens event true old new → StandsAs setup (after_event by_themselves setup number event run) new
happens_clean event number setup run old new stands happens = goes event happens (happens_steady event old new stands.steady happens)
  where
    goes : (event : Event) → Happens event true old new → IsSteady new → StandsAs setup (after_event by_themselves setup number event run) new
    goes (Pass side n) happens steady = passed_on side n number setup run old new stands steady happens
    goes (Drop side n) happens steady = line_changed (drop n) (other side) setup run old new stands steady happens.1
    goes (Flip side mask) happens steady = line_changed (flipped mask) (other side) setup run old new stands steady happens.1
    goes (Insert side byte) happens steady = line_changed (λ line. byte ∷ line) (other side) setup run old new stands steady happens.1
    goes (Timeout side) happens steady = at_called time_ran_out side setup run old new stands steady happens.1
    goes (HangUp side) happens steady = at_called line_lost side setup run old new stands steady happens.1
    goes Call happens steady = called_again setup run old new stands steady happens.1

-- only bytes that come may fool an end
pub happens_fooled : (event : Event) (number : ℕ) (setup : SetupValue) (run : Run DialogueState) (old new : RunValue) → StandsAs setup run old
    → Happens event false old new → EndsAs setup (after_event by_themselves setup number event run) (Fooled number (hearing_side event)) new
happens_fooled (Pass side n) number setup run old new stands happens = fooled_at side n number setup run old new stands happens
happens_fooled (Drop side n) number setup run old new stands happens = let never = happens.0 in absurd cc
happens_fooled (Flip side mask) number setup run old new stands happens = let never = happens.0 in absurd cc
happens_fooled (Insert side byte) number setup run old new stands happens = let never = happens.0 in absurd cc
happens_fooled (Timeout side) number setup run old new stands happens = let never = happens.0 in absurd cc
happens_fooled (HangUp side) number setup run old new stands happens = let never = happens.0 in absurd cc
happens_fooled Call number setup run old new stands happens = let never = happens.0 in absurd cc

-- ---- the events

goes_on_clean : (number : ℕ) (events : List Event) (setup : SetupValue) (run : Run DialogueState) (event : Event) → run.verdict ≡ Clean
    → goes_through by_themselves setup number (event ∷ events) run
    ≡ goes_through by_themselves setup (suc number) events (after_event by_themselves setup number event run)
goes_on_clean number events setup run event clean =
    ap (λ (v : LineVerdict). unless_fooled v (λ before. goes_through by_themselves setup (suc number) events (after_event by_themselves setup number event before)) run) clean

stays_fooled : (number event_number : ℕ) (side : Side) (events : List Event) (setup : SetupValue) (run : Run DialogueState) → run.verdict ≡ Fooled event_number side
    → goes_through by_themselves setup number events run ≡ run
stays_fooled number event_number side [] setup run fooled = refl
stays_fooled number event_number side (event ∷ events) setup run fooled =
    ap (λ (v : LineVerdict). unless_fooled v (λ before. goes_through by_themselves setup (suc number) events (after_event by_themselves setup number event before)) run) fooled

-- what is left to happen
pub record StillRuns (events : List Event) (number : ℕ) (setup : SetupValue) (run : Run DialogueState) (now : RunValue) : Type 0 where
  pub stands_as : Run DialogueState
  pub stands : StandsAs setup stands_as now
  pub same : goes_through by_themselves setup 0 events run
      ≡ goes_through by_themselves setup number (drop number events) stands_as

pub ends_clean : (run : Run DialogueState) (setup : SetupValue) (r : RunValue) → StandsAs setup run r → EndsAs setup run Clean r
ends_clean run setup r stands = record {
  past = stands.past;
  ends = λ side. last_end setup run.brought side (end_at side run) (at side r.ends) (stands.ends side) (ready_at r stands.steady side).ordered;
  verdict_is = stands.clean;
  held = clean_holds setup run r stands;
}

pub runs_on : (events : List Event) (number : ℕ) (event : Event) (setup : SetupValue) (run : Run DialogueState) (old new : RunValue)
    → drop number events ≡ event ∷ drop (number + 1) events → StillRuns events number setup run old → Happens event true old new
    → StillRuns events (number + 1) setup run new
runs_on events number event setup run old new next still happens =
    let one_more : suc number ≡ number + 1 = omega arith in
    let before = still.stands_as in
    record {
      stands_as = after_event by_themselves setup number event before;
      stands = happens_clean event number setup before old new still.stands happens;
      same = still.same
          ∙ ap (λ (es : List Event). goes_through by_themselves setup number es before) next
          ∙ goes_on_clean number (drop (number + 1) events) setup before event still.stands.clean
          ∙ ap (λ (n : ℕ). goes_through by_themselves setup n (drop (number + 1) events) (after_event by_themselves setup number event before)) one_more;
    }

pub runs_to_fooled : (events : List Event) (number : ℕ) (event : Event) (setup : SetupValue) (run : Run DialogueState) (old new : RunValue)
    → drop number events ≡ event ∷ drop (number + 1) events → StillRuns events number setup run old → Happens event false old new
    → EndsAs setup (goes_through by_themselves setup 0 events run) (Fooled number (hearing_side event)) new
runs_to_fooled events number event setup run old new next still happens =
    let before = still.stands_as in
    let after = after_event by_themselves setup number event before in
    let ends = happens_fooled event number setup before old new still.stands happens in
    subst (λ (r : Run DialogueState). EndsAs setup r (Fooled number (hearing_side event)) new)
    (sym (still.same
    ∙ ap (λ (es : List Event). goes_through by_themselves setup number es before) next
    ∙ goes_on_clean number (drop (number + 1) events) setup before event still.stands.clean
    ∙ stays_fooled (suc number) number (hearing_side event) (drop (number + 1) events) setup after ends.verdict_is)) ends

pub runs_to_end : (events : List Event) (number : ℕ) (setup : SetupValue) (run : Run DialogueState) (now : RunValue)
    → drop number events ≡ [] → StillRuns events number setup run now → EndsAs setup (goes_through by_themselves setup 0 events run) Clean now
runs_to_end events number setup run now none still =
    subst (λ (r : Run DialogueState). EndsAs setup r Clean now)
    (sym (still.same ∙ ap (λ (es : List Event). goes_through by_themselves setup number es still.stands_as) none))
    (ends_clean still.stands_as setup now still.stands)

-- ---- what is told

pub told_as : (setup : SetupValue) (run : Run DialogueState) (verdict : LineVerdict) (r : RunValue) → EndsAs setup run verdict r
    → spelled (report_of by_themselves setup run) ≡ told_in_all r verdict
unfolding owned_by_talk
told_as setup run verdict r ends =
    let now : Side → LineEndState DialogueState = λ side. (end_at side run).end in
    let told : Side → SpelledEnd = λ side. told_of (at side r.ends) in
    let stand : Side → EndNow = λ side. parts_now (at side r.ends) in
    let own : Side → LineEndState DialogueState → Belongings = λ side e.
    owned_by_talk (at side run.brought).partials (at side (parties setup run.brought)).holdings e.state.number e.state.keeper in
    let tells : List (AtBoth SpelledEnd) → AtBoth EndNow → AtBoth Belongings → LineVerdict → SpelledReport =
    λ sessions at_ends belongings says. record { sessions = sessions; ends = at_ends; belongings = belongings; verdict = says } in
    ap₂ (λ sessions at_ends. tells sessions at_ends (at_each (λ side. own side (now side))) run.verdict)
    (one_more_session run.past (at_each (λ side. report_of_end (now side))) r.past (at_each told) ends.past
    (both_told now r.ends (λ side. (ends.ends side).end_is) (λ side. (ends.ends side).ordered)))
    (each_are (λ side. end_now (now side)) stand (λ side. ap (λ (e : LineEndState DialogueState). end_now e) (ends.ends side).end_is))
    ∙ ap₂ (tells (r.past ++ at_each told ∷ []) (at_each stand))
    (each_are (λ side. own side (now side)) (λ side. owned_parts (at side r.ends)) (λ side. ap (own side) (ends.ends side).end_is
    ∙ owned_is setup run side (at side r.ends) (ends.ends side).standing (line_end_of (at side r.ends)).state.number (line_end_of (at side r.ends)).state.keeper))
    ends.verdict_is

-- a run that ends so is what the two ends do, and what the world tells
pub told_by_ends : (setup : SetupValue) (events : List Event) (verdict : LineVerdict) (r : RunValue)
    → EndsAs setup (run_of_ends setup events) verdict r → told_in_all r verdict ≡ spelled (report_of_ends setup events)
told_by_ends setup events verdict r ends = sym (told_as setup (run_of_ends setup events) verdict r ends)

pub told_by_world : (setup : SetupValue) (events : List Event) (verdict : LineVerdict) (r : RunValue)
    → EndsAs setup (run_of_ends setup events) verdict r → report_of_ends setup events ≡ report_of_world setup events
    → told_in_all r verdict ≡ spelled (report_of_world setup events)
told_by_world setup events verdict r ends same = told_by_ends setup events verdict r ends ∙ ap spelled same

-- the spools give and accept what they did at first
pub give_as_set_up : (setup : SetupValue) (run : Run DialogueState) (verdict : LineVerdict) (r : RunValue) → EndsAs setup run verdict r
    → GiveAsSetUp setup (whole_report r verdict).spools
give_as_set_up setup run verdict r ends side =
    ap (λ (m : MemoryHoldings). holding None (holdings_of m)) (at_each_is (λ (s : Side). (at s r.ends).spool) side)
    ∙ ap (λ (s : Standing). holding None s.holdings) (ends.ends side).standing

-- ---- the first session

-- of an end that is set up so
end_starts : (setup : SetupValue) (side : Side) (spool : MemoryHoldings) (e : LineEndValue)
    → holding (at side setup).belongings.partials (at side setup).holdings ≡ holdings_of spool → (at side setup).belongings.kept ≡ spool.stored
    → HasBegun (identity setup side) (at side setup).own (at side setup).belongings.number (renewed (at side setup).belongings).lists spool e
    → Begun setup side (renewed (at side setup).belongings) e
end_starts setup side spool e holdings kept begun =
    let belongings = (at side setup).belongings in
    record {
      hearer = ap (λ (files : List Kept). begins (begins_session (identity setup side) (at side setup).own belongings.number (unopened (renewed belongings).lists files))) kept
          ∙ sym begun.hearer;
      standing = begun.standing ∙ ap (λ (h : Holdings). record { identity = identity setup side; own = (at side setup).own; holdings = h }) (sym holdings);
    }

-- of both
pub starts_as : (setup : SetupValue) (caller_spool called_spool : MemoryHoldings) (r : RunValue) → r.past ≡ []
    → holding setup.at_caller.belongings.partials setup.at_caller.holdings ≡ holdings_of caller_spool
    → holding setup.at_called.belongings.partials setup.at_called.holdings ≡ holdings_of called_spool
    → setup.at_caller.belongings.kept ≡ caller_spool.stored → setup.at_called.belongings.kept ≡ called_spool.stored
    → HasBegun (identity setup Caller) setup.at_caller.own setup.at_caller.belongings.number (renewed setup.at_caller.belongings).lists caller_spool r.ends.at_caller
    → HasBegun (identity setup Called) setup.at_called.own setup.at_called.belongings.number (renewed setup.at_called.belongings).lists called_spool r.ends.at_called
    → StandsAs setup (first_run by_themselves setup) r
starts_as setup caller_spool called_spool r none caller_holdings called_holdings caller_kept called_kept caller called =
    let first = first_run by_themselves setup in
    let caller_begun = end_starts setup Caller caller_spool r.ends.at_caller caller_holdings caller_kept caller in
    let called_begun = end_starts setup Called called_spool r.ends.at_called called_holdings called_kept called in
    record {
      past = sym none;
      ends = each (λ side. IsEnd setup first.brought side (end_at side first) (at side r.ends))
          (record { hearer = caller_begun.hearer; standing = caller_begun.standing })
          (record { hearer = called_begun.hearer; standing = called_begun.standing });
      steady = record {
        at_caller = record { ordered = caller.ordered; room = caller.room };
        at_called = record { ordered = called.ordered; room = called.room };
      };
      clean = refl;
    }

-- ---- the program's reports and loop

pub one_more_shown : {A : Type 0} (past all : List (SessionReport A)) (caller called : EndReport A) (a b : SpelledEnd)
    → all ≡ past ++ record { caller = caller; called = called } ∷ [] → end_shown caller ≡ a → end_shown called ≡ b
    → map session_shown all ≡ map session_shown past ++ record { at_caller = a; at_called = b } ∷ []
one_more_shown {A} past all caller called a b is first next =
    let shown : SessionReport A → AtBoth SpelledEnd = λ s. session_shown s in
    let last : SessionReport A = record { caller = caller; called = called } in
    ap (λ (xs : List (SessionReport A)). map shown xs) is ∙ map-append shown past (last ∷ [])
    ∙ ap (λ (x : SpelledEnd). map shown past ++ record { at_caller = x; at_called = end_shown called } ∷ []) first
    ∙ ap (λ (x : SpelledEnd). map shown past ++ record { at_caller = a; at_called = x } ∷ []) next

pub runs_from_start : (events : List Event) (setup : SetupValue) (run : Run DialogueState) (r : RunValue) → StandsAs setup run r
    → StillRuns events 0 setup run r
runs_from_start events setup run r stands = record { stands_as = run; stands = stands; same = refl }

-- the event of this number happened
pub next_runs : (events : List Event) (number : ℕ) (d : Event) (all_sent : Bool) (old new : RunValue) → number < length events → all_sent ≡ true
    → Happens (get_or events number d) all_sent old new
    → IsSteady old → (steady : IsSteady new)
    × ((setup : SetupValue) (run : Run DialogueState) → StillRuns events number setup run old → StillRuns events (number + 1) setup run new)
next_runs events number d all_sent old new within all happens steady =
    let event = get_or events number d in
    let clean = subst (λ (b : Bool). Happens event b old new) all happens in
    (happens_steady event old new steady clean, λ setup run still. runs_on events number event setup run old new (drop_more events number d within) still clean)

pub next_fools : (events : List Event) (number : ℕ) (d : Event) (all_sent : Bool) (side : Side) (old new : RunValue) → number < length events
    → all_sent ≡ false → side ≡ hearing_side (get_or events number d) → Happens (get_or events number d) all_sent old new
    → (setup : SetupValue) (run : Run DialogueState) → StillRuns events number setup run old
    → EndsAs setup (goes_through by_themselves setup 0 events run) (Fooled number side) new
next_fools events number d all_sent side old new within unsent is happens setup run still =
    let event = get_or events number d in
    subst (λ (s : Side). EndsAs setup (goes_through by_themselves setup 0 events run) (Fooled number s) new) (sym is)
    (runs_to_fooled events number event setup run old new (drop_more events number d within) still
    (subst (λ (b : Bool). Happens event b old new) unsent happens))

pub none_left : (events : List Event) (number : ℕ) → length events ≤ number → drop number events ≡ []
none_left events number past = drop_all number events past

-- ---- the ends as they are set up

pub begun_as : (side : Side) (me peer my_name other_name : List ℕ) (own announced_so : Announced) (number set_up : Option ℕ)
    (l : Lists) (spool : MemoryHoldings) (new : LineEndValue)
    → me ≡ my_name → peer ≡ other_name → own ≡ announced_so → number ≡ set_up
    → HasBegun (record { side = side; me = me; peer = peer }) own number l spool new
    → HasBegun (record { side = side; me = my_name; peer = other_name }) announced_so set_up l spool new
begun_as side me peer my_name other_name own announced_so number set_up l spool new a b o n begun =
    subst (λ (x : List ℕ). HasBegun (record { side = side; me = x; peer = other_name }) announced_so set_up l spool new) a
    (subst (λ (x : List ℕ). HasBegun (record { side = side; me = me; peer = x }) announced_so set_up l spool new) b
    (subst (λ (x : Announced). HasBegun (record { side = side; me = me; peer = peer }) x set_up l spool new) o
    (subst (λ (x : Option ℕ). HasBegun (record { side = side; me = me; peer = peer }) own x l spool new) n begun)))

pub sessions_none : {A : Type 0} (sessions : List (SessionReport A)) → sessions ≡ [] → map session_shown sessions ≡ []
sessions_none {A} sessions none = let shown : SessionReport A → AtBoth SpelledEnd = λ s. session_shown s in ap (map shown) none
