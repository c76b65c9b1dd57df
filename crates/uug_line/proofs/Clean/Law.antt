-- A clean line finishes: from every world that may settle rounds lead to the end.
use Rattle.std.proofs.Common.{◌≡◌, ℕ, ◌+◌, ◌≤◌, Bool, true, false, List, [], ◌∷◌, Option, length, refl, ap, ap₂, sym, subst, ◌∙◌, arith}
use Rattle.std.proofs.lemmas.List.{take_all}
use Rattle.uug_link.specs.Announced.{Announced}
use Rattle.uug_link.specs.InRange.{IsAnnouncement}
use Rattle.uug_session.specs.declared.end.End.TheVariants as ends
use Rattle.uug_conversation.specs.Count.{Count, count_keeper}
use Rattle.uug_session.specs.Arriving.{Buffered}
use Rattle.uug_session.specs.EndStep.{ended}
use Rattle.uug_conversation.specs.Party.{Party}
use Rattle.uug_conversation.specs.DialogueState.{DialogueState}
use Rattle.uug_conversation.specs.View.{others_messages}
use Rattle.uug_line.specs.declared.event.Event.{Event}
use Rattle.uug_conversation.specs.Turns.{other}
use Rattle.uug_conversation.specs.declared.side.Side.{Side}
use Rattle.uug_conversation.specs.declared.side.Side.TheVariants.{Caller, Called}
use Rattle.uug_line.specs.declared.verdict.LineVerdict.{LineVerdict}
use Rattle.uug_line.specs.declared.verdict.LineVerdict.TheVariants.{Clean}
use Rattle.uug_line.specs.Belongings.{Belongings, SetupValue}
use Rattle.uug_line.specs.LineEndState.{LineEndState}
use Rattle.uug_line.specs.OfBytes.{AreOfTypes}
use Rattle.uug_line.specs.Run.{Run, end_at, first_run, goes_through, parties}
use Rattle.uug_line.specs.RunKeeper.{by_numbers, has_after, has_by}
use Rattle.uug_line.specs.Settle.{AreRounds, EndIsSettled, IsSettled, MaySettle, Round, Settles, SettlesFrom, events_of, late, left, passing}
use Rattle.uug_conversation.specs.Sides.{AtBoth, at}
use Rattle.uug_line.specs.Told.{EndReportValue}
use Rattle.uug_line.specs.World.{counted, counted_end, run_of_ends, world}
use Rattle.uug_line.proofs.Clean.Base.{Base, seen}
use Rattle.uug_line.proofs.Clean.Counts.{over_at}
use Rattle.uug_line.proofs.Clean.Pairs.{IsPair, base_of_pairs, pair, pair_own, taken_first}
use Rattle.uug_line.proofs.Clean.Rounds.{DonePair}
use Rattle.uug_line.proofs.Clean.Runs.{run_with, settling}
use Rattle.uug_line.proofs.Clean.Steps.{taken_within}
use Rattle.uug_line.proofs.World.Joining.{IsSoundSession}
use Rattle.uug_line.proofs.PastLemmas.{goes_on}
use Rattle.uug_line.proofs.SideLemmas.{counted_at}
use Rattle.uug_line.proofs.Standing.{Stands, run_goes}

-- ---- two ends that have settled

has_all : (parties_now : AtBoth Party) (side : Side) (brought : Belongings) (number : Option ℕ) (c : Count) (n : ℕ) → c.opened ≡ true → c.taken ≡ n →
    by_numbers.has parties_now side brought number c ≡ has_after parties_now side brought number n
has_all parties_now side brought number c n is same =
    ap₂ (λ (opened : Bool) (taken : ℕ). has_by opened parties_now side brought number taken) is same

-- what the law says, from what it says for the program's loop
pub settles_of : (setup : SetupValue) (events : List Event) → SettlesFrom setup (length events) (world setup events) → Settles setup events
settles_of setup events s =
    let rounds : List Round = late ∷ passing s.to_called s.to_caller ∷ s.rest in
    record {
      rounds = rounds;
      are = s.are;
      few = s.few;
      within = omega (arith, s.few);
      settled = subst (λ (run : Run Count). IsSettled by_numbers setup run)
          (sym (goes_on by_numbers setup 0 events (events_of rounds) (first_run by_numbers setup)
          ∙ ap (λ (n : ℕ). goes_through by_numbers setup n (events_of rounds) (world setup events)) (omega arith))) s.settled;
    }

pub settles_by : (setup : SetupValue) (events : List Event) (s : SettlesFrom setup (length events) (world setup events)) →
    (settles_of setup events s).rounds ≡ late ∷ passing s.to_called s.to_caller ∷ s.rest
unfolding settles_of
settles_by setup events s = refl

module _ (setup : SetupValue) where
  module _ (brought : AtBoth Belongings) (sound : IsSoundSession setup brought)
      (announces : (side : Side) → IsAnnouncement (at side setup).own)
      (plain : (side : Side) → (at side setup).own.quiet ≡ false) where
    abbrev base : Base setup brought (IsPair setup brought)
    base = base_of_pairs setup brought sound announces plain

    -- each of the other's messages is taken
    record TakesAll (side : Side) (x : LineEndState Count) : Type 0 where
      opened : x.state.keeper.opened ≡ true
      number : x.state.keeper.taken ≡ length (others_messages (seen setup brought side))
      taken : x.log.taken ≡ others_messages (seen setup brought side)

    takes_all : (side : Side) (x y : LineEndState Count) → IsPair setup brought side x y →
        (count_keeper (seen setup brought side)).is_over x.state.keeper ≡ true → TakesAll side x
    takes_all side x y is over =
        let v = seen setup brought side in
        let o = over_at v x.state.keeper over in
        let count = base.taken side x y is in
        record {
          opened = o.opened;
          number = omega (arith, o.taken, count, taken_within setup brought (IsPair setup brought) base side x y is);
          taken = taken_first setup brought sound announces side x y is
              ∙ take_all (length x.log.taken) (others_messages v) (omega (arith, o.taken, count));
        }

    settled : (side : Side) (past : List (AtBoth EndReportValue)) (x y : LineEndState Count) →
        (let e = (end_at side (run_with past brought x y)).end in
        e.state.stage ≡ ended ends.Done → TakesAll side e → EndIsSettled by_numbers setup (run_with past brought x y) side)
    settled side past x y done t =
        let e = (end_at side (run_with past brought x y)).end in
        record {
          done = done;
          taken = t.taken;
          has = has_all (parties setup brought) side (at side brought) e.state.number e.state.keeper
              (length (others_messages (seen setup brought side))) t.opened t.number;
        }

    both_settled : (past : List (AtBoth EndReportValue)) (x y : LineEndState Count) → IsPair setup brought Caller x y →
        DonePair (seen setup brought Caller) (seen setup brought Called) x y →
        IsSettled by_numbers setup (run_with past brought x y)
    both_settled past x y is d = record { clean = refl; ends = ends_so }
      where
        ends_so : (side : Side) → EndIsSettled by_numbers setup (run_with past brought x y) side
        ends_so Caller = settled Caller past x y d.x_stage (takes_all Caller x y is d.x_over)
        ends_so Called = settled Called past x y d.y_stage (takes_all Called y x (base.turned Caller x y is) d.y_over)

    -- ---- from two ends that may settle

    settles_pair : (number : ℕ) (past : List (AtBoth EndReportValue)) (x y : LineEndState Count) → IsPair setup brought Caller x y →
        MaySettle (run_with past brought x y) → SettlesFrom setup number (run_with past brought x y)
    settles_pair number past x y is may =
        let B = IsPair setup brought in
        let near = may.ends Caller in
        let far = may.ends Called in
        let fuel : ℕ = left setup (run_with past brought x y) in
        let s = settling setup past brought B base fuel number x y is
        (record { stage = near.on_link; is_up = near.is_up }) (record { stage = far.on_link; is_up = far.is_up })
        near.timeouts far.timeouts near.empty far.empty (omega arith) in
        let p = s.path in
        record {
          to_called = s.n;
          to_caller = s.m;
          rest = s.rest;
          are = subst (λ (rounds : List Round). AreRounds by_numbers setup number rounds (run_with past brought x y)) s.shape p.are;
          few = subst (λ (rounds : List Round). length rounds ≤ fuel + 4) s.shape p.few;
          first_clean = s.first_clean;
          all_bring_on = s.all_bring_on;
          settled = subst (λ (run : Run Count). IsSettled by_numbers setup run)
              (sym p.leads ∙ ap (λ (rounds : List Round). goes_through by_numbers setup number (events_of rounds)
              (run_with past brought x y)) s.shape)
              (both_settled past p.last_x p.last_y p.base p.done);
        }

  -- ---- from a run that may settle

  -- a clean run whose ends hold nothing
  run_is : (run : Run DialogueState) → run.verdict ≡ Clean → run.ends.at_caller.held ≡ [] → run.ends.at_called.held ≡ [] →
      run_with run.past run.brought (counted_end run.ends.at_caller.end) (counted_end run.ends.at_called.end) ≡ counted run
  run_is run clean_is caller_holds called_holds =
      let so : (verdict : LineVerdict) (a b : List ℕ) → Run Count = λ verdict a b. record {
        past = run.past;
        brought = run.brought;
        ends = record {
          at_caller = record { held = a; end = counted_end run.ends.at_caller.end };
          at_called = record { held = b; end = counted_end run.ends.at_called.end };
        };
        verdict = verdict;
      } in
      ap (λ (verdict : LineVerdict). so verdict [] []) (sym clean_is)
      ∙ ap₂ (λ (a b : List ℕ). so run.verdict a b) (sym caller_holds) (sym called_holds)

  -- an end of a run is set to what it was set up with
  run_owns : (run : Run DialogueState) → Stands setup run → ((side : Side) → IsAnnouncement (at side setup).own) → (side : Side) →
      (end_at side (counted run)).end.state.link.own ≡ (at side setup).own
  run_owns run stands announces side =
      let here = (end_at side run).end in
      let there = (end_at (other side) run).end in
      ap (λ (h : Buffered (LineEndState Count)). h.end.state.link.own) (counted_at run side)
      ∙ pair_own setup run.brought stands.sound announces side (counted_end here) (counted_end there)
      (pair side here there (stands.joined side))

  settles_run : (number : ℕ) (run : Run DialogueState) → Stands setup run → ((side : Side) → IsAnnouncement (at side setup).own) →
      MaySettle (counted run) → SettlesFrom setup number (counted run)
  settles_run number run stands announces may =
      let same = run_is run may.clean (may.ends Caller).holds_none (may.ends Called).holds_none in
      subst (λ (r : Run Count). SettlesFrom setup number r) same
      (settles_pair run.brought stands.sound announces plain number run.past (counted_end run.ends.at_caller.end)
      (counted_end run.ends.at_called.end)
      (pair Caller run.ends.at_caller.end run.ends.at_called.end (stands.joined Caller))
      (subst (λ (r : Run Count). MaySettle r) (sym same) may))
    where
      plain : (side : Side) → (at side setup).own.quiet ≡ false
      plain side =
          sym (ap (λ (a : Announced). a.quiet) (run_owns run stands announces side)) ∙ (may.ends side).plain

  announcements : (events : List Event) → AreOfTypes setup events → (side : Side) → IsAnnouncement (at side setup).own
  announcements events types side =
      record { window = (types.sound.each side).window; size_code = (types.of_bytes side).size_code }

  pub owns : (events : List Event) → AreOfTypes setup events → (side : Side) →
      (end_at side (world setup events)).end.state.link.own ≡ (at side setup).own
  owns events types side =
      let g = run_goes setup types.sound events in
      subst (λ (r : Run Count). (end_at side r).end.state.link.own ≡ (at side setup).own) g.counted_is
      (run_owns (run_of_ends setup events) g.stands (announcements events types) side)

  pub settles_from : (events : List Event) → AreOfTypes setup events → MaySettle (world setup events) →
      SettlesFrom setup (length events) (world setup events)
  settles_from events types may =
      let g = run_goes setup types.sound events in
      subst (λ (r : Run Count). SettlesFrom setup (length events) r) g.counted_is
      (settles_run (length events) (run_of_ends setup events) g.stands (announcements events types)
      (subst (λ (r : Run Count). MaySettle r) (sym g.counted_is) may))

  pub settles : (events : List Event) → AreOfTypes setup events → MaySettle (world setup events) → Settles setup events
  settles events types may = settles_of setup events (settles_from events types may)
