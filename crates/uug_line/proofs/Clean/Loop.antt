-- The program's rounds are those of the law.
use Rattle.std.proofs.Common.{◌≡◌, ℕ, suc, ◌+◌, ◌-◌, ◌<◌, ◌≤◌, Bool, true, false, List, [], ◌∷◌, ◌++◌, length, append_assoc, refl, ap, ap₂, sym, subst, ◌∙◌, arith}
use Rattle.std.proofs.lemmas.List.{append-nil, length-append}
use Rattle.uug_session.specs.Arriving.{Buffered}
use Rattle.uug_conversation.specs.Count.{Count}
use Rattle.uug_session.specs.EndStep.{time_ran_out}
use Rattle.uug_conversation.specs.DialogueState.{DialogueState}
use Rattle.uug_line.specs.declared.event.Event.{Event}
use Rattle.uug_line.specs.declared.event.Event.TheVariants.{Pass, Timeout}
use Rattle.uug_conversation.specs.declared.side.Side.{Side}
use Rattle.uug_conversation.specs.declared.side.Side.TheVariants.{Caller, Called}
use Rattle.uug_line.specs.declared.verdict.LineVerdict.TheVariants.{Clean, Fooled}
use Rattle.uug_line.specs.Belongings.{SetupValue}
use Rattle.uug_line.specs.LineEndState.{LineEndState}
use Rattle.uug_line.specs.LineEndValue.{IsCalled}
use Rattle.uug_line.specs.Run.{Run, after_event, end_at}
use Rattle.uug_line.specs.RunKeeper.{by_numbers, by_themselves}
use Rattle.uug_line.specs.RunValue.{Happens, HappensAt, Passes, RunValue, StandsAs, hearing_side}
use Rattle.uug_line.specs.Settle.{AllBringOn, AreRounds, IsOver, PassesClean, Round, Settles, behind_two, events_of, late, line_from, one_if_over, passing, run_weight}
use Rattle.uug_line.specs.Code.Settling.{AreOver, IsFinished, MayFinish, RoundHappens, goes, parts_weight, stops}
use Rattle.uug_conversation.specs.Sides.{at}
use Rattle.uug_line.specs.World.{counted, run_of_ends, world}
use Rattle.uug_line.proofs.Clean.Law.{settles_by, settles_of, settles_from}
use Rattle.uug_line.proofs.PastLemmas.{next_event}
use Rattle.uug_line.proofs.RunLemmas.{happens_clean, happens_fooled}
use Rattle.uug_line.proofs.SideLemmas.{counted_at}
use Rattle.uug_line.proofs.Standing.{run_goes}
use Rattle.uug_line.specs.SoundSetup.{IsSoundSetup}

-- these two events behind others
abbrev pub and_two : List Event → (first second : Event) → List Event
and_two events first second = (events ++ first ∷ []) ++ second ∷ []

-- The run of some events stands so; the rounds that are left lead it to the end.
pub record Nearing (setup : SetupValue) (events : List Event) (now : RunValue) : Type 0 where
  pub settles : Settles setup events
  pub so_far : List Event
  pub rest : List Round
  pub same : events ++ events_of settles.rounds ≡ so_far ++ events_of rest
  pub stands : StandsAs setup (run_of_ends setup so_far) now
  pub are : AreRounds by_numbers setup (length so_far) rest (world setup so_far)
  pub bring_on : AllBringOn by_numbers setup (length so_far) rest (world setup so_far)

-- two events have happened behind others
pub record Behind (setup : SetupValue) (so_far : List Event) (first second : Event) (new : RunValue) : Type 0 where
  pub stands : StandsAs setup (run_of_ends setup (and_two so_far first second)) new
  pub number : length (and_two so_far first second) ≡ suc (suc (length so_far))
  pub leads : world setup (and_two so_far first second)
      ≡ behind_two by_numbers setup (length so_far) first second (world setup so_far)

-- a round has
pub record Rounded (setup : SetupValue) (so_far : List Event) (n m : ℕ) (all_sent : Bool) (new : RunValue) : Type 0 where
  pub clean : all_sent ≡ true
  pub behind : Behind setup so_far (Pass Called n) (Pass Caller m) new

-- and the run has come on
pub record Nearer (setup : SetupValue) (events : List Event) (all_sent : Bool) (old new : RunValue) : Type 0 where
  pub clean : all_sent ≡ true
  pub near : Nearing setup events new
  pub heavier : parts_weight old < parts_weight new

-- the first rounds have happened
pub record Nears (setup : SetupValue) (events : List Event) (all_sent : Bool) (new : RunValue) : Type 0 where
  pub clean : all_sent ≡ true
  pub near : Nearing setup events new

-- where a number rises, what is left up to the greatest one falls
pub less_left : (most old new : ℕ) → old ≤ most → old < new → suc most - new < suc most - old
less_left most old new within rises = omega (arith, within, rises)

one_more : (events : List Event) (event : Event) → length (events ++ event ∷ []) ≡ suc (length events)
one_more events event = omega (arith, length-append events (event ∷ []))

module _ (setup : SetupValue) (sound : IsSoundSetup setup) where
  is_world : (events : List Event) → counted (run_of_ends setup events) ≡ world setup events
  is_world events = (run_goes setup sound events).counted_is

  abbrev IsAt : List Event → RunValue → Type 0
  IsAt events r = StandsAs setup (run_of_ends setup events) r

  -- ---- the world, as the program's run stands

  world_clean : (events : List Event) (r : RunValue) → IsAt events r → (world setup events).verdict ≡ Clean
  world_clean events r stands = ap (λ (run : Run Count). run.verdict) (sym (is_world events)) ∙ stands.clean

  line_is : (side : Side) (events : List Event) (r : RunValue) → IsAt events r → line_from side (world setup events) ≡ (at side r.ends).line
  line_is side events r stands =
      ap (λ (run : Run Count). line_from side run) (sym (is_world events))
      ∙ ap (λ (h : Buffered (LineEndState Count)). h.end.line) (counted_at (run_of_ends setup events) side)
      ∙ ap (λ (h : Buffered (LineEndState DialogueState)). h.end.line) (stands.ends side).hearer

  stage_is : (side : Side) (events : List Event) (r : RunValue) → IsAt events r →
      (end_at side (world setup events)).end.state.stage ≡ (at side r.ends).node.engine.stage
  stage_is side events r stands =
      ap (λ (run : Run Count). (end_at side run).end.state.stage) (sym (is_world events))
      ∙ ap (λ (h : Buffered (LineEndState Count)). h.end.state.stage) (counted_at (run_of_ends setup events) side)
      ∙ ap (λ (h : Buffered (LineEndState DialogueState)). h.end.state.stage) (stands.ends side).hearer

  world_over : (events : List Event) (r : RunValue) → IsAt events r → AreOver r → IsOver (world setup events)
  world_over events r stands over = (stage_is Caller events r stands ∙ over.0, stage_is Called events r stands ∙ over.1)

  parts_over : (events : List Event) (r : RunValue) → IsAt events r → IsOver (world setup events) → AreOver r
  parts_over events r stands over = (sym (stage_is Caller events r stands) ∙ over.0, sym (stage_is Called events r stands) ∙ over.1)

  weight_is : (events : List Event) (r : RunValue) → IsAt events r → run_weight (world setup events) ≡ parts_weight r
  weight_is events r stands =
      let weight : (a b : Buffered (LineEndState DialogueState)) → ℕ = λ a b.
      (length a.end.log.taken + length b.end.log.taken) + (length a.end.log.sent + length b.end.log.sent)
      + (one_if_over a.end.state.stage + one_if_over b.end.state.stage) in
      ap (λ (run : Run Count). run_weight run) (sym (is_world events)) ∙ ap₂ weight (stands.ends Caller).hearer (stands.ends Called).hearer

  -- ---- an event behind others

  pushed : (events : List Event) (event : Event) (old new : RunValue) → IsAt events old → Happens event true old new →
      IsAt (events ++ event ∷ []) new
  pushed events event old new stands happens =
      subst (λ (run : Run DialogueState). StandsAs setup run new) (sym (next_event by_themselves setup events event stands.clean))
      (happens_clean event (length events) setup (run_of_ends setup events) old new stands happens)

  -- where the world is clean no packet is found that was not sent
  not_fooled : (events : List Event) (event : Event) (old new : RunValue) → IsAt events old → Happens event false old new →
      (after_event by_numbers setup (length events) event (world setup events)).verdict ≡ Clean → ⊥
  not_fooled events event old new stands happens clean =
      let ends = happens_fooled event (length events) setup (run_of_ends setup events) old new stands happens in
      let more = events ++ event ∷ [] in
      let one : (run_of_ends setup more).verdict ≡ Fooled (length events) (hearing_side event) =
      ap (λ (run : Run DialogueState). run.verdict) (next_event by_themselves setup events event stands.clean) ∙ ends.verdict_is in
      let two : (world setup more).verdict ≡ Clean =
      ap (λ (run : Run Count). run.verdict) (next_event by_numbers setup events event (world_clean events old stands)) ∙ clean in
      let three : (run_of_ends setup more).verdict ≡ (world setup more).verdict =
      ap (λ (run : Run Count). run.verdict) (is_world more) in
      let never : Clean ≡ Fooled (length events) (hearing_side event) = sym two ∙ sym three ∙ one in
      absurd cc

  -- two events
  both_pushed : (events : List Event) (first second : Event) (old middle new : RunValue) → IsAt events old →
      Happens first true old middle → Happens second true middle new → Behind setup events first second new
  both_pushed events first second old middle new stands one two =
      let then = events ++ first ∷ [] in
      let at_middle = pushed events first old middle stands one in
      record {
        stands = pushed then second middle new at_middle two;
        number = omega (arith, one_more then second, one_more events first);
        leads = next_event by_numbers setup then second (world_clean then middle at_middle)
            ∙ ap (λ (number : ℕ). after_event by_numbers setup number second (world setup then)) (one_more events first)
            ∙ ap (after_event by_numbers setup (suc (length events)) second)
            (next_event by_numbers setup events first (world_clean events old stands));
      }

  -- what is said of the world from there on
  carried : (F : ℕ → Run Count → Type 0) (so_far : List Event) (first second : Event) (new : RunValue) →
      Behind setup so_far first second new →
      F (suc (suc (length so_far))) (behind_two by_numbers setup (length so_far) first second (world setup so_far)) →
      F (length (and_two so_far first second)) (world setup (and_two so_far first second))
  carried F so_far first second new behind so =
      subst (λ (number : ℕ). F number (world setup (and_two so_far first second))) (sym behind.number)
      (subst (λ (run : Run Count). F (suc (suc (length so_far))) run) (sym behind.leads) so)

  -- ---- a round

  second_pass : (so_far : List Event) (n m : ℕ) (all_sent : Bool) (old middle new : RunValue) → IsAt so_far old →
      Passes Called n true old middle → Passes Caller m all_sent middle new →
      PassesClean by_numbers setup (length so_far) n m (world setup so_far) → Rounded setup so_far n m all_sent new
  second_pass so_far n m true old middle new stands one two clean =
      record { clean = refl; behind = both_pushed so_far (Pass Called n) (Pass Caller m) old middle new stands one two }
  second_pass so_far n m false old middle new stands one two clean =
      let then = so_far ++ Pass Called n ∷ [] in
      let at_middle = pushed so_far (Pass Called n) old middle stands one in
      absurd (not_fooled then (Pass Caller m) middle new at_middle two
      (ap (λ (run : Run Count). (after_event by_numbers setup (length then) (Pass Caller m) run).verdict)
      (next_event by_numbers setup so_far (Pass Called n) (world_clean so_far old stands))
      ∙ ap (λ (number : ℕ). (after_event by_numbers setup number (Pass Caller m)
      (after_event by_numbers setup (length so_far) (Pass Called n) (world setup so_far))).verdict)
      (one_more so_far (Pass Called n))
      ∙ clean.1))

  round_passes : (so_far : List Event) (n m : ℕ) (all_sent : Bool) (old new : RunValue) → IsAt so_far old →
      RoundHappens all_sent old new → n ≡ length (line_from Caller (world setup so_far)) →
      m ≡ length (line_from Called (after_event by_numbers setup (length so_far) (Pass Called n) (world setup so_far))) →
      PassesClean by_numbers setup (length so_far) n m (world setup so_far) → Rounded setup so_far n m all_sent new
  round_passes so_far n m all_sent old new stands (stops unsent one) n_is m_is clean =
      let same : length old.ends.at_caller.line ≡ n = sym (n_is ∙ ap length (line_is Caller so_far old stands)) in
      absurd (not_fooled so_far (Pass Called n) old new stands
      (subst (λ (count : ℕ). Passes Called count false old new) same one) clean.0)
  round_passes so_far n m all_sent old new stands (goes middle one two) n_is m_is clean =
      let same : length old.ends.at_caller.line ≡ n = sym (n_is ∙ ap length (line_is Caller so_far old stands)) in
      let first = subst (λ (count : ℕ). Passes Called count true old middle) same one in
      let then = so_far ++ Pass Called n ∷ [] in
      let at_middle = pushed so_far (Pass Called n) old middle stands first in
      let same_too : length middle.ends.at_called.line ≡ m =
      sym (m_is ∙ ap (λ (run : Run Count). length (line_from Called run))
      (sym (next_event by_numbers setup so_far (Pass Called n) (world_clean so_far old stands)))
      ∙ ap length (line_is Called then middle at_middle)) in
      second_pass so_far n m all_sent old middle new stands first
      (subst (λ (count : ℕ). Passes Caller count all_sent middle new) same_too two) clean

  -- ---- to the end

  pub begins_so : (events : List Event) (all_sent : Bool) (old one two new : RunValue) → MayFinish setup events old →
      HappensAt Caller (IsCalled time_ran_out) old one →
      HappensAt Called (IsCalled time_ran_out) one two → RoundHappens all_sent two new → Nears setup events all_sent new
  begins_so events all_sent old one two new may caller_late called_late round =
      let s = settles_from setup events may.types may.settles in
      let n = s.to_called in
      let m = s.to_caller in
      let waited = both_pushed events (Timeout Caller) (Timeout Called) old one two may.stands (refl, caller_late) (refl, called_late) in
      let then = and_two events (Timeout Caller) (Timeout Called) in
      let are = carried (λ (number : ℕ) (run : Run Count). AreRounds by_numbers setup number (passing n m ∷ s.rest) run)
      events (Timeout Caller) (Timeout Called) two waited s.are.2 in
      let clean = carried (λ (number : ℕ) (run : Run Count). PassesClean by_numbers setup number n m run)
      events (Timeout Caller) (Timeout Called) two waited s.first_clean in
      let on = carried (λ (number : ℕ) (run : Run Count). AllBringOn by_numbers setup (suc (suc number)) s.rest
      (behind_two by_numbers setup number (Pass Called n) (Pass Caller m) run))
      events (Timeout Caller) (Timeout Called) two waited s.all_bring_on in
      let passed = round_passes then n m all_sent two new waited.stands round are.2 are.3 clean in
      let last = and_two then (Pass Called n) (Pass Caller m) in
      record {
        clean = passed.clean;
        near = record {
          settles = settles_of setup events s;
          so_far = last;
          rest = s.rest;
          same = ap (λ (rounds : List Round). events ++ events_of rounds) (settles_by setup events s)
              ∙ sym (append_assoc (then ++ Pass Called n ∷ []) (Pass Caller m ∷ []) (events_of s.rest)
              ∙ append_assoc then (Pass Called n ∷ []) (Pass Caller m ∷ events_of s.rest)
              ∙ append_assoc (events ++ Timeout Caller ∷ []) (Timeout Called ∷ []) (Pass Called n ∷ Pass Caller m ∷ events_of s.rest)
              ∙ append_assoc events (Timeout Caller ∷ []) (Timeout Called ∷ Pass Called n ∷ Pass Caller m ∷ events_of s.rest));
          stands = passed.behind.stands;
          are = carried (λ (number : ℕ) (run : Run Count). AreRounds by_numbers setup number s.rest run)
              then (Pass Called n) (Pass Caller m) new passed.behind are.4;
          bring_on = carried (λ (number : ℕ) (run : Run Count). AllBringOn by_numbers setup number s.rest run)
              then (Pass Called n) (Pass Caller m) new passed.behind on;
        };
      }

  goes_by : (events : List Event) (settles : Settles setup events) (so_far : List Event) (rest : List Round) (all_sent : Bool)
      (old new : RunValue) → events ++ events_of settles.rounds ≡ so_far ++ events_of rest → IsAt so_far old →
      AreRounds by_numbers setup (length so_far) rest (world setup so_far) →
      AllBringOn by_numbers setup (length so_far) rest (world setup so_far) → (AreOver old → ⊥) → RoundHappens all_sent old new →
      Nearer setup events all_sent old new
  goes_by events settles so_far [] all_sent old new same stands are on not_over round =
      absurd (not_over (parts_over so_far old stands are))
  goes_by events settles so_far (late ∷ rest) all_sent old new same stands are on not_over round = absurd on
  goes_by events settles so_far (passing n m ∷ rest) all_sent old new same stands are on not_over round =
      let passed = round_passes so_far n m all_sent old new stands round are.2 are.3 on.0 in
      let then = and_two so_far (Pass Called n) (Pass Caller m) in
      record {
        clean = passed.clean;
        near = record {
          settles = settles;
          so_far = then;
          rest = rest;
          same = same ∙ sym (append_assoc (so_far ++ Pass Called n ∷ []) (Pass Caller m ∷ []) (events_of rest)
              ∙ append_assoc so_far (Pass Called n ∷ []) (Pass Caller m ∷ events_of rest));
          stands = passed.behind.stands;
          are = carried (λ (number : ℕ) (run : Run Count). AreRounds by_numbers setup number rest run)
              so_far (Pass Called n) (Pass Caller m) new passed.behind are.4;
          bring_on = carried (λ (number : ℕ) (run : Run Count). AllBringOn by_numbers setup number rest run)
              so_far (Pass Called n) (Pass Caller m) new passed.behind on.2;
        };
        heavier = omega (
          arith,
          on.1,
          weight_is so_far old stands,
          weight_is then new passed.behind.stands,
          ap (λ (run : Run Count). run_weight run) passed.behind.leads,
        );
      }

  pub goes_nearer : (events : List Event) (all_sent : Bool) (old new : RunValue) → Nearing setup events old →
      (AreOver old → ⊥) → RoundHappens all_sent old new → Nearer setup events all_sent old new
  goes_nearer events all_sent old new near not_over round =
      goes_by events near.settles near.so_far near.rest all_sent old new near.same near.stands near.are near.bring_on not_over round

  finished_by : (events : List Event) (settles : Settles setup events) (so_far : List Event) (rest : List Round) (now : RunValue) →
      events ++ events_of settles.rounds ≡ so_far ++ events_of rest → IsAt so_far now →
      AreRounds by_numbers setup (length so_far) rest (world setup so_far) → AreOver now → IsFinished setup events now
  finished_by events settles so_far [] now same stands are over = record {
    settles = settles;
    stands = subst (λ (es : List Event). StandsAs setup (run_of_ends setup es) now) (sym (same ∙ append-nil so_far)) stands;
  }
  finished_by events settles so_far (late ∷ rest) now same stands are over = absurd (are.0 (world_over so_far now stands over))
  finished_by events settles so_far (passing n m ∷ rest) now same stands are over =
      absurd (are.0 (world_over so_far now stands over))

  pub is_finished : (events : List Event) (now : RunValue) → Nearing setup events now → AreOver now → IsFinished setup events now
  is_finished events now near over = finished_by events near.settles near.so_far near.rest now near.same near.stands near.are over
