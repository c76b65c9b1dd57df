-- The rounds of two ends on a clean line as events of their run.
use Rattle.std.proofs.Common.{◌≡◌, ℕ, zero, suc, ◌+◌, ◌<◌, ◌≤◌, List, [], ◌∷◌, length, take, drop, refl, ap, sym, subst, ◌∙◌, arith}
use Rattle.std.proofs.lemmas.List.{take_all}
use Rattle.std.proofs.Math.Seq.{drop-length}
use Rattle.uug_packet.specs.Packet.{PacketValue}
use Rattle.uug_session.specs.declared.end.End.TheVariants as ends
use Rattle.uug_session.specs.Arriving.{Arrival, Buffered, held_in, holds, takes_all, takes_piece}
use Rattle.uug_conversation.specs.Count.{Count}
use Rattle.uug_session.specs.EndStep.{EndState, Stage, ended, hailing, linked, time_ran_out}
use Rattle.uug_conversation.specs.View.{others_messages}
use Rattle.uug_line.specs.declared.event.Event.{Event}
use Rattle.uug_line.specs.declared.event.Event.TheVariants.{Pass, Timeout}
use Rattle.uug_conversation.specs.Turns.{other}
use Rattle.uug_conversation.specs.declared.side.Side.{Side}
use Rattle.uug_conversation.specs.declared.side.Side.TheVariants.{Caller, Called}
use Rattle.uug_line.specs.declared.verdict.LineVerdict.TheVariants.{Clean}
use Rattle.uug_line.specs.Belongings.{Belongings, SetupValue}
use Rattle.uug_line.specs.LineEndState.{LineEndState, called_with, changed_line, does}
use Rattle.uug_line.specs.Run.{Run, after_event, after_hearing, end_at, goes_through, with_end_at, with_line_to}
use Rattle.uug_line.specs.RunKeeper.{by_numbers}
use Rattle.uug_line.specs.Settle.{AllBringOn, AreRounds, IsIdle, IsOver, PassesClean, Round, behind_two, events_of, late, line_from, one_if_over, passing, run_weight}
use Rattle.uug_conversation.specs.Sides.{AtBoth}
use Rattle.uug_line.specs.Told.{EndReportValue}
use Rattle.uug_line.proofs.Clean.Base.{Base, seen, receiver, with_line}
use Rattle.uug_line.proofs.Clean.Items.{Talks}
use Rattle.uug_line.proofs.Clean.Passes.{Passed}
use Rattle.uug_line.proofs.Clean.Rounds.{DonePair, LeftPair, OpenPair, ShutPair, none_written, open_is_not_idle, some_closing, some_closing_line}
use Rattle.uug_line.proofs.Clean.Steps.{LeftStep, OpenStep, OpenThen, Stepped, both_sent, both_taken, called_then, caller_left, caller_shut, grows, round_left, round_open, round_shut, shut_grows, still_open, taken_within, takes_no_less}
use Rattle.uug_line.proofs.Clean.Times.{both_waited, waited}
use Rattle.uug_line.proofs.Clean.Ways.{Certainty, sure, unsure}
use Rattle.uug_line.proofs.World.Steps.{count_player}

-- a run of these two ends, which hold nothing
abbrev pub run_with : List (AtBoth EndReportValue) → AtBoth Belongings → (x y : LineEndState Count) → Run Count
run_with past brought x y = record {
  past = past;
  brought = brought;
  ends = record { at_caller = record { held = []; end = x }; at_called = record { held = []; end = y } };
  verdict = Clean;
}

-- an end that holds nothing
abbrev alone : LineEndState Count → Buffered (LineEndState Count)
alone e = record { held = []; end = e }

-- ---- what events do

module _ (setup : SetupValue) (past : List (AtBoth EndReportValue)) (brought : AtBoth Belongings)
    (B : Side → LineEndState Count → LineEndState Count → Type 0) where
  holds_none : (side : Side) (x y : LineEndState Count) → (let run = run_with past brought x y in end_at side run ≡ alone (end_at side run).end)
  holds_none Caller x y = refl
  holds_none Called x y = refl

  -- all that is on the line passes to the side
  pub passed_to : (side : Side) (number : ℕ) (x y then : LineEndState Count) →
      (let run = run_with past brought x y in
      let from = (end_at (other side) run).end in
      Passed setup brought B side (with_line [] from) (end_at side run).end then from.line →
      after_event by_numbers setup number (Pass side (length from.line)) run
      ≡ with_end_at side (alone then) (with_end_at (other side) (alone (with_line [] from)) run))
  passed_to side number x y then p =
      let run = run_with past brought x y in
      let from = (end_at (other side) run).end in
      let to = (end_at side run).end in
      let n = length from.line in
      let t = receiver setup brought side from in
      let now : (line : List ℕ) → Run Count = λ line. with_end_at (other side) (alone (with_line line from)) run in
      ap (λ (h : Buffered (LineEndState Count)). after_hearing number side (takes_piece t (take n from.line) h) (with_line_to side (drop n) run))
      (holds_none side x y)
      ∙ ap (λ (h : Buffered (LineEndState Count)). after_hearing number side (takes_all t (holds t (take n from.line) to))
      (with_end_at (other side) (changed_line (drop n) h) run)) (holds_none (other side) x y)
      ∙ ap (λ (line : List ℕ). after_hearing number side (takes_all t (holds t line to)) (now (drop n from.line))) (take_all n from.line (omega arith))
      ∙ ap (λ (came : Arrival (LineEndState Count)). after_hearing number side came (now (drop n from.line))) p.took
      ∙ ap (λ (line : List ℕ). with_end_at side (alone then) (now line)) (drop-length from.line)

  holds_nothing : (stage : Stage) → held_in stage [] ≡ []
  holds_nothing (hailing greeting) = refl
  holds_nothing linked = refl
  holds_nothing (ended how) = refl

  pub waits : (side : Side) (number : ℕ) (x y : LineEndState Count) →
      (let run = run_with past brought x y in
      after_event by_numbers setup number (Timeout side) run
      ≡ with_end_at side (alone (does (count_player setup brought side) time_ran_out (end_at side run).end)) run)
  waits side number x y =
      let run = run_with past brought x y in
      let p = count_player setup brought side in
      let then = does p time_ran_out (end_at side run).end in
      ap (λ (h : Buffered (LineEndState Count)). with_end_at side (called_with p time_ran_out h) run) (holds_none side x y)
      ∙ ap (λ (held : List ℕ). with_end_at side (record { held = held; end = then }) run) (holds_nothing then.state.stage)

  -- a round
  pub round_passes : (number : ℕ) (x y : LineEndState Count) (s : Stepped setup brought B x y) →
      behind_two by_numbers setup number (Pass Called (length x.line)) (Pass Caller (length s.middle.line)) (run_with past brought x y)
      ≡ run_with past brought s.last (called_then s)
  round_passes number x y s =
      ap (after_event by_numbers setup (suc number) (Pass Caller (length s.middle.line)))
      (passed_to Called number x y s.middle s.first)
      ∙ passed_to Caller (suc number) (with_line [] x) s.middle s.last s.second

  pub round_is_clean : (number : ℕ) (x y : LineEndState Count) (s : Stepped setup brought B x y) →
      PassesClean by_numbers setup number (length x.line) (length s.middle.line) (run_with past brought x y)
  round_is_clean number x y s = (
    ap (λ (run : Run Count). run.verdict) (passed_to Called number x y s.middle s.first),
    ap (λ (run : Run Count). run.verdict) (round_passes number x y s),
  )

  pub both_wait : (number : ℕ) (x y : LineEndState Count) →
      behind_two by_numbers setup number (Timeout Caller) (Timeout Called) (run_with past brought x y)
      ≡ run_with past brought (does (count_player setup brought Caller) time_ran_out x)
      (does (count_player setup brought Called) time_ran_out y)
  both_wait number x y =
      ap (after_event by_numbers setup (suc number) (Timeout Called)) (waits Caller number x y)
      ∙ waits Called (suc number) (does (count_player setup brought Caller) time_ran_out x) y

  -- events behind them
  pub goes_behind : (number : ℕ) (first second : Event) (events : List Event) (x y a b c d : LineEndState Count) →
      after_event by_numbers setup number first (run_with past brought x y) ≡ run_with past brought a b →
      after_event by_numbers setup (suc number) second (run_with past brought a b) ≡ run_with past brought c d →
      goes_through by_numbers setup number (first ∷ second ∷ events) (run_with past brought x y)
      ≡ goes_through by_numbers setup (suc (suc number)) events (run_with past brought c d)
  goes_behind number first second events x y a b c d one two =
      ap (goes_through by_numbers setup (suc number) (second ∷ events)) one
      ∙ ap (goes_through by_numbers setup (suc (suc number)) events) two

-- ---- to the end

-- Rounds lead two ends to the end of both sessions, at most so many.
pub record Path (setup : SetupValue) (past : List (AtBoth EndReportValue)) (brought : AtBoth Belongings)
    (B : Side → LineEndState Count → LineEndState Count → Type 0) (number : ℕ) (x y : LineEndState Count) (most : ℕ) : Type 0 where
  pub rounds : List Round
  pub are : AreRounds by_numbers setup number rounds (run_with past brought x y)
  pub few : length rounds ≤ most
  pub last_x : LineEndState Count
  pub last_y : LineEndState Count
  pub leads : goes_through by_numbers setup number (events_of rounds) (run_with past brought x y)
      ≡ run_with past brought last_x last_y
  pub base : B Caller last_x last_y
  pub done : DonePair (seen setup brought Caller) (seen setup brought Called) last_x last_y

-- each of which brings the run on
pub record PathOn (setup : SetupValue) (past : List (AtBoth EndReportValue)) (brought : AtBoth Belongings)
    (B : Side → LineEndState Count → LineEndState Count → Type 0) (number : ℕ) (x y : LineEndState Count) (most : ℕ) : Type 0 where
  pub path : Path setup past brought B number x y most
  pub all_bring_on : AllBringOn by_numbers setup number path.rounds (run_with past brought x y)

talks_on : (x : LineEndState Count) → x.state.stage ≡ linked → x.state.stage ≡ ended ends.Done → ⊥
talks_on x on done = absurd (let never : linked ≡ ended ends.Done = sym on ∙ done in cc)

-- how far two ends have come
abbrev pub pair_weight : (x y : LineEndState Count) → ℕ
pair_weight x y = both_taken x y + both_sent x y + (one_if_over x.state.stage + one_if_over y.state.stage)

not_over : (x : LineEndState Count) → x.state.stage ≡ linked → one_if_over x.state.stage ≡ 0
not_over x on = ap one_if_over on

is_over : (x : LineEndState Count) → x.state.stage ≡ ended ends.Done → one_if_over x.state.stage ≡ 1
is_over x done = ap one_if_over done

module _ (setup : SetupValue) (past : List (AtBoth EndReportValue)) (brought : AtBoth Belongings)
    (B : Side → LineEndState Count → LineEndState Count → Type 0) (base : Base setup brought B) where
  abbrev run_at : (x y : LineEndState Count) → Run Count
  run_at x y = run_with past brought x y

  abbrev IsPath : (number : ℕ) (x y : LineEndState Count) (most : ℕ) → Type 0
  IsPath number x y most = Path setup past brought B number x y most

  abbrev IsPathOn : (number : ℕ) (x y : LineEndState Count) (most : ℕ) → Type 0
  IsPathOn number x y most = PathOn setup past brought B number x y most

  -- ---- one round more in front

  pub behind_passes : (number most : ℕ) (x y : LineEndState Count) (s : Stepped setup brought B x y) → (IsOver (run_at x y) → ⊥) →
      (IsIdle (run_at x y) → ⊥) → IsPath (suc (suc number)) s.last (called_then s) most → IsPath number x y (suc most)
  behind_passes number most x y s goes_on not_idle p =
      let n = length x.line in
      let m = length s.middle.line in
      let one = passed_to setup past brought B Called number x y s.middle s.first in
      let two = passed_to setup past brought B Caller (suc number) (with_line [] x) s.middle s.last s.second in
      record {
        rounds = passing n m ∷ p.rounds;
        are = (
          goes_on,
          not_idle,
          refl,
          sym (ap (λ (run : Run Count). length (line_from Called run)) one),
          subst (AreRounds by_numbers setup (suc (suc number)) p.rounds) (sym (round_passes setup past brought B number x y s)) p.are,
        );
        few = omega (arith, p.few);
        last_x = p.last_x;
        last_y = p.last_y;
        leads = goes_behind setup past brought B number (Pass Called n) (Pass Caller m) (events_of p.rounds) x y (with_line [] x)
            s.middle s.last (called_then s) one two ∙ p.leads;
        base = p.base;
        done = p.done;
      }

  pub behind_passes_on : (number most : ℕ) (x y : LineEndState Count) (s : Stepped setup brought B x y) → (IsOver (run_at x y) → ⊥) →
      (IsIdle (run_at x y) → ⊥) → pair_weight x y < pair_weight s.last (called_then s) →
      IsPathOn (suc (suc number)) s.last (called_then s) most → IsPathOn number x y (suc most)
  unfolding behind_passes
  behind_passes_on number most x y s goes_on not_idle more p =
      let same = round_passes setup past brought B number x y s in
      record {
        path = behind_passes number most x y s goes_on not_idle p.path;
        all_bring_on = (
          round_is_clean setup past brought B number x y s,
          subst (λ (run : Run Count). run_weight (run_at x y) < run_weight run) (sym same) more,
          subst (AllBringOn by_numbers setup (suc (suc number)) p.path.rounds) (sym same) p.all_bring_on,
        );
      }

  pub behind_timeouts : (number most : ℕ) (x y : LineEndState Count) → (IsOver (run_at x y) → ⊥) → IsIdle (run_at x y) →
      IsPath (suc (suc number)) (does (count_player setup brought Caller) time_ran_out x)
      (does (count_player setup brought Called) time_ran_out y) most → IsPath number x y (suc most)
  behind_timeouts number most x y goes_on idle p =
      let a = does (count_player setup brought Caller) time_ran_out x in
      let b = does (count_player setup brought Called) time_ran_out y in
      record {
        rounds = late ∷ p.rounds;
        are = (
          goes_on,
          idle,
          subst (AreRounds by_numbers setup (suc (suc number)) p.rounds) (sym (both_wait setup past brought B number x y)) p.are,
        );
        few = omega (arith, p.few);
        last_x = p.last_x;
        last_y = p.last_y;
        leads = goes_behind setup past brought B number (Timeout Caller) (Timeout Called) (events_of p.rounds) x y a y a b
            (waits setup past brought B Caller number x y) (waits setup past brought B Called (suc number) a y) ∙ p.leads;
        base = p.base;
        done = p.done;
      }

  -- ---- the path from where both are done, one has left, or one has closed

  path_done : (number : ℕ) (x y : LineEndState Count) → B Caller x y →
      DonePair (seen setup brought Caller) (seen setup brought Called) x y → IsPathOn number x y 0
  path_done number x y is d = record {
    path = record {
      rounds = [];
      are = (d.x_stage, d.y_stage);
      few = omega arith;
      last_x = x;
      last_y = y;
      leads = refl;
      base = is;
      done = d;
    };
    all_bring_on = tt;
  }

  path_last : (number : ℕ) (x y : LineEndState Count) (s : LeftStep setup brought B x y) → y.state.stage ≡ linked →
      (IsIdle (run_at x y) → ⊥) → one_if_over x.state.stage ≤ 1 → IsPathOn number x y 1
  path_last number x y s on not_idle one =
      let step_then = s.stepped in
      let more = takes_no_less setup brought B x y step_then in
      behind_passes_on number 0 x y step_then (λ over. talks_on y on over.1) not_idle
      (omega (
        arith,
        more.0,
        more.1,
        one,
        not_over y on,
        is_over step_then.last s.then.x_stage,
        is_over (called_then step_then) s.then.y_stage,
      ))
      (path_done (suc (suc number)) step_then.last (called_then step_then) step_then.second.base s.then)

  at_most_one : (stage : Stage) → one_if_over stage ≤ 1
  at_most_one (hailing greeting) = omega arith
  at_most_one linked = omega arith
  at_most_one (ended how) = omega arith

  path_left : (number : ℕ) (x y : LineEndState Count) → B Caller x y →
      LeftPair (seen setup brought Caller) (seen setup brought Called) x y → IsPathOn number x y 1
  path_left number x y is l =
      path_last number x y (round_left setup brought B base x y is l) (ap (λ (e : EndState Count). e.stage) l.closed.state)
      (λ idle. some_closing l.last l.behind (sym l.line ∙ idle.0)) (at_most_one x.state.stage)

  path_shut : (number : ℕ) (x y : LineEndState Count) → B Caller x y → ShutPair (seen setup brought Caller) x y → IsPathOn number x y 1
  path_shut number x y is s =
      path_last number x y (round_shut setup brought B base x y is s) s.talks.stage
      (λ idle. some_closing_line s.shutting.last (sym s.shutting.line ∙ idle.0)) (at_most_one x.state.stage)

  -- ---- the path from where both talk

  open_not_idle : (there back : Certainty) (x y : LineEndState Count) (ps qs : List PacketValue) → B Caller x y →
      OpenPair there back x y ps qs → IsIdle (run_at x y) → ⊥
  open_not_idle there back x y ps qs is o idle =
      let out = none_written ps (sym o.out.line ∙ idle.0) in
      let home = none_written qs (sym o.home.line ∙ idle.1) in
      open_is_not_idle setup brought B base Caller there back x y is
      (subst (λ (l : List PacketValue). OpenPair there back x y l []) out
      (subst (λ (l : List PacketValue). OpenPair there back x y ps l) home o))

  -- all messages of the conversation
  abbrev all_of_both : ℕ
  all_of_both = length (others_messages (seen setup brought Caller)) + length (others_messages (seen setup brought Called))

  both_within : (x y : LineEndState Count) → B Caller x y → both_taken x y ≤ all_of_both
  both_within x y is =
      omega (
        arith,
        taken_within setup brought B base Caller x y is,
        taken_within setup brought B base Called y x (base.turned Caller x y is),
      )

  -- the next round, where fewer are left behind it if both talk on
  path_step : (fuel number : ℕ) (x y : LineEndState Count) (ps : List PacketValue) → B Caller x y → OpenPair sure sure x y ps [] →
      (s : OpenStep setup brought B sure x y) →
      ((ps : List PacketValue) → OpenPair sure sure s.stepped.last (called_then s.stepped) ps [] →
      both_taken x y < both_taken s.stepped.last (called_then s.stepped) →
      IsPathOn (suc (suc number)) s.stepped.last (called_then s.stepped) (fuel + 1)) → IsPathOn number x y (fuel + 2)
  path_step fuel number x y ps is o s rest = by s.then
    where
      step_then : Stepped setup brought B x y
      step_then = s.stepped

      a : LineEndState Count
      a = step_then.last

      b : LineEndState Count
      b = called_then step_then

      more : (both_taken x y ≤ both_taken a b) × (both_sent x y ≤ both_sent a b)
      more = takes_no_less setup brought B x y step_then

      wider : (most : ℕ) → most ≤ fuel + 1 → IsPathOn number x y (suc most) → IsPathOn number x y (fuel + 2)
      wider most within p = record {
        path = record {
          rounds = p.path.rounds;
          are = p.path.are;
          few = omega (arith, within, p.path.few);
          last_x = p.path.last_x;
          last_y = p.path.last_y;
          leads = p.path.leads;
          base = p.path.base;
          done = p.path.done;
        };
        all_bring_on = p.all_bring_on;
      }

      in_front : (most : ℕ) → most ≤ fuel + 1 → pair_weight x y < pair_weight a b → IsPathOn (suc (suc number)) a b most →
          IsPathOn number x y (fuel + 2)
      in_front most within grown p =
          wider most within (behind_passes_on number most x y step_then (λ over. talks_on x o.x_talks.stage over.0)
          (open_not_idle sure sure x y ps [] is o) grown p)

      x_goes : one_if_over x.state.stage ≡ 0
      x_goes = not_over x o.x_talks.stage

      y_goes : one_if_over y.state.stage ≡ 0
      y_goes = not_over y o.y_talks.stage

      by : OpenThen setup brought sure x step_then.middle a b → IsPathOn number x y (fuel + 2)
      by (still_open qs mid later on) =
          let grown = grows setup brought B base x y ps qs later step_then is o mid on in
          in_front (fuel + 1) (omega arith) (omega (arith, grown, more.1, x_goes, y_goes)) (rest later on grown)
      by (caller_shut shut) =
          in_front 1 (omega arith)
          (omega (arith, shut_grows setup brought B base x y step_then is o.x_talks shut, x_goes, y_goes))
          (path_shut (suc (suc number)) a b step_then.second.base shut)
      by (caller_left left) =
          in_front 1 (omega arith) (omega (arith, more.0, more.1, x_goes, y_goes, is_over a left.stage))
          (path_left (suc (suc number)) a b step_then.second.base left)

  pub path_open : (fuel number : ℕ) (x y : LineEndState Count) (ps : List PacketValue) → B Caller x y → OpenPair sure sure x y ps [] →
      all_of_both ≤ both_taken x y + fuel → IsPathOn number x y (fuel + 2)
  path_open zero number x y ps is o enough =
      let s = round_open setup brought B base sure sure x y ps [] is o in
      path_step zero number x y ps is o s
      (λ later on grown. absurd (omega (
        arith,
        grown,
        enough,
        both_within s.stepped.last (called_then s.stepped) s.stepped.second.base,
      )))
  path_open (suc fuel) number x y ps is o enough =
      let s = round_open setup brought B base sure sure x y ps [] is o in
      path_step (suc fuel) number x y ps is o s
      (λ later on grown. subst (IsPathOn (suc (suc number)) s.stepped.last (called_then s.stepped)) (omega arith)
      (path_open fuel (suc (suc number)) s.stepped.last (called_then s.stepped) later s.stepped.second.base on
      (omega (arith, enough, grown))))

  -- ---- from where nothing is on the line

  -- the first two rounds: both ends wait too long, and then what they repeat passes
  pub record Settling (number : ℕ) (x y : LineEndState Count) (most : ℕ) : Type 0 where
    pub path : IsPath number x y most
    pub n : ℕ
    pub m : ℕ
    pub rest : List Round
    pub first_clean : PassesClean by_numbers setup (suc (suc number)) n m
        (behind_two by_numbers setup number (Timeout Caller) (Timeout Called) (run_at x y))
    pub shape : path.rounds ≡ late ∷ passing n m ∷ rest
    pub all_bring_on : AllBringOn by_numbers setup (suc (suc (suc (suc number)))) rest
        (behind_two by_numbers setup (suc (suc number)) (Pass Called n) (Pass Caller m)
        (behind_two by_numbers setup number (Timeout Caller) (Timeout Called) (run_at x y)))

  wider_path : (number most wide : ℕ) (x y : LineEndState Count) → most ≤ wide → IsPathOn number x y most → IsPathOn number x y wide
  wider_path number most wide x y within p = record {
    path = record {
      rounds = p.path.rounds;
      are = p.path.are;
      few = omega (arith, within, p.path.few);
      last_x = p.path.last_x;
      last_y = p.path.last_y;
      leads = p.path.leads;
      base = p.path.base;
      done = p.path.done;
    };
    all_bring_on = p.all_bring_on;
  }

  -- behind the round that passes what was repeated
  path_then : (fuel number : ℕ) (a b : LineEndState Count) (s : OpenStep setup brought B unsure a b) →
      all_of_both ≤ both_taken a b + fuel →
      IsPathOn number s.stepped.last (called_then s.stepped) (fuel + 2)
  path_then fuel number a b s enough = by s.then
    where
      c : LineEndState Count
      c = s.stepped.last

      d : LineEndState Count
      d = called_then s.stepped

      by : OpenThen setup brought unsure a s.stepped.middle c d → IsPathOn number c d (fuel + 2)
      by (still_open qs mid later on) =
          path_open fuel number c d later s.stepped.second.base on
          (omega (arith, enough, (takes_no_less setup brought B a b s.stepped).0))
      by (caller_shut shut) =
          wider_path number 1 (fuel + 2) c d (omega arith) (path_shut number c d s.stepped.second.base shut)
      by (caller_left left) =
          wider_path number 1 (fuel + 2) c d (omega arith) (path_left number c d s.stepped.second.base left)

  pub settling : (fuel number : ℕ) (x y : LineEndState Count) → B Caller x y → Talks x → Talks y → x.state.link.timeouts ≤ 6 →
      y.state.link.timeouts ≤ 6 → x.line ≡ [] → y.line ≡ [] → all_of_both ≤ both_taken x y + fuel →
      Settling number x y (fuel + 4)
  unfolding behind_timeouts behind_passes
  settling fuel number x y is x_talks y_talks x_lasts y_lasts x_empty y_empty enough =
      let far = base.turned Caller x y is in
      let a = does (count_player setup brought Caller) time_ran_out x in
      let b = does (count_player setup brought Called) time_ran_out y in
      let u = waited setup brought B base Caller x y is x_talks x_lasts x_empty in
      let z = waited setup brought B base Called y x far y_talks y_lasts y_empty in
      let then = base.turned_back Caller b a
      (base.waits Called y a (base.turned Caller a y (base.waits Caller x y is))) in
      let o = both_waited setup brought B base Caller x y a b is u z in
      let s = round_open setup brought B base unsure unsure a b u.ps z.ps then o in
      let p = path_then fuel (suc (suc (suc (suc number)))) a b s
      (omega (arith, enough, ap (λ (l : List (List ℕ)). length l) u.taken, ap (λ (l : List (List ℕ)). length l) z.taken)) in
      let q = behind_passes (suc (suc number)) (fuel + 2) a b s.stepped (λ over. talks_on a o.x_talks.stage over.0)
      (open_not_idle unsure unsure a b u.ps z.ps then o) p.path in
      let r = behind_timeouts number (suc (fuel + 2)) x y (λ over. talks_on x x_talks.stage over.0) (x_empty, y_empty) q in
      record {
        path = record {
          rounds = r.rounds;
          are = r.are;
          few = omega (arith, r.few);
          last_x = r.last_x;
          last_y = r.last_y;
          leads = r.leads;
          base = r.base;
          done = r.done;
        };
        n = length a.line;
        m = length s.stepped.middle.line;
        rest = p.path.rounds;
        first_clean = subst (λ (run : Run Count). PassesClean by_numbers setup (suc (suc number)) (length a.line)
            (length s.stepped.middle.line) run) (sym (both_wait setup past brought B number x y))
            (round_is_clean setup past brought B (suc (suc number)) a b s.stepped);
        shape = refl;
        all_bring_on = subst (AllBringOn by_numbers setup (suc (suc (suc (suc number)))) p.path.rounds)
            (sym (ap (behind_two by_numbers setup (suc (suc number)) (Pass Called (length a.line))
            (Pass Caller (length s.stepped.middle.line))) (both_wait setup past brought B number x y)
            ∙ round_passes setup past brought B (suc (suc number)) a b s.stepped)) p.all_bring_on;
      }
