-- Behind a timeout at each of two ends that talk, what each has outstanding is on its line: it brings all, and tells all or
-- will be answered.
use Rattle.std.proofs.Common.{◌≡◌, ◌⊎◌, inl, inr, ℕ, ◌+◌, ◌-◌, ◌%◌, ◌≤◌, List, [], ◌∷◌, ◌++◌, length, refl, ap, ap₂, sym, ◌∙◌, arith}
use Rattle.uug_conversation.specs.Turns.{other}
use Rattle.uug_link.specs.OnTheWay.{AreComing, BringAll, Repeats, TellAll, TellOldest, expected_behind, oldest_behind}
use Rattle.uug_link.specs.Step.{next_number, timed_out}
use Rattle.uug_link.specs.TwoLinks.{packets_of}
use Rattle.uug_packet.specs.Packet.{PacketValue, carry, control}
use Rattle.uug_conversation.specs.Count.{Count}
use Rattle.uug_session.specs.EndStep.{end_step, time_ran_out}
use Rattle.uug_conversation.specs.declared.side.Side.{Side}
use Rattle.uug_line.specs.Belongings.{Belongings, SetupValue}
use Rattle.uug_line.specs.LineEndState.{LineEndState, bytes_in, does, packets_in}
use Rattle.uug_conversation.specs.Sides.{AtBoth, at}
use Rattle.uug_line.proofs.Clean.Base.{Base, as_end, bytes_written, packets_written, seen, written}
use Rattle.uug_line.proofs.Clean.Counts.{counted_back, counted_to, few}
use Rattle.uug_line.proofs.Clean.Ends.{waits_on}
use Rattle.uug_line.proofs.Clean.Items.{Talks}
use Rattle.uug_line.proofs.Clean.Rounds.{OpenPair}
use Rattle.uug_line.proofs.Clean.Ways.{HasData, IsTold, unsure}
use Rattle.uug_line.proofs.World.Steps.{count_player}
use Rattle.uug_link.proofs.OutcomeLemmas.{moves_of}
use Rattle.uug_line.proofs.LowerLemmas.{always_passed}

-- ---- packets among which there is data, or that move nothing

data_or_none : (ps : List PacketValue) → HasData ps ⊎ ((e : ℕ) → expected_behind ps e ≡ e)
data_or_none [] = inr (λ e. refl)
data_or_none (carry seq ack k message ∷ ps) = inl (inl tt)
data_or_none (control c ∷ ps) = by (data_or_none ps)
  where
    by : (HasData ps ⊎ ((e : ℕ) → expected_behind ps e ≡ e)) →
        HasData (control c ∷ ps) ⊎ ((e : ℕ) → expected_behind (control c ∷ ps) e ≡ e)
    by (inl has) = inl (inr has)
    by (inr none) = inr none

-- ---- one end has waited

pub record Waited (x then : LineEndState Count) : Type 0 where
  pub talks : Talks then
  pub ps : List PacketValue
  pub line : then.line ≡ written ps
  pub packets : then.log.packets ≡ x.log.packets ++ ps
  pub passed : then.log.passed ≡ x.log.passed
  pub taken : then.log.taken ≡ x.log.taken
  pub repeats : Repeats x.state.link then.state.link ps

module _ (setup : SetupValue) (brought : AtBoth Belongings) (B : Side → LineEndState Count → LineEndState Count → Type 0)
    (base : Base setup brought B) where
  pub waited : (side : Side) (x y : LineEndState Count) → B side x y → Talks x → x.state.link.timeouts ≤ 6 → x.line ≡ [] →
      Waited x (does (count_player setup brought side) time_ran_out x)
  waited side x y is talks lasts empty =
      let participant = count_player setup brought side in
      let effect = end_step participant.keeper participant.identity time_ran_out x.state in
      let there = counted_to setup brought B base side x y is in
      let back = counted_back setup brought B base side x y is in
      let on = waits_on (seen setup brought side) participant.identity x.state talks.stage talks.is_up (omega (arith, there.oldest))
      (omega (arith, back.expected)) (few setup brought B base side x y is) (omega (arith, lasts))
      (moves_of x.state.link timed_out tt) in
      record {
        talks = record { stage = on.stage; is_up = on.repeats.is_up };
        ps = packets_of on.emissions;
        line = ap₂ (λ (a b : List ℕ). a ++ b) empty (ap bytes_in on.emitted ∙ bytes_written on.emissions);
        packets = ap (λ (l : List PacketValue). x.log.packets ++ l) (ap packets_in on.emitted ∙ packets_written on.emissions);
        passed = refl;
        taken = refl;
        repeats = on.repeats;
      }

  -- ---- both have waited

  -- the packets that stand on the line from x bring all
  brings_again : (side : Side) (x y a b : LineEndState Count) → B side x y → (u : Waited x a) → Waited y b →
      BringAll a.state.link b.state.link u.ps
  brings_again side x y a b is u z =
      let c = counted_to setup brought B base side x y is in
      let count : ℕ = length y.log.taken - c.acked in
      let within : count ≤ length x.state.link.unacked =
      omega (
        arith,
        c.were_taken,
        c.were_sent,
        c.few,
        c.oldest,
        c.next,
        few setup brought B base side x y is,
        (base.window (other side)).1,
      ) in
      let here : b.state.link.expected ≡ (x.state.link.oldest + count) % 8 =
      omega (arith, z.repeats.expected, c.expected, c.oldest, c.were_taken) in
      ap (expected_behind u.ps) here ∙ u.repeats.brings count within

  coming_again : (side : Side) (x y a b : LineEndState Count) → B side x y → (u : Waited x a) → Waited y b →
      AreComing (as_end a) (as_end b) u.ps
  coming_again side x y a b is u z =
      let passed = (always_passed (at side setup).own (at (other side) setup).own (record { near = as_end x; far = as_end y })
      (base.window side) (base.window (other side)) (base.run side x y is)).1 in
      record {
        before = x.log.packets;
        emitted = u.packets;
        passed = omega (arith, z.passed, passed);
      }

  -- what is outstanding at y stands on its line, if it isn't all known
  all_known : (side : Side) (x y a b : LineEndState Count) → B side x y → (u : Waited x a) → (z : Waited y b) → u.ps ≡ [] →
      ((e : ℕ) → expected_behind z.ps e ≡ e) → TellAll a.state.link b.state.link u.ps
  all_known side x y a b is u z none no_data =
      let c = counted_back setup brought B base side x y is in
      -- the numbers of the oldest and of the next one are the same, so nothing is outstanding
      let start : y.state.link.oldest ≡ (y.state.link.oldest + 0) % 8 = omega (arith, c.oldest) in
      let same : y.state.link.oldest ≡ next_number b.state.link =
      start ∙ sym (no_data ((y.state.link.oldest + 0) % 8)) ∙ z.repeats.brings 0 (omega arith) in
      ap (λ (l : List PacketValue). oldest_behind l b.state.link.oldest) none ∙ z.repeats.oldest
      ∙ omega (
        arith,
        same,
        z.repeats.next,
        c.oldest,
        c.expected,
        c.next,
        c.were_taken,
        c.were_sent,
        c.few,
        (base.window side).1,
        u.repeats.expected,
      )

  tells_again : (side : Side) (x y a b : LineEndState Count) → B side x y → (u : Waited x a) → (z : Waited y b) →
      IsTold unsure a.state.link b.state.link u.ps z.ps
  tells_again side x y a b is u z = by u.repeats.tells (data_or_none z.ps)
    where
      by : TellOldest u.ps a.state.link.expected ⊎ ((u.ps ≡ []) × (x.state.link.unacked ≡ [])) →
          (HasData z.ps ⊎ ((e : ℕ) → expected_behind z.ps e ≡ e)) → IsTold unsure a.state.link b.state.link u.ps z.ps
      by (inl told) data_there = inl (told b.state.link.oldest)
      by (inr none) (inl has) = inr has
      by (inr none) (inr no_data) = inl (all_known side x y a b is u z none.0 no_data)

  pub both_waited : (side : Side) (x y a b : LineEndState Count) → B side x y → (u : Waited x a) → (z : Waited y b) →
      OpenPair unsure unsure a b u.ps z.ps
  both_waited side x y a b is u z =
      let far = base.turned side x y is in
      record {
        x_talks = u.talks;
        y_talks = z.talks;
        out = record { line = u.line; coming = coming_again side x y a b is u z; talk = u.repeats.talk };
        brings = brings_again side x y a b is u z;
        tells = tells_again side x y a b is u z;
        home = record { line = z.line; coming = coming_again (other side) y x b a far z u; talk = z.repeats.talk };
        brings_back = brings_again (other side) y x b a far z u;
        tells_back = tells_again (other side) y x b a far z u;
      }
