-- The two ends of a session in a run, told by numbers: what a clean line needs to know of them holds.
use Rattle.std.proofs.Common.{◌≡◌, inl, inr, ℕ, ◌≤◌, true, false, All, List, length, take, Some, refl, ap, sym, subst, ◌∙◌}
use Rattle.uug_conversation.specs.Turns.{other}
use Rattle.uug_link.specs.Announced.{Announced}
use Rattle.uug_link.specs.Arrivals.{place_of}
use Rattle.uug_link.specs.InRange.{IsAnnouncement}
use Rattle.uug_link.specs.State.{State, IsUp}
use Rattle.uug_link.specs.TwoLinks.{IsRun}
use Rattle.uug_packet.specs.Packet.{PacketValue}
use Rattle.uug_packet.specs.WellFormed.{IsWellFormed}
use Rattle.uug_conversation.specs.Count.{Count, count_keeper}
use Rattle.uug_session.specs.EndStep.{Stage, hailing, linked, ended, time_ran_out}
use Rattle.uug_session.specs.Sending.{GoesOnAt, SaidAt}
use Rattle.uug_conversation.specs.DialogueState.{DialogueState, end_keeper}
use Rattle.uug_session.specs.TwoEnds.{Two}
use Rattle.uug_conversation.specs.View.{floor, others_messages}
use Rattle.uug_conversation.specs.declared.side.Side.{Side}
use Rattle.uug_conversation.specs.declared.side.Side.TheVariants.{Caller, Called}
use Rattle.uug_line.specs.Belongings.{Belongings, SetupValue, party}
use Rattle.uug_line.specs.LineEndState.{LineEndState, does}
use Rattle.uug_conversation.specs.Sides.{AtBoth, at}
use Rattle.uug_line.specs.Speaking.{HasSpoken}
use Rattle.uug_line.specs.Taking.{packet_taken_up}
use Rattle.uug_line.specs.World.{count_of, counted_end}
use Rattle.uug_line.proofs.World.AgreementLemmas.{is_invariant}
use Rattle.uug_line.proofs.Clean.Base.{Base, as_end, seen, with_line}
use Rattle.uug_line.proofs.World.Joining.{EndsJoined, IsSoundSession, moment_of}
use Rattle.uug_line.proofs.World.JoinedSteps.{steps}
use Rattle.uug_line.proofs.LinkLemmas.{links_run}
use Rattle.uug_line.proofs.World.Steps.{Steps, count_player, talk_player}
use Rattle.uug_line.proofs.World.TalkLemmas.{IsToldAt, talker_at, told_at}
use Rattle.uug_link.proofs.TwoLinksRuns.{owns}
use Rattle.uug_link.proofs.WrittenRuns.{always_written}

-- the ends themselves are joined
pub data IsPair (setup : SetupValue) (brought : AtBoth Belongings) : Side → LineEndState Count → LineEndState Count → Type 0 where
  pair : (side : Side) (e f : LineEndState DialogueState) → EndsJoined setup brought side e f →
      IsPair setup brought side (counted_end e) (counted_end f)

-- ---- what is said of the ends themselves is said by numbers

said_by_numbers : (side : Side) (setup : SetupValue) (brought : AtBoth Belongings) (stage : Stage) (s : State) (talk : DialogueState)
    (count : Count) →
    (end_keeper side (party setup brought side).holdings).next talk ≡ (count_keeper (seen setup brought side)).next count →
    SaidAt (end_keeper side (party setup brought side).holdings) stage s talk →
    SaidAt (count_keeper (seen setup brought side)) stage s count
said_by_numbers side setup brought (hailing greeting) s talk count same said = said
said_by_numbers side setup brought linked s talk count same (inl full) = inl full
said_by_numbers side setup brought linked s talk count same (inr none) = inr (sym same ∙ none)
said_by_numbers side setup brought (ended how) s talk count same said = said

goes_on_by_numbers : (side : Side) (setup : SetupValue) (brought : AtBoth Belongings) (stage : Stage) (s : State) (talk : DialogueState)
    (count : Count) →
    (end_keeper side (party setup brought side).holdings).is_over talk ≡ (count_keeper (seen setup brought side)).is_over count →
    GoesOnAt (end_keeper side (party setup brought side).holdings) stage s talk →
    GoesOnAt (count_keeper (seen setup brought side)) stage s count
goes_on_by_numbers side setup brought (hailing greeting) s talk count same goes = goes
goes_on_by_numbers side setup brought linked s talk count same goes = λ live. sym same ∙ goes live
goes_on_by_numbers side setup brought (ended how) s talk count same goes = goes

-- the bytes on a line join and part nothing
relined_joined : (setup : SetupValue) (brought : AtBoth Belongings) (side : Side) (line : List ℕ) (e f : LineEndState DialogueState) →
    EndsJoined setup brought side e f →
    EndsJoined setup brought side (record { state = e.state; log = e.log; line = line }) f
relined_joined setup brought side line e f j = record {
  joined = j.joined;
  near_hails = j.near_hails;
  far_hails = j.far_hails;
  near_most = j.near_most;
  far_most = j.far_most;
  near_passed = j.near_passed;
  far_passed = j.far_passed;
  near_spoken = j.near_spoken;
  far_spoken = j.far_spoken;
}

module _ (setup : SetupValue) (brought : AtBoth Belongings) (sound : IsSoundSession setup brought)
    (announces : (side : Side) → IsAnnouncement (at side setup).own) where
  abbrev Pair : Side → LineEndState Count → LineEndState Count → Type 0
  Pair = IsPair setup brought

  all_steps : Steps setup brought
  all_steps = steps setup brought sound

  pub pair_turned : (side : Side) (x y : LineEndState Count) → Pair side x y → Pair (other side) y x
  pair_turned side x y (pair s e f joined) = pair (other s) f e (all_steps.turned s e f joined)

  pair_turned_back : (side : Side) (x y : LineEndState Count) → Pair (other side) x y → Pair side y x
  pair_turned_back Caller x y is = pair_turned Called x y is
  pair_turned_back Called x y is = pair_turned Caller x y is

  pair_relined : (side : Side) (line : List ℕ) (x y : LineEndState Count) → Pair side x y → Pair side (with_line line x) y
  pair_relined side line x y (pair s e f joined) =
      pair s (record { state = e.state; log = e.log; line = line }) f (relined_joined setup brought s line e f joined)

  pair_hears : (side : Side) (p : PacketValue) (place : ℕ) (x y : LineEndState Count) → x.state.stage ≡ linked →
      place_of p y.log.packets x.log.passed ≡ Some place → Pair side x y →
      Pair side (packet_taken_up (count_player setup brought side) p place x) y
  pair_hears side p place x y on there (pair s e f joined) =
      subst (λ (z : LineEndState Count). Pair s z (counted_end f)) (all_steps.packet_counted s p place e f on there joined)
      (pair s (packet_taken_up (talk_player setup brought s) p place e) f (all_steps.packet_joined s p place e f on there joined))

  pair_waits : (side : Side) (x y : LineEndState Count) → Pair side x y →
      Pair side (does (count_player setup brought side) time_ran_out x) y
  pair_waits side x y (pair s e f joined) =
      subst (λ (z : LineEndState Count). Pair s z (counted_end f)) (all_steps.does_counted s time_ran_out e f tt joined)
      (pair s (does (talk_player setup brought s) time_ran_out e) f (all_steps.does_joined s time_ran_out e f tt joined))

  pair_run : (side : Side) (x y : LineEndState Count) → Pair side x y →
      IsRun (at side setup).own (at (other side) setup).own (record { near = as_end x; far = as_end y })
  pair_run side x y (pair s e f joined) = links_run setup s (moment_of e) (moment_of f) joined.joined.links

  pair_formed : (side : Side) (x y : LineEndState Count) → Pair side x y → All IsWellFormed x.log.packets
  pair_formed side x y is =
      (always_written (at side setup).own (at (other side) setup).own (record { near = as_end x; far = as_end y })
      (announces side) (announces (other side)) (pair_run side x y is)).0

  pair_opened : (side : Side) (x y : LineEndState Count) → Pair side x y → IsUp x.state.link → x.state.keeper.opened ≡ true
  pair_opened side x y (pair s e f joined) live = joined.joined.near_opened.up live

  pair_sent : (side : Side) (x y : LineEndState Count) → Pair side x y → x.state.keeper.sent ≡ length x.log.sent
  pair_sent side x y (pair s e f joined) = refl

  pair_taken : (side : Side) (x y : LineEndState Count) → Pair side x y → x.state.keeper.taken ≡ length x.log.taken
  pair_taken side x y (pair s e f joined) = refl

  pair_to_floor : (side : Side) (x y : LineEndState Count) → Pair side x y →
      length x.log.sent ≤ floor (length x.log.taken) (seen setup brought side)
  pair_to_floor side x y (pair s e f joined) = all_steps.to_floor s e f joined

  pair_spoken : (side : Side) (x y : LineEndState Count) → Pair side x y → HasSpoken (count_keeper (seen setup brought side)) x.state
  pair_spoken side x y (pair s e f joined) =
      let same = is_invariant setup brought sound s (moment_of f) in
      record {
        said = said_by_numbers s setup brought e.state.stage e.state.link e.state.keeper (count_of e)
            (same.next (moment_of e) joined.joined) joined.near_spoken.said;
        goes_on = goes_on_by_numbers s setup brought e.state.stage e.state.link e.state.keeper (count_of e)
            (same.over (moment_of e) joined.joined) joined.near_spoken.goes_on;
      }

  -- an end is set to what it was set up with
  pub pair_own : (side : Side) (x y : LineEndState Count) → Pair side x y → x.state.link.own ≡ (at side setup).own
  pair_own side x y is =
      (owns (at side setup).own (at (other side) setup).own (record { near = as_end x; far = as_end y })
      (sound.window side) (sound.window (other side)) (pair_run side x y is)).1

  pub base_of_pairs : ((side : Side) → (at side setup).own.quiet ≡ false) → Base setup brought (IsPair setup brought)
  base_of_pairs plain = record {
    turned = pair_turned;
    turned_back = pair_turned_back;
    relined = pair_relined;
    hears = pair_hears;
    waits = pair_waits;
    window = sound.window;
    plain = λ side x y is. ap (λ (a : Announced). a.quiet) (pair_own side x y is) ∙ plain side;
    run = pair_run;
    formed = pair_formed;
    opened = pair_opened;
    sent = pair_sent;
    taken = pair_taken;
    to_floor = pair_to_floor;
    spoken = pair_spoken;
  }

  -- ---- what an end has taken are the first messages of the other one

  taken_told : (side : Side) (two : Two) → IsToldAt setup brought side two → (taken : List (List ℕ)) →
      (talker_at setup brought side two).taken ≡ taken → taken ≡ take (length taken) (others_messages (seen setup brought side))
  taken_told side two told taken is =
      subst (λ (l : List (List ℕ)). l ≡ take (length l) (others_messages (seen setup brought side))) is told.taken_first

  pub taken_first : (side : Side) (x y : LineEndState Count) → Pair side x y →
      x.log.taken ≡ take (length x.log.taken) (others_messages (seen setup brought side))
  taken_first side x y (pair s e f joined) =
      let j = joined.joined in
      taken_told s j.two (told_at setup brought sound s j.two j.reached) e.log.taken j.near_taken
