-- What a round does to two ends where nothing is lost: messages are taken with it until both sessions are done.
use Rattle.std.proofs.Common.{◌≡◌, ◌⊎◌, inl, inr, ℕ, ◌+◌, ◌<◌, ◌≤◌, List, [], length, ap, sym, subst, ◌∙◌, arith}
use Rattle.std.proofs.lemmas.Bool.{cases_lt}
use Rattle.uug_conversation.specs.Turns.{other}
use Rattle.uug_conversation.specs.Count.{Count}
use Rattle.uug_session.specs.EndStep.{EndState}
use Rattle.uug_conversation.specs.View.{Seen, others_messages, own_messages}
use Rattle.uug_packet.specs.Packet.{PacketValue}
use Rattle.uug_conversation.specs.declared.side.Side.{Side}
use Rattle.uug_conversation.specs.declared.side.Side.TheVariants.{Caller, Called}
use Rattle.uug_line.specs.Belongings.{Belongings, SetupValue}
use Rattle.uug_line.specs.LineEndState.{LineEndState}
use Rattle.uug_conversation.specs.Sides.{AtBoth}
use Rattle.uug_line.proofs.Clean.Base.{Base, seen, with_line}
use Rattle.uug_line.proofs.Clean.Counts.{OverAt, all_came, counted_back, floor_within, goes_on, none_outstanding, others_is_own, over_at, stuck}
use Rattle.uug_line.proofs.Clean.Items.{Talks}
use Rattle.uug_line.proofs.Clean.Passes.{Passed}
use Rattle.uug_line.proofs.Clean.Rounds.{DonePair, LeftPair, OpenPair, PassedTo, PassesOpen, ShutPair, done_passes, left_passes, open_passes, shut_passes, turned_done, turned_open}
use Rattle.uug_line.proofs.Clean.Ways.{Certainty, sure}

-- ---- a round: the line from the caller x, then that from the called end y

pub record Stepped (setup : SetupValue) (brought : AtBoth Belongings) (B : Side → LineEndState Count → LineEndState Count → Type 0)
    (x y : LineEndState Count) : Type 0 where
  pub middle : LineEndState Count
  pub first : Passed setup brought B Called (with_line [] x) y middle x.line
  pub last : LineEndState Count
  pub second : Passed setup brought B Caller (with_line [] middle) (with_line [] x) last middle.line

-- the two ends then
abbrev pub called_then : {setup : SetupValue} {brought : AtBoth Belongings} {B : Side → LineEndState Count → LineEndState Count → Type 0}
    {x y : LineEndState Count} → Stepped setup brought B x y → LineEndState Count
called_then s = with_line [] s.middle

-- how many messages both have taken
abbrev pub both_taken : (x y : LineEndState Count) → ℕ
both_taken x y = length x.log.taken + length y.log.taken

abbrev pub both_sent : (x y : LineEndState Count) → ℕ
both_sent x y = length x.log.sent + length y.log.sent

-- nothing of it is lost
pub takes_no_less : (setup : SetupValue) (brought : AtBoth Belongings) (B : Side → LineEndState Count → LineEndState Count → Type 0)
    (x y : LineEndState Count) (s : Stepped setup brought B x y) →
    (both_taken x y ≤ both_taken s.last (called_then s)) × (both_sent x y ≤ both_sent s.last (called_then s))
takes_no_less setup brought B x y s =
    (omega (arith, s.first.taken, s.second.taken), omega (arith, s.first.sent, s.second.sent))

-- Both talk on, in the middle too; or one has closed.
pub data OpenThen (setup : SetupValue) (brought : AtBoth Belongings) (there : Certainty) (x middle last then : LineEndState Count) :
    Type 0 where
  still_open : (qs : List PacketValue) → OpenPair there sure (with_line [] x) middle [] qs → (ps : List PacketValue) →
      OpenPair sure sure last then ps [] → OpenThen setup brought there x middle last then
  caller_shut : ShutPair (seen setup brought Caller) last then → OpenThen setup brought there x middle last then
  caller_left : LeftPair (seen setup brought Caller) (seen setup brought Called) last then →
      OpenThen setup brought there x middle last then

pub record OpenStep (setup : SetupValue) (brought : AtBoth Belongings) (B : Side → LineEndState Count → LineEndState Count → Type 0)
    (there : Certainty) (x y : LineEndState Count) : Type 0 where
  pub stepped : Stepped setup brought B x y
  pub then : OpenThen setup brought there x stepped.middle stepped.last (called_then stepped)

pub record LeftStep (setup : SetupValue) (brought : AtBoth Belongings) (B : Side → LineEndState Count → LineEndState Count → Type 0)
    (x y : LineEndState Count) : Type 0 where
  pub stepped : Stepped setup brought B x y
  pub then : DonePair (seen setup brought Caller) (seen setup brought Called) stepped.last (called_then stepped)

module _ (setup : SetupValue) (brought : AtBoth Belongings) (B : Side → LineEndState Count → LineEndState Count → Type 0)
    (base : Base setup brought B) where
  abbrev v : List Seen
  v = seen setup brought Caller

  abbrev w : List Seen
  w = seen setup brought Called

  -- ---- where both talk

  open_then_open : (there back : Certainty) (x y : LineEndState Count) (ps : List PacketValue)
      (p : PassedTo setup brought B Called x y (PassesOpen setup brought B base Called there x y)) (qs : List PacketValue) →
      OpenPair there sure (with_line [] x) p.then [] qs → OpenStep setup brought B there x y
  open_then_open there back x y ps p qs o = by (q.holds)
    where
      q : PassedTo setup brought B Caller p.then (with_line [] x) (PassesOpen setup brought B base Caller sure p.then (with_line [] x))
      q = open_passes setup brought B base Caller sure there p.then (with_line [] x) qs []
          (base.turned_back Caller p.then (with_line [] x) p.passed.base)
          (turned_open there sure (with_line [] x) p.then [] qs o)

      stepped : Stepped setup brought B x y
      stepped = record { middle = p.then; first = p.passed; last = q.then; second = q.passed }

      by : PassesOpen setup brought B base Caller sure p.then (with_line [] x) q.then → OpenStep setup brought B there x y
      by (inl on) = record {
        stepped = stepped;
        then = still_open qs o on.0 (turned_open sure sure (with_line [] p.then) q.then [] on.0 on.1);
      }
      by (inr shut) = record { stepped = stepped; then = caller_shut shut }

  open_then_left : (there : Certainty) (x y : LineEndState Count)
      (p : PassedTo setup brought B Called x y (PassesOpen setup brought B base Called there x y)) →
      ShutPair w p.then (with_line [] x) → OpenStep setup brought B there x y
  open_then_left there x y p shut =
      let q = shut_passes setup brought B base Caller p.then (with_line [] x)
      (base.turned_back Caller p.then (with_line [] x) p.passed.base) shut in
      record {
        stepped = record { middle = p.then; first = p.passed; last = q.then; second = q.passed };
        then = caller_left q.holds;
      }

  pub round_open : (there back : Certainty) (x y : LineEndState Count) (ps qs : List PacketValue) → B Caller x y →
      OpenPair there back x y ps qs → OpenStep setup brought B there x y
  round_open there back x y ps qs is o = by p.holds
    where
      p : PassedTo setup brought B Called x y (PassesOpen setup brought B base Called there x y)
      p = open_passes setup brought B base Called there back x y ps qs (base.turned Caller x y is) o

      by : PassesOpen setup brought B base Called there x y p.then → OpenStep setup brought B there x y
      by (inl on) = open_then_open there back x y ps p on.0 on.1
      by (inr shut) = open_then_left there x y p shut

  -- ---- where the caller has closed, and then where its session is done

  pub round_shut : (x y : LineEndState Count) → B Caller x y → ShutPair v x y → LeftStep setup brought B x y
  round_shut x y is s =
      let p = shut_passes setup brought B base Called x y (base.turned Caller x y is) s in
      let q = left_passes setup brought B base Caller p.then (with_line [] x)
      (base.turned_back Caller p.then (with_line [] x) p.passed.base) p.holds in
      record {
        stepped = record { middle = p.then; first = p.passed; last = q.then; second = q.passed };
        then = turned_done w v (with_line [] p.then) q.then q.holds;
      }

  pub round_left : (x y : LineEndState Count) → B Caller x y → LeftPair v w x y → LeftStep setup brought B x y
  round_left x y is l =
      let p = left_passes setup brought B base Called x y (base.turned Caller x y is) l in
      let q = done_passes setup brought B base Caller p.then (with_line [] x)
      (base.turned_back Caller p.then (with_line [] x) p.passed.base) (turned_done v w (with_line [] x) p.then p.holds) in
      record {
        stepped = record { middle = p.then; first = p.passed; last = q.then; second = q.passed };
        then = turned_done w v (with_line [] p.then) q.then q.holds;
      }

  -- ---- where all is sure, and nothing stands on the line to the caller, a message is taken

  pub grows : (x y : LineEndState Count) (ps qs more : List PacketValue) (s : Stepped setup brought B x y) → B Caller x y →
      OpenPair sure sure x y ps [] → OpenPair sure sure (with_line [] x) s.middle [] qs →
      OpenPair sure sure s.last (called_then s) more [] → both_taken x y < both_taken s.last (called_then s)
  grows x y ps qs more s is o mid then = by (cases_lt (both_taken x y) (both_taken s.last (called_then s)))
    where
      x0 : LineEndState Count
      x0 = with_line [] x

      y1 : LineEndState Count
      y1 = s.middle

      middle_base : B Caller x0 y1
      middle_base = base.turned_back Caller y1 x0 s.first.base

      y1_took : length y1.log.taken ≡ length x.log.sent
      y1_took = all_came setup brought B base Caller x0 y1 middle_base mid.brings

      x1_took : length s.last.log.taken ≡ length y1.log.sent
      x1_took = all_came setup brought B base Called (called_then s) s.last (base.turned Caller s.last (called_then s) s.second.base)
          then.brings_back

      by : ((both_taken x y < both_taken s.last (called_then s)) ⊎ (both_taken s.last (called_then s) ≤ both_taken x y)) →
          both_taken x y < both_taken s.last (called_then s)
      by (inl grown) = grown
      by (inr not_grown) =
          let y_same : length y.log.taken ≡ length y1.log.taken = omega (arith, not_grown, s.first.taken, s.second.taken) in
          let x_same : length x.log.taken ≡ length s.last.log.taken =
          omega (arith, not_grown, s.first.taken, s.second.taken) in
          let x_none = none_outstanding setup brought B base Caller x y is (y_same ∙ y1_took) o.tells_back in
          let y_none = none_outstanding setup brought B base Called y1 x0 s.first.base (x_same ∙ x1_took) mid.tells in
          absurd (stuck setup brought B base Caller x0 y1 middle_base mid.x_talks mid.y_talks y1_took (x_same ∙ x1_took) x_none y_none)

  -- ---- an end that closes has sent or taken a message since it talked

  pub shut_grows : (x y : LineEndState Count) (s : Stepped setup brought B x y) → B Caller x y → Talks x →
      ShutPair v s.last (called_then s) →
      both_taken x y + both_sent x y < both_taken s.last (called_then s) + both_sent s.last (called_then s)
  shut_grows x y s is talks shut =
      by (cases_lt (length x.log.sent) (length (own_messages v))) (cases_lt (length x.log.taken) (length (others_messages v)))
    where
      c : Count
      c = shut.shutting.count

      counts : s.last.state.keeper ≡ c
      counts = ap (λ (e : EndState Count). e.keeper) shut.shutting.state

      o : OverAt v c
      o = over_at v c shut.shutting.over

      sent : length (own_messages v) ≤ length s.last.log.sent
      sent = subst (λ (n : ℕ). length (own_messages v) ≤ n)
          (sym (ap (λ (z : Count). z.sent) counts) ∙ base.sent Caller s.last (called_then s) s.second.base) o.sent

      took : length (others_messages v) ≤ length s.last.log.taken
      took = subst (λ (n : ℕ). length (others_messages v) ≤ n)
          (sym (ap (λ (z : Count). z.taken) counts) ∙ base.taken Caller s.last (called_then s) s.second.base) o.taken

      by : ((length x.log.sent < length (own_messages v)) ⊎ (length (own_messages v) ≤ length x.log.sent)) →
          ((length x.log.taken < length (others_messages v)) ⊎ (length (others_messages v) ≤ length x.log.taken)) →
          both_taken x y + both_sent x y < both_taken s.last (called_then s) + both_sent s.last (called_then s)
      by (inl fewer) rest = omega (arith, fewer, sent, s.first.sent, s.first.taken, s.second.sent, s.second.taken)
      by (inr all) (inl fewer) = omega (arith, fewer, took, s.first.sent, s.first.taken, s.second.sent, s.second.taken)
      by (inr all) (inr all_too) = absurd (goes_on setup brought B base Caller x y is talks all all_too)

  -- ---- no more is taken than the conversation has

  pub taken_within : (side : Side) (x y : LineEndState Count) → B side x y →
      length x.log.taken ≤ length (others_messages (seen setup brought side))
  taken_within side x y is =
      let back = counted_back setup brought B base side x y is in
      omega (
        arith,
        back.were_sent,
        base.to_floor (other side) y x (base.turned side x y is),
        floor_within (length y.log.taken) (seen setup brought (other side)),
        others_is_own setup brought side,
      )
