-- What an end says while there is room, told by two numbers.
use Rattle.std.proofs.Common.{◌≡◌, ℕ, zero, suc, Bool, true, false, nat_lt, List, [], ◌∷◌, length, Option, Some, None, if◌then◌else◌, refl, sym, ap, subst, ◌∙◌, true≢false}
use Rattle.uug_link.specs.declared.phase.Phase.{Phase}
use Rattle.uug_link.specs.declared.phase.Phase.TheVariants as phases
use Rattle.uug_link.specs.State.{State, IsUp, is_halted}
use Rattle.uug_link.specs.Step.{Effect, Emission, answers_halted, on_send, to_send, step}
use Rattle.uug_packet.specs.Packet.{PacketValue}
use Rattle.uug_conversation.specs.Count.{Count, count_keeper}
use Rattle.uug_session.specs.EndStep.{Sending, has_room, in_front, is_up, packets, sending_nothing, sends_by, sends_next, sends_up_to}
use Rattle.uug_conversation.specs.Holdings.{Holdings}
use Rattle.uug_conversation.specs.Keeper.{Keeper}
use Rattle.uug_conversation.specs.DialogueState.{DialogueState, end_keeper}
use Rattle.uug_conversation.specs.declared.side.Side.{Side}
use Rattle.uug_conversation.specs.View.{Seen}
use Rattle.uug_line.specs.LineEndState.{messages_sent}
use Rattle.uug_line.proofs.World.Invariant.{IsInvariant, SendsAlike, counted_sending, moved, sent_all}
use Rattle.uug_line.proofs.World.Joining.{Moment}
use Rattle.uug_line.proofs.World.MomentLemmas.{count, emits, emits_more_packets, emits_nothing, length_sent}
use Rattle.uug_link.proofs.OutcomeLemmas.{send_phase}
use Rattle.uug_session.proofs.StepKeeps.{sends_so}

-- ---- a link that is up

pub up_by : (phase : Phase) → is_up phase ≡ true → phase ≡ phases.Up
up_by phases.Up h = refl
up_by phases.Fresh h = absurd (true≢false (sym h))
up_by phases.AwaitsInitA h = absurd (true≢false (sym h))
up_by phases.AwaitsInitB h = absurd (true≢false (sym h))
up_by phases.AwaitsInitC h = absurd (true≢false (sym h))
up_by phases.Closing h = absurd (true≢false (sym h))
up_by phases.Halted h = absurd (true≢false (sym h))

room_by : (t b : Bool) → (if t then b else false) ≡ true → t ≡ true
room_by true b h = refl
room_by false b h = absurd (true≢false (sym h))

pub up_with_room : (s : State) → has_room s ≡ true → IsUp s
up_with_room s h = up_by s.phase (room_by (is_up s.phase) (nat_lt (length s.unacked) s.window) h)

if_runs : (t : Bool) (s : State) (y : Effect) → t ≡ false → (if t then answers_halted s else y) ≡ y
if_runs true s y h = absurd (true≢false h)
if_runs false s y h = refl

-- it sends the message that it is given
pub sends_it : (s : State) (message : List ℕ) → IsUp s → messages_sent (packets (step s (to_send message)).emitted) ≡ message ∷ []
sends_it s message h =
    ap (λ (e : Effect). messages_sent (packets e.emitted))
    (if_runs (is_halted s.phase) s (on_send message s) (ap is_halted h))

-- and stays up
pub sends_stays_up : {C : Type 0} → (n : ℕ) (k : Keeper C) (s : State) (c : C) → IsUp s → IsUp (sends_up_to n k s c).link
sends_stays_up n k s c h =
    sends_so k (λ s c. IsUp s) (λ x. IsUp x.link) (λ s c h. h) (λ s c message room next h. (send_phase s message h, λ x stays. stays)) n s c h

-- ---- one message after the other

pub nothing_alike : (J : Moment → Type 0) (m : Moment) → J m →
    SendsAlike J m (sending_nothing m.link m.talk) (sending_nothing m.link (count m))
nothing_alike J m j = record {
  holds = subst J (sym (emits_nothing m)) j;
  same = ap (λ (z : Moment). record { link = m.link; keeper = count z; emissions = [] }) (sym (emits_nothing m));
}

-- behind what was emitted before
behind_alike : (J : Moment → Type 0) (m : Moment) (es : List Emission) (link : State) (talk : DialogueState) (x : Sending DialogueState)
    (y : Sending Count) → SendsAlike J (emits m (packets es) link talk) x y → SendsAlike J m (in_front es x) (in_front es y)
behind_alike J m es link talk x y alike =
    let all : sent_all (emits m (packets es) link talk) x ≡ sent_all m (in_front es x) =
    emits_more_packets m es x.emissions link x.link talk x.keeper in
    record {
      holds = subst J all alike.holds;
      same = ap (λ (z : Sending Count). in_front es z) alike.same
          ∙ ap (λ (z : Moment). counted_sending z (in_front es x)) all;
    }

-- a message more was sent
sent_count : (me : Side) (h : Holdings) (v : List Seen) (m : Moment) (message : List ℕ) → IsUp m.link →
    (count_keeper v).sent (count m) ≡ count (moved m (to_send message) ((end_keeper me h).sent m.talk))
sent_count me h v m message up =
    ap (λ (n : ℕ). record { opened = m.talk.opened; sent = n; taken = length m.taken })
    (sym (length_sent m.sent (step m.link (to_send message)).emitted message (sends_it m.link message up)))

module _ (me : Side) (h : Holdings) (v : List Seen) (J : Moment → Type 0) (IsThere : Moment → PacketValue → ℕ → Type 0)
    (is : IsInvariant me h v J IsThere) where
  -- what so many messages do
  abbrev AlwaysAlike : ℕ → Type 0
  AlwaysAlike n = (m : Moment) → J m →
      SendsAlike J m (sends_up_to n (end_keeper me h) m.link m.talk) (sends_up_to n (count_keeper v) m.link (count m))

  next_alike : (n : ℕ) → AlwaysAlike n → (m : Moment) → J m → has_room m.link ≡ true →
      (o : Option (List ℕ)) → (end_keeper me h).next m.talk ≡ o →
      SendsAlike J m (sends_next (sends_up_to n (end_keeper me h)) (end_keeper me h) o m.link m.talk)
      (sends_next (sends_up_to n (count_keeper v)) (count_keeper v) o m.link (count m))
  next_alike n more m j room None eq = nothing_alike J m j
  next_alike n more m j room (Some message) eq =
      let e = step m.link (to_send message) in
      let talk = (end_keeper me h).sent m.talk in
      let then_m = moved m (to_send message) talk in
      subst (λ (c : Count). SendsAlike J m (in_front e.emitted (sends_up_to n (end_keeper me h) e.state talk))
      (in_front e.emitted (sends_up_to n (count_keeper v) e.state c)))
      (sym (sent_count me h v m message (up_with_room m.link room)))
      (behind_alike J m e.emitted e.state talk (sends_up_to n (end_keeper me h) e.state talk)
      (sends_up_to n (count_keeper v) e.state (count then_m)) (more then_m (is.sends m message j room eq)))

  room_alike : (n : ℕ) → AlwaysAlike n → (m : Moment) → J m → (room : Bool) → has_room m.link ≡ room →
      SendsAlike J m (sends_by room (sends_up_to n (end_keeper me h)) (end_keeper me h) m.link m.talk)
      (sends_by room (sends_up_to n (count_keeper v)) (count_keeper v) m.link (count m))
  room_alike n more m j false eq = nothing_alike J m j
  room_alike n more m j true eq =
      subst (λ (o : Option (List ℕ)). SendsAlike J m
      (sends_next (sends_up_to n (end_keeper me h)) (end_keeper me h) ((end_keeper me h).next m.talk) m.link m.talk)
      (sends_next (sends_up_to n (count_keeper v)) (count_keeper v) o m.link (count m)))
      (is.next m j) (next_alike n more m j eq ((end_keeper me h).next m.talk) refl)

  pub sends_alike : (n : ℕ) → AlwaysAlike n
  sends_alike zero m j = nothing_alike J m j
  sends_alike (suc n) m j = room_alike n (sends_alike n) m j (has_room m.link) refl
