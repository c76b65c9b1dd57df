-- What an end does by its link's answer, told by two numbers.
use Rattle.std.proofs.Common.{◌≡◌, ℕ, suc, Bool, true, false, List, [], ◌∷◌, ◌++◌, Option, length, refl, sym, ap, subst, ◌∙◌, arith, true≢false}
use Rattle.std.proofs.lemmas.List.{length-append}
use Rattle.uug_link.specs.Outcomes.{MayAnswer, MovesPhase, NoneIsFirst}
use Rattle.uug_link.specs.State.{State}
use Rattle.uug_link.specs.Step.{Event, OutcomeValue, nothing, up, taken, closed, gave_up, halted, bad_found, packet_found, timed_out, step}
use Rattle.uug_link.specs.Terms.{size_of_code}
use Rattle.uug_link.specs.TwoLinks.{taken_by}
use Rattle.uug_packet.specs.Packet.{PacketValue, control, carry}
use Rattle.uug_session.specs.declared.end.End.TheVariants as ends
use Rattle.uug_conversation.specs.Count.{Count, count_keeper}
use Rattle.uug_session.specs.EndStep.{EndEffect, Identity, bad_came, behind_link, late, late_link, message_of, packet_came, talks_by, measure_of}
use Rattle.uug_conversation.specs.Holdings.{Holdings}
use Rattle.uug_conversation.specs.DialogueState.{DialogueState, end_keeper}
use Rattle.uug_conversation.specs.declared.side.Side.{Side}
use Rattle.uug_conversation.specs.View.{Seen}
use Rattle.uug_line.proofs.World.Invariant.{DoesAlike, IsInvariant, answer_to, found, heard_by, moved}
use Rattle.uug_line.proofs.World.Joining.{Moment}
use Rattle.uug_line.proofs.World.MomentLemmas.{count, count_silent, none_sent}
use Rattle.uug_line.proofs.SpeakLemmas.{ends_alike, goes_on_alike, stays_alike}
use Rattle.uug_link.proofs.OutcomeLemmas.{answers_of, moves_of, firsts_of}

-- ---- what is written down

-- an event by which no message goes out for the first time
pub quiet_count : (m : Moment) (event : Event) → NoneIsFirst (step m.link event).emitted →
    count m ≡ count (moved m event m.talk)
quiet_count m event none =
    sym (count_silent m (step m.link event).emitted (step m.link event).state (none_sent (step m.link event).emitted none))

-- a message is taken of a data packet alone
pub taken_message : (p : PacketValue) (messages : List (List ℕ)) → MayAnswer taken (packet_found p) →
    taken_by taken (packet_found p) messages ≡ messages ++ message_of p ∷ []
taken_message (carry seq ack k message) messages may = refl
taken_message (control c) messages may = absurd may

one_more : (messages : List (List ℕ)) (message : List ℕ) → suc (length messages) ≡ length (messages ++ message ∷ [])
one_more messages message = omega (arith, length-append messages (message ∷ []))

-- by whether the message is taken
abbrev pub taken_if : Bool → (message : List ℕ) → List (List ℕ) → List (List ℕ)
taken_if false message messages = messages
taken_if true message messages = messages ++ message ∷ []

-- what an end does that has found a packet, told by numbers
abbrev pub Heard : (J : Moment → Type 0) (first : State) (m : Moment) (p : PacketValue) (place : ℕ) (x : EndEffect DialogueState)
    (y : EndEffect Count) → Type 0
Heard J first m p place x y = DoesAlike J first (found m place (taken_if x.took (message_of p) m.taken)) x y

module _ (me : Side) (h : Holdings) (v : List Seen) (J : Moment → Type 0)
    (IsThere : Moment → PacketValue → ℕ → Type 0) (is : IsInvariant me h v J IsThere) (first : State) (id : Identity) where
  -- ---- a broken packet, or a timeout

  bad_by : (number : Option ℕ) (m : Moment) → J m → (o : OutcomeValue) → MayAnswer o bad_found → J (moved m bad_found m.talk) →
      DoesAlike J first m (behind_link number (end_keeper me h) id false o (step m.link bad_found) [] m.talk)
      (behind_link number (count_keeper v) id false o (step m.link bad_found) [] (count m))
  bad_by number m j nothing may then_j =
      goes_on_alike number me h v J IsThere is first m false (step m.link bad_found) m.talk (count m) then_j
      (quiet_count m bad_found (firsts_of m.link bad_found))
  bad_by number m j halted may then_j =
      goes_on_alike number me h v J IsThere is first m false (step m.link bad_found) m.talk (count m) then_j
      (quiet_count m bad_found (firsts_of m.link bad_found))
  bad_by number m j up may then_j = absurd may
  bad_by number m j taken may then_j = absurd may
  bad_by number m j closed may then_j = absurd may
  bad_by number m j gave_up may then_j = absurd may

  pub bad_alike : (number : Option ℕ) (m : Moment) → J m →
      DoesAlike J first m (bad_came number (end_keeper me h) id m.link m.talk) (bad_came number (count_keeper v) id m.link (count m))
  bad_alike number m j =
      bad_by number m j (step m.link bad_found).outcome (answers_of m.link bad_found) (is.finds_bad m j)

  late_by : (number : Option ℕ) (m : Moment) → J m → (parted also_parted : Bool) → parted ≡ also_parted → (o : OutcomeValue) →
      J (moved m timed_out m.talk) →
      DoesAlike J first m (late_link number id parted o (step m.link timed_out) m.talk)
      (late_link number id also_parted o (step m.link timed_out) (count m))
  late_by number m j parted also_parted agree gave_up then_j =
      ends_alike number J first id m parted also_parted ends.GaveUp (step m.link timed_out) m.talk (count m) false agree then_j
      (quiet_count m timed_out (firsts_of m.link timed_out))
  late_by number m j parted also_parted agree _ then_j =
      stays_alike number J first m (step m.link timed_out) m.talk (count m) then_j
      (quiet_count m timed_out (firsts_of m.link timed_out))

  pub late_alike : (number : Option ℕ) (m : Moment) → J m →
      DoesAlike J first m (late number id ((end_keeper me h).has_parted m.talk) m.link m.talk)
      (late number id ((count_keeper v).has_parted (count m)) m.link (count m))
  late_alike number m j =
      late_by number m j ((end_keeper me h).has_parted m.talk) ((count_keeper v).has_parted (count m)) (is.parted m j)
      (step m.link timed_out).outcome (is.times_out m j)

  -- ---- a packet

  -- the message fitted its turn
  talks_alike : (number : Option ℕ) (m : Moment) (p : PacketValue) (place : ℕ) (bad : Bool) → bad ≡ false →
      J (heard_by (end_keeper me h) m p place taken) → MayAnswer taken (packet_found p) → m.talk.opened ≡ true →
      Heard J first m p place
      (talks_by number bad (end_keeper me h) id (step m.link (packet_found p)) m.talk ((end_keeper me h).taking (message_of p) m.talk))
      (talks_by number false (count_keeper v) id (step m.link (packet_found p)) (count m)
      ((count_keeper v).taking (message_of p) (count m)))
  talks_alike number m p place true good then_j may opened = absurd (true≢false good)
  talks_alike number m p place false good then_j may opened =
      let talk = (end_keeper me h).taking (message_of p) m.talk in
      let at : List (List ℕ) → Moment = λ messages. found m place messages in
      goes_on_alike number me h v J IsThere is first (at (m.taken ++ message_of p ∷ [])) true (step m.link (packet_found p)) talk
      ((count_keeper v).taking (message_of p) (count m))
      (subst (λ (l : List (List ℕ)). J (moved (at l) (packet_found p) talk)) (taken_message p m.taken may) then_j)
      (ap (λ (b : Bool). record { opened = b; sent = length m.sent; taken = suc (length m.taken) }) opened
      ∙ ap (λ (n : ℕ). record { opened = true; sent = length m.sent; taken = n }) (one_more m.taken (message_of p))
      ∙ ap (λ (n : ℕ). record { opened = true; sent = n; taken = length (m.taken ++ message_of p ∷ []) })
      (ap (λ (c : Count). c.sent) (quiet_count m (packet_found p) (firsts_of m.link (packet_found p)))))

  packet_by : (number : Option ℕ) (m : Moment) (p : PacketValue) (place : ℕ) → J m → (o : OutcomeValue) → MayAnswer o (packet_found p) →
      MovesPhase o m.link.phase (step m.link (packet_found p)).state.phase →
      J (heard_by (end_keeper me h) m p place o) →
      Heard J first m p place (behind_link number (end_keeper me h) id false o (step m.link (packet_found p)) (message_of p) m.talk)
      (behind_link number (count_keeper v) id false o (step m.link (packet_found p)) (message_of p) (count m))
  packet_by number m p place j nothing may moves then_j =
      goes_on_alike number me h v J IsThere is first (found m place m.taken) false (step m.link (packet_found p)) m.talk (count m)
      then_j
      (quiet_count (found m place m.taken) (packet_found p) (firsts_of m.link (packet_found p)))
  packet_by number m p place j halted may moves then_j =
      goes_on_alike number me h v J IsThere is first (found m place m.taken) false (step m.link (packet_found p)) m.talk (count m)
      then_j
      (quiet_count (found m place m.taken) (packet_found p) (firsts_of m.link (packet_found p)))
  packet_by number m p place j up may moves then_j =
      goes_on_alike number me h v J IsThere is first (found m place m.taken) false (step m.link (packet_found p))
      (heard_by (end_keeper me h) m p place up).talk
      ((count_keeper v).opened (measure_of (step m.link (packet_found p)).state) (count m)) then_j
      (ap (λ (c : Count). record { opened = true; sent = c.sent; taken = c.taken })
      (quiet_count (found m place m.taken) (packet_found p) (firsts_of m.link (packet_found p))))
  packet_by number m p place j taken may moves then_j =
      let then_m = heard_by (end_keeper me h) m p place taken in
      talks_alike number m p place ((end_keeper me h).is_bad then_m.talk) (is.good then_m then_j) then_j may
      (is.opened m j moves.0)
  packet_by number m p place j closed may moves then_j =
      ends_alike number J first id (found m place m.taken) ((end_keeper me h).has_parted m.talk)
      ((count_keeper v).has_parted (count m)) ends.PeerClosed (step m.link (packet_found p)) m.talk (count m) false
      (is.parted m j) then_j
      (quiet_count (found m place m.taken) (packet_found p) (firsts_of m.link (packet_found p)))
  packet_by number m p place j gave_up may moves then_j = absurd may

  pub packet_alike : (number : Option ℕ) (m : Moment) (p : PacketValue) (place : ℕ) → J m → IsThere m p place →
      Heard J first m p place (packet_came number (end_keeper me h) id false p m.link m.talk)
      (packet_came number (count_keeper v) id false p m.link (count m))
  packet_alike number m p place j there =
      packet_by number m p place j (answer_to m p) (answers_of m.link (packet_found p))
      (moves_of m.link (packet_found p) tt) (is.hears m p place j there)
