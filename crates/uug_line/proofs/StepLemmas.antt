-- What an end does on each event, told by two numbers.
use Rattle.std.proofs.Common.{◌≡◌, ℕ, Bool, false, List, [], ◌++◌, Option, map, refl, sym, ap, subst, ◌∙◌}
use Rattle.uug_link.specs.Announced.{Announced}
use Rattle.uug_link.specs.State.{State, IsFresh}
use Rattle.uug_link.specs.Step.{to_begin, step}
use Rattle.uug_packet.specs.Packet.{PacketValue}
use Rattle.uug_session.specs.declared.end.End.TheVariants as ends
use Rattle.uug_session.specs.declared.greeting.Greeted.{Greeted}
use Rattle.uug_session.specs.declared.greeting.Greeted.TheVariants.{GoesOn, LinkBegins, Ended}
use Rattle.uug_session.specs.declared.greeting.Greeting.{Greeting}
use Rattle.uug_conversation.specs.Count.{Count, count_keeper}
use Rattle.uug_session.specs.EndStep.{EndEffect, EndEvent, text_found, long_text_found, packet_found_whole, broken_found, time_ran_out, line_lost, says_text, EndState, Identity, Stage, hailing, linked, ended, behind_greeting, begins_link, first_link, greeted_so, hailing_step, how_it_ends, linked_step, packets, stage_step, unmoved}
use Rattle.uug_session.specs.Greeting.{GreetingStep, long_text_came, number_by, text_came, timed_out}
use Rattle.uug_conversation.specs.Holdings.{Holdings}
use Rattle.uug_conversation.specs.DialogueState.{end_keeper}
use Rattle.uug_conversation.specs.declared.side.Side.{Side}
use Rattle.uug_conversation.specs.declared.side.Side.TheVariants.{Caller, Called}
use Rattle.uug_conversation.specs.View.{Seen}
use Rattle.uug_line.proofs.AnswerLemmas.{Heard, bad_alike, late_alike, packet_alike, quiet_count}
use Rattle.uug_line.proofs.World.Invariant.{DoesAlike, HailsFresh, IsInvariant, moved}
use Rattle.uug_line.proofs.World.Joining.{Moment}
use Rattle.uug_line.proofs.World.MomentLemmas.{count, emits, emits_nothing, emits_texts, emits_texts_first}
use Rattle.uug_line.proofs.SpeakLemmas.{ended_hails_not, linked_hails_not}
use Rattle.uug_line.proofs.World.Steps.{IsNoPacket}
use Rattle.uug_link.proofs.OutcomeLemmas.{firsts_of}

-- an end at that stage
abbrev at_stage : {C : Type 0} → (number : Option ℕ) → Stage → State → C → EndState C
at_stage number stage link c = record { stage = stage; link = link; keeper = c; number = number }

-- it is so, and says these texts
abbrev only_says : {C : Type 0} → List (List ℕ) → EndState C → EndEffect C
only_says texts e = record { state = e; emitted = map says_text texts; took = false }

-- a caller's link to which nothing has happened
fresh_first : (own : Announced) (link : State) → link ≡ first_link Caller own → IsFresh link
fresh_first own link at = subst IsFresh (sym at) refl

module _ (me : Side) (h : Holdings) (v : List Seen) (J : Moment → Type 0)
    (IsThere : Moment → PacketValue → ℕ → Type 0) (is : IsInvariant me h v J IsThere) (own : Announced) (name peer : List ℕ) where
  abbrev who : Identity
  who = record { side = me; me = name; peer = peer }

  -- ---- nothing happens to the link and to what is kept, whatever texts go out

  says_alike : (number : Option ℕ) (m : Moment) (stage : Stage) (texts : List (List ℕ)) → J m → HailsFresh (first_link me own) stage m.link →
      DoesAlike J (first_link me own) m (only_says texts (at_stage number stage m.link m.talk))
      (only_says texts (at_stage number stage m.link (count m)))
  says_alike number m stage texts j hails =
      let same : m ≡ emits m (map says_text texts) m.link m.talk =
      sym (emits_texts m texts m.link m.talk ∙ emits_nothing m) in
      record {
        holds = subst J same j;
        same = ap (λ (z : Moment). only_says texts (at_stage number stage m.link (count z))) same;
        hails = hails;
      }

  unmoved_alike : (number : Option ℕ) (m : Moment) (stage : Stage) → J m → HailsFresh (first_link me own) stage m.link →
      DoesAlike J (first_link me own) m (unmoved (at_stage number stage m.link m.talk)) (unmoved (at_stage number stage m.link (count m)))
  unmoved_alike number m stage j hails = says_alike number m stage [] j hails

  -- ---- the greeting

  -- the caller begins the link, to which nothing has happened
  begins_alike : (number : Option ℕ) (m : Moment) (texts : List (List ℕ)) → J m → IsFresh m.link →
      DoesAlike J (first_link me own) m (begins_link number Caller m.link m.talk (map says_text texts))
      (begins_link number Caller m.link (count m) (map says_text texts))
  begins_alike number m texts j fresh =
      let e = step m.link to_begin in
      let same : moved m to_begin m.talk ≡ emits m (map says_text texts ++ packets e.emitted) e.state m.talk =
      sym (emits_texts_first m texts (packets e.emitted) e.state m.talk) in
      record {
        holds = subst J same (is.begins m j fresh);
        same = ap (λ (c : Count). record {
          state = at_stage number linked e.state c;
          emitted = map says_text texts ++ packets e.emitted;
          took = false;
        }) (quiet_count m to_begin (firsts_of m.link to_begin) ∙ ap count same);
        hails = linked_hails_not (first_link me own) e.state;
      }

  link_begins_alike : (number : Option ℕ) (m : Moment) (side : Side) (texts : List (List ℕ)) → J m → m.link ≡ first_link side own →
      DoesAlike J (first_link me own) m (begins_link number side m.link m.talk (map says_text texts))
      (begins_link number side m.link (count m) (map says_text texts))
  link_begins_alike number m Caller texts j at = begins_alike number m texts j (fresh_first own m.link at)
  link_begins_alike number m Called texts j at = says_alike number m linked texts j (linked_hails_not (first_link me own) m.link)

  greeted_alike : (number : Option ℕ) (m : Moment) (greeted : Greeted) (texts : List (List ℕ)) → J m → m.link ≡ first_link me own →
      DoesAlike J (first_link me own) m (greeted_so number who greeted (map says_text texts) m.link m.talk)
      (greeted_so number who greeted (map says_text texts) m.link (count m))
  greeted_alike number m (GoesOn g) texts j at = says_alike number m (hailing g) texts j (λ other_g is. at)
  greeted_alike number m LinkBegins texts j at = link_begins_alike number m me texts j at
  greeted_alike number m (Ended how) texts j at = says_alike number m (ended how) texts j (ended_hails_not (first_link me own) m.link how)

  behind_greeting_alike : (number : Option ℕ) (m : Moment) (g : GreetingStep) → J m → m.link ≡ first_link me own →
      DoesAlike J (first_link me own) m (behind_greeting number who g m.link m.talk) (behind_greeting number who g m.link (count m))
  behind_greeting_alike number m g j at = greeted_alike (number_by g.rises number) m g.greeted g.says j at

  hailing_alike : (number : Option ℕ) (m : Moment) (g : Greeting) (event : EndEvent) → J m → m.link ≡ first_link me own →
      DoesAlike J (first_link me own) m (hailing_step who g event (at_stage number (hailing g) m.link m.talk))
      (hailing_step who g event (at_stage number (hailing g) m.link (count m)))
  hailing_alike number m g (text_found text) j at = behind_greeting_alike number m (text_came name peer number g text) j at
  hailing_alike number m g long_text_found j at = behind_greeting_alike number m long_text_came j at
  hailing_alike number m g time_ran_out j at = behind_greeting_alike number m (timed_out g) j at
  hailing_alike number m g line_lost j at = greeted_alike number m (Ended ends.HungUp) [] j at
  hailing_alike number m g (packet_found_whole device_failed p) j at = unmoved_alike number m (hailing g) j (λ other_g is. at)
  hailing_alike number m g broken_found j at = unmoved_alike number m (hailing g) j (λ other_g is. at)

  -- ---- behind it

  lost_alike : (number : Option ℕ) (m : Moment) (parted also_parted : Bool) → parted ≡ also_parted → J m →
      DoesAlike J (first_link me own) m (greeted_so number who (Ended (how_it_ends parted ends.HungUp)) [] m.link m.talk)
      (greeted_so number who (Ended (how_it_ends also_parted ends.HungUp)) [] m.link (count m))
  lost_alike number m parted also_parted agree j =
      subst (λ (b : Bool). DoesAlike J (first_link me own) m
      (greeted_so number who (Ended (how_it_ends parted ends.HungUp)) [] m.link m.talk)
      (greeted_so number who (Ended (how_it_ends b ends.HungUp)) [] m.link (count m))) agree
      (says_alike number m (ended (how_it_ends parted ends.HungUp)) [] j
      (ended_hails_not (first_link me own) m.link (how_it_ends parted ends.HungUp)))

  linked_alike : (number : Option ℕ) (m : Moment) (event : EndEvent) → IsNoPacket event → J m →
      DoesAlike J (first_link me own) m (linked_step (end_keeper me h) who event (at_stage number linked m.link m.talk))
      (linked_step (count_keeper v) who event (at_stage number linked m.link (count m)))
  linked_alike number m broken_found none j = bad_alike me h v J IsThere is (first_link me own) who number m j
  linked_alike number m time_ran_out none j = late_alike me h v J IsThere is (first_link me own) who number m j
  linked_alike number m line_lost none j =
      lost_alike number m ((end_keeper me h).has_parted m.talk) ((count_keeper v).has_parted (count m)) (is.parted m j) j
  linked_alike number m (text_found text) none j = unmoved_alike number m linked j (linked_hails_not (first_link me own) m.link)
  linked_alike number m long_text_found none j = unmoved_alike number m linked j (linked_hails_not (first_link me own) m.link)
  linked_alike number m (packet_found_whole device_failed p) none j = absurd none

  -- ---- any event but a packet, at any stage

  pub step_alike : (number : Option ℕ) (m : Moment) (stage : Stage) (event : EndEvent) → IsNoPacket event → J m →
      HailsFresh (first_link me own) stage m.link →
      DoesAlike J (first_link me own) m (stage_step (end_keeper me h) who stage event (at_stage number stage m.link m.talk))
      (stage_step (count_keeper v) who stage event (at_stage number stage m.link (count m)))
  step_alike number m (hailing g) event none j hails = hailing_alike number m g event j (hails g refl)
  step_alike number m linked event none j hails = linked_alike number m event none j
  step_alike number m (ended how) event none j hails = unmoved_alike number m (ended how) j (ended_hails_not (first_link me own) m.link how)

  -- ---- a packet of the other end

  abbrev HeardAt : (number : Option ℕ) (m : Moment) (p : PacketValue) (place : ℕ) (stage : Stage) → Type 0
  HeardAt number m p place stage = Heard J (first_link me own) m p place
      (stage_step (end_keeper me h) who stage (packet_found_whole false p) (at_stage number stage m.link m.talk))
      (stage_step (count_keeper v) who stage (packet_found_whole false p) (at_stage number stage m.link (count m)))

  -- which is found on its link alone
  pub packet_step_alike : (number : Option ℕ) (m : Moment) (p : PacketValue) (place : ℕ) (stage : Stage) → stage ≡ linked → IsThere m p place →
      J m → HeardAt number m p place stage
  packet_step_alike number m p place stage on_link there j =
      subst (λ (s : Stage). HeardAt number m p place s) (sym on_link)
      (packet_alike me h v J IsThere is (first_link me own) who number m p place j there)
