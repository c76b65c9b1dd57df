-- Whatever happens at one of two joined ends, they stay joined, where a packet that it found was sent.
use Rattle.std.proofs.Common.{◌≡◌, ◌⊎◌, inl, inr, ℕ, suc, ◌≤◌, max, Bool, true, false, List, [], ◌∷◌, ◌++◌, length, refl, sym, ap, subst, ◌∙◌, append-nil, arith}
use Rattle.std.proofs.lemmas.List.{length-append}
use Rattle.uug_link.specs.Arrivals.{IsPlace}
use Rattle.uug_link.specs.Outcomes.{MayAnswer, MovesPhase}
use Rattle.uug_link.specs.Step.{OutcomeValue, packet_found, taken, step, to_close}
use Rattle.uug_link.specs.TwoLinks.{taken_by}
use Rattle.uug_link.proofs.OutcomeLemmas.{answers_of, firsts_of, moves_of}
use Rattle.uug_packet.specs.Packet.{PacketValue}
use Rattle.uug_conversation.specs.DialogueState.{DialogueState, end_keeper}
use Rattle.uug_conversation.specs.Keeper.{Keeper}
use Rattle.uug_conversation.specs.Sides.{AtBoth, at}
use Rattle.uug_conversation.specs.Turns.{other}
use Rattle.uug_conversation.specs.declared.side.Side.{Side}
use Rattle.uug_session.specs.declared.end.End.TheVariants as ends
use Rattle.uug_session.specs.EndStep.{EndEffect, EndEvent, Emitted, Identity, Stage, hailing, linked, ended, text_found, long_text_found, packet_found_whole, broken_found, time_ran_out, line_lost, end_step, ends_so, first_link, how_it_ends, message_of, packet_came, packets, stage_step, then_closes, unmoved}
use Rattle.uug_line.specs.Belongings.{Belongings, SetupValue, party}
use Rattle.uug_line.specs.LineEndState.{messages_sent, packets_in}
use Rattle.uug_line.specs.WereSent.{HavePlaces, WereSent, passed_at}
use Rattle.uug_line.proofs.AnswerLemmas.{taken_if, taken_message}
use Rattle.uug_line.proofs.FoundLemmas.{passed_behind}
use Rattle.uug_line.proofs.MoveLemmas.{StandsThere}
use Rattle.uug_line.proofs.PlaceLemmas.{last_place, later_places, next_place}
use Rattle.uug_line.proofs.SpeakLemmas.{ended_hails_not}
use Rattle.uug_line.proofs.StepLemmas.{packet_step_alike, step_alike}
use Rattle.uug_line.proofs.World.AgreementLemmas.{is_invariant}
use Rattle.uug_line.proofs.World.Invariant.{HailsFresh, found, heard_by}
use Rattle.uug_line.proofs.World.Joining.{IsSoundSession, Joined, Moment}
use Rattle.uug_line.proofs.World.MomentLemmas.{emits_and_leaves, emits_more_packets, packets_in_append}
use Rattle.uug_line.proofs.World.Steps.{IsNoPacket}
use Rattle.uug_line.proofs.World.TalkLemmas.{seen_at}
use Rattle.uug_pair.specs.Courses.{EndCourse, after_effect, course_step, packets_found}
use Rattle.uug_pair.proofs.EventLemmas.{fails_or_not, grown, none_found, none_taken, quiet_sends_nothing, same_moment, taken_is}
use Rattle.uug_pair.proofs.Joins.{HasFailedAt, Joins, Keeps, StandsAt, moment}
use Rattle.uug_pair.proofs.StandsLemmas.{stands_at, unacked_within}

most_within : (before unacked window : ℕ) → before ≤ window → unacked ≤ window → max before unacked ≤ window
most_within before unacked window h k = omega (arith, h, k)

module _ (setup : SetupValue) (brought : AtBoth Belongings) (sound : IsSoundSession setup brought) (side : Side)
    (name peer : List ℕ) where
  abbrev who : Identity
  who = record { side = side; me = name; peer = peer }

  abbrev k : Keeper DialogueState
  k = end_keeper side (party setup brought side).holdings

  abbrev Near : EndCourse → EndCourse → Type 0
  Near c d = Joins setup brought side c d

  abbrev J : Moment → Moment → Type 0
  J far m = Joined setup brought side m far

  -- how the other end stands
  abbrev far_of : (c d : EndCourse) → Near c d → Moment
  far_of c d j = moment d j.far_talk j.far_places

  joins_after : (event : EndEvent) (x : EndEffect DialogueState) (c d : EndCourse) (j : Near c d) (talk : DialogueState)
      (places : List ℕ) → J (far_of c d j) (moment (after_effect event x c) talk places) →
      Keeps setup brought side (after_effect event x c) talk →
      HavePlaces (after_effect event x c).found places (packets_in d.emitted) 0 →
      HailsFresh (first_link side (at side setup).own) x.state.stage x.state.link → Near (after_effect event x c) d
  joins_after event x c d j talk places joined keeps found_so hails = record {
    near_talk = talk;
    far_talk = j.far_talk;
    near_places = places;
    far_places = j.far_places;
    joined = joined;
    near_keeps = keeps;
    far_keeps = j.far_keeps;
    near_found = found_so;
    far_found = subst (λ (ps : List PacketValue). HavePlaces d.found j.far_places ps 0) (sym (packets_in_append c.emitted x.emitted))
        (later_places d.found (packets_in c.emitted) (packets_in x.emitted) j.far_places 0 j.far_found);
    near_hails = hails;
    far_hails = j.far_hails;
    near_most = most_within c.most (length x.state.link.unacked) (at (other side) setup).own.window j.near_most
        (unacked_within setup brought sound side (moment (after_effect event x c) talk places) (far_of c d j) joined);
    far_most = j.far_most;
  }

  -- ---- nothing happens

  still_keeps : (event : EndEvent) (c : EndCourse) (talk : DialogueState) → Keeps setup brought side c talk →
      Keeps setup brought side (after_effect event (unmoved c.state) c) talk
  still_keeps event c talk (inl same) = inl same
  still_keeps event c talk (inr failed) = inr (record {
    how = failed.how;
    over = failed.over;
    count = failed.count;
    within = subst (λ (l : List (List ℕ)). failed.count ≤ length l) (sym (append-nil c.taken)) failed.within;
    stands = subst (λ (es : List Emitted). StandsAt setup brought side c.state.keeper (messages_sent es) failed.count)
        (sym (append-nil c.emitted)) failed.stands;
  })

  still : (event : EndEvent) (x : EndEffect DialogueState) (c d : EndCourse) → x ≡ unmoved c.state →
      packets_found c.state.stage event ≡ [] → Near c d → Near (after_effect event x c) d
  still event x c d is none j =
      subst (λ (y : EndEffect DialogueState). Near (after_effect event y c) d) (sym is)
      (joins_after event (unmoved c.state) c d j j.near_talk j.near_places
      (subst (J (far_of c d j)) (same_moment event c j.near_talk j.near_places) j.joined)
      (still_keeps event c j.near_talk j.near_keeps)
      (subst (λ (ps : List PacketValue). HavePlaces (c.found ++ ps) j.near_places (packets_in d.emitted) 0) (sym none)
      (subst (λ (ps : List PacketValue). HavePlaces ps j.near_places (packets_in d.emitted) 0) (sym (append-nil c.found)) j.near_found))
      j.near_hails)

  -- ---- an end that talks as it keeps

  abbrev IsLive : (c d : EndCourse) → Near c d → Type 0
  IsLive c d j = j.near_talk ≡ c.state.keeper

  live_joined : (c d : EndCourse) (j : Near c d) → IsLive c d j → J (far_of c d j) (moment c c.state.keeper j.near_places)
  live_joined c d j same =
      subst (λ (talk : DialogueState). J (far_of c d j) (moment c talk j.near_places)) same j.joined

  -- any event but a packet
  no_packet : (event : EndEvent) (c d : EndCourse) → IsNoPacket event → (j : Near c d) → IsLive c d j →
      Near (course_step (party setup brought side).holdings who event c) d
  no_packet event c d none j same =
      let x = end_step k who event c.state in
      let far = far_of c d j in
      let alike = step_alike side (party setup brought side).holdings (seen_at setup brought side) (J far) (StandsThere far)
      (is_invariant setup brought sound side far) (at side setup).own name peer c.state.number
      (moment c c.state.keeper j.near_places) c.state.stage event none (live_joined c d j same) j.near_hails in
      joins_after event x c d j x.state.keeper j.near_places
      (subst (J far) (grown event x c c.state.link c.state.keeper x.state.keeper c.taken j.near_places (passed_at j.near_places 0)
      (sym (ap (λ (l : List (List ℕ)). c.taken ++ l) (none_taken x.took event none) ∙ append-nil c.taken)) refl) alike.holds)
      (inl refl)
      (subst (λ (ps : List PacketValue). HavePlaces (c.found ++ ps) j.near_places (packets_in d.emitted) 0)
      (sym (none_found c.state.stage event none))
      (subst (λ (ps : List PacketValue). HavePlaces ps j.near_places (packets_in d.emitted) 0) (sym (append-nil c.found)) j.near_found))
      alike.hails

  -- ---- a packet on its link

  packet_places : (failed : Bool) (p : PacketValue) (c d : EndCourse) (j : Near c d) (place : ℕ) → c.state.stage ≡ linked →
      IsPlace p (packets_in d.emitted) (passed_at j.near_places 0) place →
      HavePlaces (c.found ++ packets_found c.state.stage (packet_found_whole failed p)) (j.near_places ++ place ∷ [])
      (packets_in d.emitted) 0
  packet_places failed p c d j place on_link there =
      subst (λ (ps : List PacketValue). HavePlaces (c.found ++ ps) (j.near_places ++ place ∷ []) (packets_in d.emitted) 0)
      (sym (ap (λ (s : Stage). packets_found s (packet_found_whole failed p)) on_link))
      (next_place c.found (packets_in d.emitted) j.near_places p place 0 j.near_found there)

  -- no device fails
  taken_up : (failed : Bool) (p : PacketValue) (c d : EndCourse) (j : Near c d) (place : ℕ) → IsLive c d j →
      c.state.stage ≡ linked → IsPlace p (packets_in d.emitted) (passed_at j.near_places 0) place →
      Near (after_effect (packet_found_whole failed p) (end_step k who (packet_found_whole false p) c.state) c) d
  taken_up failed p c d j place same on_link there =
      let x = end_step k who (packet_found_whole false p) c.state in
      let far = far_of c d j in
      let alike = packet_step_alike side (party setup brought side).holdings (seen_at setup brought side) (J far) (StandsThere far)
      (is_invariant setup brought sound side far) (at side setup).own name peer c.state.number
      (moment c c.state.keeper j.near_places) p place c.state.stage on_link there (live_joined c d j same) in
      joins_after (packet_found_whole failed p) x c d j x.state.keeper (j.near_places ++ place ∷ [])
      (subst (J far) (grown (packet_found_whole failed p) x c c.state.link c.state.keeper x.state.keeper
      (taken_if x.took (message_of p) c.taken) (j.near_places ++ place ∷ []) (suc place)
      (taken_is x.took failed p c.taken) (sym (passed_behind j.near_places place 0))) alike.holds)
      (inl refl) (packet_places failed p c d j place on_link there) alike.hails

  -- ---- a packet at which the spool's device fails

  -- how it ends
  abbrev at_fault : PacketValue → EndCourse → EndEffect DialogueState
  at_fault p c = ends_so c.state.number who (k.has_parted c.state.keeper) ends.SpoolFault
      (then_closes (step c.state.link (packet_found p))) c.state.keeper true

  -- what it would keep had it taken the message up
  abbrev talk_then : PacketValue → EndCourse → DialogueState
  talk_then p c = k.taking (message_of p) c.state.keeper

  -- joined as if it had taken the message up, and then closed its link
  fault_joined : (failed : Bool) (p : PacketValue) (c d : EndCourse) (j : Near c d) (place : ℕ) → IsLive c d j →
      IsPlace p (packets_in d.emitted) (passed_at j.near_places 0) place →
      (step c.state.link (packet_found p)).outcome ≡ taken →
      J (far_of c d j) (moment (after_effect (packet_found_whole failed p) (at_fault p c) c) (talk_then p c) (j.near_places ++ place ∷ []))
  fault_joined failed p c d j place same there is =
      let far = far_of c d j in
      let m = moment c c.state.keeper j.near_places in
      let inv = is_invariant setup brought sound side far in
      let e = step c.state.link (packet_found p) in
      let shut = step e.state to_close in
      let messages : List (List ℕ) = taken_by taken (packet_found p) c.taken in
      let f : Moment = found m place messages in
      let talk = talk_then p c in
      let parted : Bool = k.has_parted c.state.keeper in
      let heard : J far (heard_by k m p place taken) =
      subst (λ (o : OutcomeValue). J far (heard_by k m p place o)) is (inv.hears m p place (live_joined c d j same) there) in
      let moves = subst (λ (o : OutcomeValue). MovesPhase o c.state.link.phase e.state.phase) is (moves_of c.state.link (packet_found p) tt) in
      let may = subst (λ (o : OutcomeValue). MayAnswer o (packet_found p)) is (answers_of c.state.link (packet_found p)) in
      subst (J far)
      (emits_more_packets f e.emitted shut.emitted e.state shut.state talk talk
      ∙ sym (emits_and_leaves f (packets (e.emitted ++ shut.emitted)) parted side shut.state talk)
      ∙ grown (packet_found_whole failed p) (at_fault p c) c c.state.link c.state.keeper talk messages (j.near_places ++ place ∷ []) (suc place)
      (taken_message p c.taken may) (sym (passed_behind j.near_places place 0)))
      (inv.closes (heard_by k m p place taken) heard moves.1)

  fault_keeps : (failed : Bool) (p : PacketValue) (c d : EndCourse) (j : Near c d) → IsLive c d j →
      HasFailedAt setup brought side (after_effect (packet_found_whole failed p) (at_fault p c) c)
  fault_keeps failed p c d j same =
      let e = step c.state.link (packet_found p) in
      let shut = step e.state to_close in
      let parted : Bool = k.has_parted c.state.keeper in
      record {
        how = how_it_ends parted ends.SpoolFault;
        over = refl;
        count = length c.taken;
        within = omega (arith, length-append c.taken (message_of p ∷ []));
        stands = subst (λ (l : List (List ℕ)). StandsAt setup brought side c.state.keeper l (length c.taken))
            (sym (quiet_sends_nothing c.emitted e.emitted shut.emitted parted side (firsts_of c.state.link (packet_found p))
            (firsts_of e.state to_close)))
            (stands_at setup brought sound side (moment c c.state.keeper j.near_places) (far_of c d j) (live_joined c d j same));
      }

  fails : (failed : Bool) (p : PacketValue) (c d : EndCourse) (j : Near c d) (place : ℕ) → IsLive c d j →
      c.state.stage ≡ linked → IsPlace p (packets_in d.emitted) (passed_at j.near_places 0) place →
      (step c.state.link (packet_found p)).outcome ≡ taken →
      Near (after_effect (packet_found_whole failed p) (at_fault p c) c) d
  fails failed p c d j place same on_link there is =
      joins_after (packet_found_whole failed p) (at_fault p c) c d j (talk_then p c) (j.near_places ++ place ∷ [])
      (fault_joined failed p c d j place same there is) (inr (fault_keeps failed p c d j same))
      (packet_places failed p c d j place on_link there)
      (ended_hails_not (first_link side (at side setup).own) (at_fault p c).state.link (how_it_ends (k.has_parted c.state.keeper) ends.SpoolFault))

  -- ---- any event

  -- by what its link answers
  linked_packet : (failed : Bool) (p : PacketValue) (c d : EndCourse) (j : Near c d) → IsLive c d j → c.state.stage ≡ linked →
      WereSent (c.found ++ p ∷ []) (packets_in d.emitted) →
      Near (course_step (party setup brought side).holdings who (packet_found_whole failed p) c) d
  linked_packet failed p c d j same on_link sent =
      by (fails_or_not c.state.number k who failed (step c.state.link (packet_found p)).outcome
      (step c.state.link (packet_found p)) (message_of p) c.state.keeper)
    where
      came : (device_failed : Bool) → end_step k who (packet_found_whole device_failed p) c.state
          ≡ packet_came c.state.number k who device_failed p c.state.link c.state.keeper
      came device_failed = ap (λ (s : Stage). stage_step k who s (packet_found_whole device_failed p) c.state) on_link

      there : (i : ℕ) × IsPlace p (packets_in d.emitted) (passed_at j.near_places 0) i
      there = last_place c.found (packets_in d.emitted) j.near_places sent.0 p 0 0 (omega arith) sent.1 j.near_found

      by : (packet_came c.state.number k who failed p c.state.link c.state.keeper
          ≡ packet_came c.state.number k who false p c.state.link c.state.keeper)
          ⊎ (((step c.state.link (packet_found p)).outcome ≡ taken)
          × (packet_came c.state.number k who failed p c.state.link c.state.keeper ≡ at_fault p c)) →
          Near (after_effect (packet_found_whole failed p) (end_step k who (packet_found_whole failed p) c.state) c) d
      by (inl same_effect) =
          subst (λ (x : EndEffect DialogueState). Near (after_effect (packet_found_whole failed p) x c) d)
          (came false ∙ sym same_effect ∙ sym (came failed))
          (taken_up failed p c d j (there.0) same on_link there.1)
      by (inr fault) =
          subst (λ (x : EndEffect DialogueState). Near (after_effect (packet_found_whole failed p) x c) d)
          (sym (came failed ∙ fault.1))
          (fails failed p c d j (there.0) same on_link there.1 fault.0)

  -- a packet is found on a link alone
  packet_at : (failed : Bool) (p : PacketValue) (stage : Stage) (c d : EndCourse) → c.state.stage ≡ stage → (j : Near c d) →
      IsLive c d j →
      WereSent (c.found ++ packets_found stage (packet_found_whole failed p)) (packets_in d.emitted) →
      Near (course_step (party setup brought side).holdings who (packet_found_whole failed p) c) d
  packet_at failed p (hailing g) c d is j same sent =
      still (packet_found_whole failed p) (end_step k who (packet_found_whole failed p) c.state) c d
      (ap (λ (s : Stage). stage_step k who s (packet_found_whole failed p) c.state) is)
      (ap (λ (s : Stage). packets_found s (packet_found_whole failed p)) is) j
  packet_at failed p linked c d is j same sent = linked_packet failed p c d j same is sent
  packet_at failed p (ended how) c d is j same sent =
      still (packet_found_whole failed p) (end_step k who (packet_found_whole failed p) c.state) c d
      (ap (λ (s : Stage). stage_step k who s (packet_found_whole failed p) c.state) is)
      (ap (λ (s : Stage). packets_found s (packet_found_whole failed p)) is) j

  live_event : (event : EndEvent) (c d : EndCourse) (j : Near c d) → IsLive c d j →
      WereSent (c.found ++ packets_found c.state.stage event) (packets_in d.emitted) →
      Near (course_step (party setup brought side).holdings who event c) d
  live_event (text_found text) c d j same sent = no_packet (text_found text) c d tt j same
  live_event long_text_found c d j same sent = no_packet long_text_found c d tt j same
  live_event (packet_found_whole failed p) c d j same sent = packet_at failed p c.state.stage c d refl j same sent
  live_event broken_found c d j same sent = no_packet broken_found c d tt j same
  live_event time_ran_out c d j same sent = no_packet time_ran_out c d tt j same
  live_event line_lost c d j same sent = no_packet line_lost c d tt j same

  pub event_joins : (event : EndEvent) (c d : EndCourse) → Near c d →
      WereSent (course_step (party setup brought side).holdings who event c).found (packets_in d.emitted) →
      Near (course_step (party setup brought side).holdings who event c) d
  event_joins event c d j sent = by j.near_keeps
    where
      by : Keeps setup brought side c j.near_talk → Near (course_step (party setup brought side).holdings who event c) d
      by (inl same) = live_event event c d j same sent
      by (inr failed) =
          still event (end_step k who event c.state) c d
          (ap (λ (s : Stage). stage_step k who s event c.state) failed.over)
          (ap (λ (s : Stage). packets_found s event) failed.over) j
