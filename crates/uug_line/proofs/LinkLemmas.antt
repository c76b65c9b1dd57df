-- What a link's events do to a run of two links, and to whether it is up.
use Rattle.std.proofs.Common.{◌≡◌, ◌⊎◌, inl, inr, ℕ, suc, false, List, [], ◌∷◌, ◌++◌, refl, sym, ap, subst, ◌∙◌, true≢false}
use Rattle.std.proofs.lemmas.List.{append-nil}
use Rattle.std.specs.Bool.{⊤}
use Rattle.uug_conversation.specs.Turns.{other}
use Rattle.uug_link.specs.declared.phase.Phase.{Phase}
use Rattle.uug_link.specs.declared.phase.Phase.TheVariants as phases
use Rattle.uug_link.specs.Arrivals.{IsPlace, arrived, as_happenings}
use Rattle.uug_link.specs.Outcomes.{MovesPhase}
use Rattle.uug_link.specs.State.{State, IsStarting, IsUp}
use Rattle.uug_link.specs.Step.{Emission, Event, OutcomeValue, nothing, up, taken, closed, gave_up, halted, bad_found, packet_found, timed_out, to_begin, to_close, to_send, step}
use Rattle.uug_link.specs.TwoLinks.{End, IsRun, MayCall, first_ends, moved_by, moves, packets_of, sent_with, taken_by}
use Rattle.uug_packet.specs.Packet.{PacketValue}
use Rattle.uug_session.specs.EndStep.{is_up, packets}
use Rattle.uug_conversation.specs.DialogueState.{DialogueState}
use Rattle.uug_conversation.specs.declared.side.Side.{Side}
use Rattle.uug_line.specs.Belongings.{SetupValue}
use Rattle.uug_line.specs.LineEndState.{messages_sent, packets_in}
use Rattle.uug_line.specs.LinkRun.{LinksRan, places_heard}
use Rattle.uug_conversation.specs.Sides.{at}
use Rattle.uug_line.proofs.World.Invariant.{answer_to, heard_with, moved}
use Rattle.uug_line.proofs.World.Joining.{IsOpened, LinksOf, Moment, link_end}
use Rattle.uug_line.proofs.LinkRunLemmas.{arrival_heard, is_run, ran_on}
use Rattle.uug_line.proofs.World.MomentLemmas.{none_sent, packets_in_packets}
use Rattle.uug_line.proofs.SendLemmas.{sends_it}
use Rattle.uug_link.proofs.OutcomeLemmas.{firsts_of}
use Rattle.uug_link.proofs.ArrivalLemmas.{arrival_happens}

-- ---- the moments as ends of links

-- what is no packet brings no message
abbrev pub FindsNone : Event → Type 0
FindsNone (packet_found p) = ⊥
FindsNone _ = ⊤

takes_none : (o : OutcomeValue) (event : Event) (messages : List (List ℕ)) → FindsNone event →
    taken_by o event messages ≡ messages
takes_none taken to_begin messages h = refl
takes_none taken (packet_found p) messages h = absurd h
takes_none taken bad_found messages h = refl
takes_none taken timed_out messages h = refl
takes_none taken (to_send message) messages h = refl
takes_none taken to_close messages h = refl
takes_none nothing event messages h = refl
takes_none up event messages h = refl
takes_none closed event messages h = refl
takes_none gave_up event messages h = refl
takes_none halted event messages h = refl

-- the messages that an event sends are those that go out for the first time
abbrev SendsSo : State → Event → Type 0
SendsSo s event = (sent : List (List ℕ)) → sent_with event sent ≡ sent ++ messages_sent (packets (step s event).emitted)

pub sends_none : (s : State) (event : Event) → messages_sent (packets (step s event).emitted) ≡ [] → (sent : List (List ℕ)) →
    sent ≡ sent ++ messages_sent (packets (step s event).emitted)
sends_none s event none sent = sym (ap (λ (l : List (List ℕ)). sent ++ l) none ∙ append-nil sent)

sends_so : (s : State) (event : Event) → MayCall s event → SendsSo s event
sends_so s to_begin may sent = sends_none s to_begin (none_sent (step s to_begin).emitted (firsts_of s to_begin)) sent
sends_so s (packet_found p) may sent = absurd may
sends_so s bad_found may sent = sends_none s bad_found (none_sent (step s bad_found).emitted (firsts_of s bad_found)) sent
sends_so s timed_out may sent = sends_none s timed_out (none_sent (step s timed_out).emitted (firsts_of s timed_out)) sent
sends_so s (to_send message) may sent = ap (λ (l : List (List ℕ)). sent ++ l) (sym (sends_it s message may.0.0))
sends_so s to_close may sent = sends_none s to_close (none_sent (step s to_close).emitted (firsts_of s to_close)) sent

abbrev end_with : State → (passed : ℕ) → (sent got : List (List ℕ)) → List PacketValue → End
end_with link passed sent got emitted =
    record { link = link; sent = sent; taken = got; emitted = emitted; passed = passed }

-- behind an event an end of links is the moment's
same_end : (link : State) (passed : ℕ) (sent then_sent got then_got : List (List ℕ)) (before : List PacketValue)
    (es : List Emission) → sent ≡ then_sent → got ≡ then_got →
    end_with link passed sent got (before ++ packets_of es)
    ≡ end_with link passed then_sent then_got (before ++ packets_in (packets es))
same_end link passed sent then_sent got then_got before es sends takes =
    ap (λ (l : List (List ℕ)). end_with link passed l got (before ++ packets_of es)) sends
    ∙ ap (λ (l : List (List ℕ)). end_with link passed then_sent l (before ++ packets_of es)) takes
    ∙ ap (λ (l : List PacketValue). end_with link passed then_sent then_got (before ++ l)) (sym (packets_in_packets es))

moved_end : (m : Moment) (event : Event) (talk : DialogueState) → MayCall m.link event → FindsNone event →
    moved_by (link_end m) event ≡ link_end (moved m event talk)
moved_end m event talk may finds =
    let e = step m.link event in
    same_end e.state m.passed (sent_with event m.sent) (m.sent ++ messages_sent (packets e.emitted))
    (taken_by e.outcome event m.taken) m.taken m.packets e.emitted (sends_so m.link event may m.sent)
    (takes_none e.outcome event m.taken finds)

arrived_end : (m : Moment) (p : PacketValue) (place : ℕ) (talk : DialogueState) →
    arrived p place (link_end m)
    ≡ link_end (heard_with m p place (answer_to m p) talk)
arrived_end m p place talk =
    let e = step m.link (packet_found p) in
    let messages = taken_by (answer_to m p) (packet_found p) m.taken in
    same_end e.state (suc place) m.sent (m.sent ++ messages_sent (packets e.emitted)) messages messages m.packets e.emitted
    (sends_none m.link (packet_found p) (none_sent e.emitted (firsts_of m.link (packet_found p))) m.sent) refl

-- ---- the runs

-- two ends' links run as two links that announce what they were set up with
pub links_run : (setup : SetupValue) (side : Side) (near far : Moment) → LinksOf setup side near far →
    IsRun (at side setup).own (at (other side) setup).own (record { near = link_end near; far = link_end far })
links_run setup side near far ran =
    is_run side (other side) (at side setup).own (at (other side) setup).own
    (record { near = link_end near; far = link_end far }) near.arrivals far.arrivals ran

module _ (near_first far_first : State) (far : Moment) where
  -- to this end, which has found the packets at these places, with the other one at the far side
  abbrev RanTo : End → (places : List ℕ) → Type 0
  RanTo e places =
      LinksRan (first_ends near_first far_first) (record { near = e; far = link_end far }) places far.arrivals

  pub run_moves : (m : Moment) (event : Event) (talk : DialogueState) → RanTo (link_end m) m.arrivals → MayCall m.link event →
      FindsNone event → RanTo (link_end (moved m event talk)) (moved m event talk).arrivals
  run_moves m event talk ran may finds =
      subst (λ (places : List ℕ). RanTo (link_end (moved m event talk)) places) (append-nil m.arrivals)
      (subst (λ (e : End). RanTo e (m.arrivals ++ [])) (moved_end m event talk may finds)
      (ran_on near_first far_first (record { near = link_end m; far = link_end far }) m.arrivals far.arrivals
      (moves event ∷ []) ran (may, tt)))

  pub run_hears : (m : Moment) (p : PacketValue) (place : ℕ) (talk : DialogueState) → RanTo (link_end m) m.arrivals →
      IsPlace p far.packets m.passed place →
      RanTo (link_end (heard_with m p place (answer_to m p) talk)) (m.arrivals ++ place ∷ [])
  run_hears m p place talk ran there =
      let hs = as_happenings p m.passed place in
      let happens = arrival_happens (link_end m) (link_end far) p place there in
      subst (λ (places : List ℕ). RanTo (link_end (heard_with m p place (answer_to m p) talk)) (m.arrivals ++ places))
      (arrival_heard p m.passed place there.behind)
      (subst (λ (e : End). RanTo e (m.arrivals ++ places_heard m.passed hs))
      (happens.1 ∙ arrived_end m p place talk)
      (ran_on near_first far_first (record { near = link_end m; far = link_end far }) m.arrivals far.arrivals hs ran
      happens.0))

-- ---- whether it is up

pub up_is_not_starting : (phase : Phase) → phase ≡ phases.Up → IsStarting phase → ⊥
up_is_not_starting phase at starting = subst IsStarting at starting

-- another phase
pub not_up : (phase other_phase : Phase) → is_up other_phase ≡ false → phase ≡ other_phase → phase ≡ phases.Up → ⊥
not_up phase other_phase other_is at risen = true≢false (sym (ap is_up risen) ∙ ap is_up at ∙ other_is)

-- what happens that does not bring it up
abbrev pub DoesNotOpen : (before after : State) → Type 0
DoesNotOpen before after = (IsUp after → IsUp before) × (IsStarting after.phase → IsStarting before.phase)

pub opened_stays : (m then_m : Moment) → then_m.talk.opened ≡ m.talk.opened → IsOpened m → DoesNotOpen m.link then_m.link →
    IsOpened then_m
opened_stays m then_m same is stays = record {
  up = λ h. same ∙ is.up (stays.0 h);
  starting = λ h. same ∙ is.starting (stays.1 h);
}

pub closes_it : (before after : State) → after.phase ≡ phases.Closing → DoesNotOpen before after
closes_it before after at =
    (λ risen. absurd (not_up after.phase phases.Closing refl at risen), λ starting. absurd (subst IsStarting at starting))

halts : (before after : State) → after.phase ≡ phases.Halted → DoesNotOpen before after
halts before after at =
    (λ risen. absurd (not_up after.phase phases.Halted refl at risen), λ starting. absurd (subst IsStarting at starting))

pub stays_up : (before after : State) → IsUp before → after.phase ≡ phases.Up → DoesNotOpen before after
stays_up before after was at = (λ risen. was, λ starting. absurd (up_is_not_starting after.phase at starting))

pub stays_starting : (before after : State) → IsStarting before.phase → IsStarting after.phase → DoesNotOpen before after
stays_starting before after was at = (λ risen. absurd (up_is_not_starting after.phase risen at), λ starting. was)

by_same_phase : (before after : State) → (after.phase ≡ before.phase) ⊎ (IsStarting before.phase × IsStarting after.phase) →
    DoesNotOpen before after
by_same_phase before after (inl same) = (λ risen. sym same ∙ risen, λ starting. subst IsStarting same starting)
by_same_phase before after (inr both) = stays_starting before after both.0 both.1

-- the answers that do not say that it has come up
abbrev pub IsNotUp : OutcomeValue → Type 0
IsNotUp up = ⊥
IsNotUp _ = ⊤

pub does_not_open : (o : OutcomeValue) (before after : State) → IsNotUp o → MovesPhase o before.phase after.phase →
    DoesNotOpen before after
does_not_open nothing before after h moving = by_same_phase before after moving.1
does_not_open up before after h moving = absurd h
does_not_open taken before after h moving = stays_up before after moving.0 moving.1
does_not_open closed before after h moving = halts before after moving.1
does_not_open gave_up before after h moving = halts before after moving.1
does_not_open halted before after h moving = halts before after moving.1
