-- Each step of an end that is in range leaves it so, and what it emits can be written.
use Rattle.std.proofs.Common.{◌≡◌, ◌⊎◌, ◌&&◌, ℕ, ◌≤◌, nat_lt, if◌then◌else◌, Bool, true, false, List, [], ◌∷◌, ◌++◌, length, map, All, Option, Some, inl, inr, refl, sym, subst, ◌∙◌}
use Rattle.std.specs.Bool.{⊤}
use Rattle.std.proofs.lemmas.List.Elements.{All-nil, All-cons, All-head, All-tail, All-append}
use Rattle.uug_link.specs.declared.phase.Phase.{Phase}
use Rattle.uug_link.specs.declared.phase.Phase.TheVariants as phases
use Rattle.uug_link.specs.Announced.{Announced}
use Rattle.uug_link.specs.InRange.{IsAnnouncement, IsInRange, MayMeet, AreWellFormed}
use Rattle.uug_link.specs.Outcomes.{IsComing, MayAnswer, MovesPhase}
use Rattle.uug_link.specs.State.{State, IsStarting, IsUp, is_halted}
use Rattle.uug_link.specs.Step.{Effect, Emission, Event, OutcomeValue, nothing, up, taken, closed, gave_up, halted, answers_halted, on_event, step, to_begin, packet_found, bad_found, timed_out, to_send, to_close}
use Rattle.uug_link.specs.Terms.{size_of_code}
use Rattle.uug_packet.specs.Packet.{PacketValue}
use Rattle.uug_packet.specs.WellFormed.{IsWellFormed}
use Rattle.uug_talk.specs.Chunks.{Measure}
use Rattle.uug_session.specs.declared.end.End.{End}
use Rattle.uug_session.specs.declared.end.End.TheVariants as ends
use Rattle.uug_session.specs.declared.greeting.Greeting.{Greeting}
use Rattle.uug_session.specs.EndStep.{hailing, linked, ended, EndState, Emitted, says_text, sends_packet, EndEffect, Identity, Sending, in_front, packets, leave, ends_so, is_up, has_room, sending_nothing, closes_by, speaks_by, goes_on, goes_on_with, then_closes, behind_link, message_of, packet_came, bad_came, late_link, EndEvent, text_found, long_text_found, packet_found_whole, broken_found, time_ran_out, line_lost, unmoved, hailing_step, linked_step, end_step, begins_session, first_link, how_it_ends, measure_of}
use Rattle.uug_session.specs.Greeting.{first_texts}
use Rattle.uug_conversation.specs.Holdings.{Holdings}
use Rattle.uug_session.specs.InRange.{BeginsFresh, CanBeWritten, HasSize, IsEndInRange, MayFind}
use Rattle.uug_conversation.specs.Keeper.{Keeper}
use Rattle.uug_conversation.specs.Machine as machine
use Rattle.uug_conversation.specs.DialogueState.{DialogueState, behind_first, end_keeper, first_of, is_empty, opened_with, replied, taking, with_first_sent}
use Rattle.uug_conversation.specs.Turns.{Said, all_messages, said_messages}
use Rattle.uug_conversation.specs.declared.side.Side.{Side}
use Rattle.uug_conversation.specs.declared.side.Side.TheVariants.{Caller, Called}
use Rattle.uug_conversation.proofs.FitLemmas.{said_fit}
use Rattle.uug_link.proofs.InRangeLemmas.{range_at_first, range_stays, emits_well_formed}
use Rattle.uug_link.proofs.OutcomeLemmas.{answers_of, moves_of}
use Rattle.uug_link.proofs.TermsLemmas.{size_stays}
use Rattle.uug_session.proofs.StepKeeps.{speaks_so, takes_so, hailing_leads, stage_leads}

abbrev Fits : ℕ → List ℕ → Type 0
Fits size message = length message ≤ size

-- ---- what waits is no longer than the size

all_fit : (measure : Measure) (says : List Said) → All (Fits measure.size) (all_messages measure says)
all_fit measure [] = All-nil (Fits measure.size)
all_fit measure (said ∷ more) =
    All-append (Fits measure.size) (said_messages measure said) (all_messages measure more) (said_fit measure said) (all_fit measure more)

has_size_opened : (side : Side) (h : Holdings) (measure : Measure) (talk : DialogueState)
    → HasSize measure.size (opened_with side h measure talk)
has_size_opened side h measure talk =
    record { is = refl; fit = all_fit measure (machine.opening side h talk.machine.lists).says }

has_size_replied : (size : ℕ) (own : Measure) (talk : DialogueState) (reply : machine.Reply) → own.size ≡ size
    → All (Fits size) talk.waiting → HasSize size (replied own talk.waiting talk.kept reply)
has_size_replied size own talk reply same fit = record {
  is = same;
  fit = All-append (Fits size) talk.waiting (all_messages own reply.says) fit
      (subst (λ (n : ℕ). All (Fits n) (all_messages own reply.says)) same (all_fit own reply.says));
}

has_size_taking : (h : Holdings) (message : List ℕ) (size : ℕ) (talk : DialogueState)
    → HasSize size talk → HasSize size (taking h message talk)
has_size_taking h message size talk s =
    has_size_replied size talk.measure talk (machine.reply_to h (is_empty talk.waiting) talk.machine message) s.is s.fit

first_fits : (size : ℕ) (waiting : List (List ℕ)) (message : List ℕ) → All (Fits size) waiting
    → first_of waiting ≡ Some message → Fits size message
first_fits size [] message fit e = absurd cc
first_fits size (first ∷ more) message fit e =
    let same : first ≡ message = cc in
    subst (Fits size) same (All-head (Fits size) first more fit)

rest_fit : (size : ℕ) (waiting : List (List ℕ)) → All (Fits size) waiting → All (Fits size) (behind_first waiting)
rest_fit size [] fit = fit
rest_fit size (first ∷ more) fit = All-tail (Fits size) first more fit

-- ---- links

-- the size stays where a link sends or closes, whatever it is
size_if : (b : Bool) (s : State) (x : Effect) → x.state.size_code ≡ s.size_code
    → (if b then answers_halted s else x).state.size_code ≡ s.size_code
size_if true s x e = refl
size_if false s x e = e

sent_size : (s : State) (message : List ℕ) → (step s (to_send message)).state.size_code ≡ s.size_code
sent_size s message = size_if (is_halted s.phase) s (on_event (to_send message) s) refl

-- a link that closes, or has ended, is not up
abbrev IsDown : Phase → Type 0
IsDown phases.Up = ⊥
IsDown _ = ⊤

down : (s : State) → IsDown s.phase → IsUp s → ⊥
down s h is_up = subst IsDown is_up h

down_if : (phase : Phase) (s : State) (x : Effect) → s.phase ≡ phase → IsDown x.state.phase
    → IsDown (if is_halted phase then answers_halted s else x).state.phase
down_if phases.Halted s x is h = subst IsDown (sym is) tt
down_if phases.Fresh s x is h = h
down_if phases.AwaitsInitA s x is h = h
down_if phases.AwaitsInitB s x is h = h
down_if phases.AwaitsInitC s x is h = h
down_if phases.Up s x is h = h
down_if phases.Closing s x is h = h

closed_down : (s : State) → IsDown (step s to_close).state.phase
closed_down s = down_if s.phase s (on_event to_close s) refl tt

begun_down : (s : State) → IsDown (step s to_begin).state.phase
begun_down s = down_if s.phase s (on_event to_begin s) refl tt

starting_down : (phase : Phase) → IsStarting phase → IsDown phase
starting_down phases.Fresh h = tt
starting_down phases.AwaitsInitA h = tt
starting_down phases.AwaitsInitB h = tt
starting_down phases.AwaitsInitC h = tt
starting_down phases.Up h = h
starting_down phases.Closing h = tt
starting_down phases.Halted h = tt

up_is_up : (phase : Phase) → is_up phase ≡ true → phase ≡ phases.Up
up_is_up phases.Up e = refl
up_is_up phases.Fresh e = absurd cc
up_is_up phases.AwaitsInitA e = absurd cc
up_is_up phases.AwaitsInitB e = absurd cc
up_is_up phases.AwaitsInitC e = absurd cc
up_is_up phases.Closing e = absurd cc
up_is_up phases.Halted e = absurd cc

-- room is on a link that is up
room_if : (phase : Phase) (below : Bool) → (if is_up phase then below else false) ≡ true → is_up phase ≡ true
room_if phases.Up below e = refl
room_if phases.Fresh below e = e
room_if phases.AwaitsInitA below e = e
room_if phases.AwaitsInitB below e = e
room_if phases.AwaitsInitC below e = e
room_if phases.Closing below e = e
room_if phases.Halted below e = e

room_is_up : (s : State) → has_room s ≡ true → IsUp s
room_is_up s e = up_is_up s.phase (room_if s.phase (nat_lt (length s.unacked) s.window) e)

-- ---- what goes out

-- the abbreviation of a list of them
abbrev AllCan : List Emitted → Type 0
AllCan emitted = All CanBeWritten emitted

packets_can : (es : List Emission) → AreWellFormed es → AllCan (packets es)
packets_can [] h = All-nil CanBeWritten
packets_can (e ∷ es) h =
    All-cons CanBeWritten (sends_packet e) (packets es) (All-head (λ (x : Emission). IsWellFormed x.packet) e es h)
    (packets_can es (All-tail (λ (x : Emission). IsWellFormed x.packet) e es h))

texts_can : (texts : List (List ℕ)) → AllCan (map says_text texts)
texts_can [] = All-nil CanBeWritten
texts_can (text ∷ texts) = All-cons CanBeWritten (says_text text) (map says_text texts) tt (texts_can texts)

joined_emissions : (es more : List Emission) → AreWellFormed es → AreWellFormed more → AreWellFormed (es ++ more)
joined_emissions es more h k = All-append (λ (x : Emission). IsWellFormed x.packet) es more h k

leave_can : (has_parted : Bool) (side : Side) → AllCan (leave has_parted side)
leave_can true side = All-cons CanBeWritten _ [] tt (All-nil CanBeWritten)
leave_can false side = All-nil CanBeWritten

-- ---- an end, whatever the side on which it stands

-- what the conversation keeps to, by its link
abbrev Suits : State → DialogueState → Type 0
Suits s talk = IsUp s → HasSize (size_of_code s.size_code) talk

-- the link is up only where it was, under the same size
suits_later : (s t : State) (talk : DialogueState) → Suits s talk → (IsUp t → IsUp s) → t.size_code ≡ s.size_code → Suits t talk
suits_later s t talk h was same is_up =
    subst (λ (code : ℕ). HasSize (size_of_code code) talk) (sym same) (h (was is_up))

suits_down : (s : State) (talk : DialogueState) → IsDown s.phase → Suits s talk
suits_down s talk h is_up = absurd (down s h is_up)

record IsFine (side : Side) (x : EndEffect DialogueState) : Type 0 where
  state : IsEndInRange side x.state
  emitted : AllCan x.emitted

-- behind the greeting the side does not matter
fresh_linked : (side : Side) (s : State) → BeginsFresh side linked s
fresh_linked Caller s = tt
fresh_linked Called s = tt

fresh_ended : (side : Side) (how : End) (s : State) → BeginsFresh side (ended how) s
fresh_ended Caller how s = tt
fresh_ended Called how s = tt

-- ---- sends

record FineSending (x : Sending DialogueState) : Type 0 where
  link : IsInRange x.link
  talk : Suits x.link x.keeper
  emissions : AreWellFormed x.emissions

none_out : AreWellFormed []
none_out = All-nil (λ (x : Emission). IsWellFormed x.packet)

sends_none : (s : State) (talk : DialogueState) → IsInRange s → Suits s talk → FineSending (sending_nothing s talk)
sends_none s talk range suits = record { link = range; talk = suits; emissions = none_out }

module _ (on : Side) (h : Holdings) where
  abbrev k : Keeper DialogueState
  k = end_keeper on h

  sent_fine : (s : State) (talk : DialogueState) (message : List ℕ) → has_room s ≡ true → first_of talk.waiting ≡ Some message → IsInRange s × Suits s talk
      → (IsInRange (step s (to_send message)).state × Suits (step s (to_send message)).state (with_first_sent talk))
      × ((x : Sending DialogueState) → FineSending x → FineSending (in_front (step s (to_send message)).emitted x))
  sent_fine s talk message room e so =
      let is_up : IsUp s = room_is_up s room in
      let size : HasSize (size_of_code s.size_code) talk = so.1 is_up in
      let may : MayMeet s (to_send message) = (is_up, first_fits (size_of_code s.size_code) talk.waiting message size.fit e) in
      let left : HasSize (size_of_code s.size_code) (with_first_sent talk) =
      record { is = size.is; fit = rest_fit (size_of_code s.size_code) talk.waiting size.fit } in (
        (
          range_stays s (to_send message) so.0 may,
          suits_later s (step s (to_send message)).state (with_first_sent talk) (λ again. left) (λ again. is_up) (sent_size s message),
        ),
        λ x after. record {
          link = after.link;
          talk = after.talk;
          emissions = joined_emissions (step s (to_send message)).emitted x.emissions (emits_well_formed s (to_send message) so.0 may) after.emissions;
        },
      )

  closes_fine : (x : Sending DialogueState) → FineSending x → FineSending (closes_by true x)
  closes_fine x fine = record {
    link = range_stays x.link to_close fine.link tt;
    talk = suits_down (step x.link to_close).state x.keeper (closed_down x.link);
    emissions = joined_emissions x.emissions (step x.link to_close).emitted fine.emissions (emits_well_formed x.link to_close fine.link tt);
  }

  speaks_fine : (live : Bool) (s : State) (talk : DialogueState) → IsInRange s → Suits s talk → FineSending (speaks_by live k s talk)
  speaks_fine live s talk range suits =
      speaks_so k (λ s talk. IsInRange s × Suits s talk) FineSending (λ s talk so. sends_none s talk so.0 so.1) sent_fine closes_fine live s talk (range, suits)

  -- ---- behind the link's answer

  goes_on_with_fine : (number : Option ℕ) (side : Side) (took : Bool) (es : List Emission) (x : Sending DialogueState) → AreWellFormed es → FineSending x
      → IsFine side (goes_on_with number took es x)
  goes_on_with_fine number side took es x out fine = record {
    state = record { link = fine.link; fresh = fresh_linked side x.link; talk = fine.talk };
    emitted = packets_can (es ++ x.emissions) (joined_emissions es x.emissions out fine.emissions);
  }

  -- a link's effect that is in range
  record FineEffect (e : Effect) : Type 0 where
    state : IsInRange e.state
    emitted : AreWellFormed e.emitted

  goes_on_fine : (number : Option ℕ) (side : Side) (took : Bool) (e : Effect) (talk : DialogueState) → FineEffect e → Suits e.state talk
      → IsFine side (goes_on number k took e talk)
  goes_on_fine number side took e talk fine suits =
      goes_on_with_fine number side took e.emitted (speaks_by (is_up e.state.phase) k e.state talk) fine.emitted
      (speaks_fine (is_up e.state.phase) e.state talk fine.state suits)

  ends_fine : (number : Option ℕ) (id : Identity) (has_parted : Bool) (how : End) (e : Effect) (talk : DialogueState) (took : Bool) → FineEffect e
      → IsDown e.state.phase → IsFine id.side (ends_so number id has_parted how e talk took)
  ends_fine number id has_parted how e talk took fine is_down = record {
    state = record {
      link = fine.state;
      fresh = fresh_ended id.side (how_it_ends has_parted how) e.state;
      talk = suits_down e.state talk is_down;
    };
    emitted = All-append CanBeWritten (packets e.emitted) (leave has_parted id.side) (packets_can e.emitted fine.emitted)
        (leave_can has_parted id.side);
  }

  closed_fine : (e : Effect) → FineEffect e → FineEffect (then_closes e)
  closed_fine e fine = record {
    state = range_stays e.state to_close fine.state tt;
    emitted = joined_emissions e.emitted (step e.state to_close).emitted fine.emitted (emits_well_formed e.state to_close fine.state tt);
  }

  -- what a link did on an event
  record FineAnswer (s : State) (o : OutcomeValue) (e : Effect) : Type 0 where
    effect : FineEffect e
    phases : MovesPhase o s.phase e.state.phase
    size_stays : IsUp s → e.state.size_code ≡ s.size_code

  suits_moved : (s : State) (e : Effect) (talk : DialogueState) → Suits s talk → (IsUp e.state → IsUp s)
      → (IsUp s → e.state.size_code ≡ s.size_code) → Suits e.state talk
  suits_moved s e talk suits was same is_up =
      subst (λ (code : ℕ). HasSize (size_of_code code) talk) (sym (same (was is_up))) (suits (was is_up))

  halted_down : (after : Phase) → after ≡ phases.Halted → IsDown after
  halted_down after e = subst IsDown (sym e) tt

  -- where nothing is answered, a link that is up was so
  was_up : (before after : Phase) → ((after ≡ before) ⊎ (IsStarting before × IsStarting after)) → after ≡ phases.Up
      → before ≡ phases.Up
  was_up before after (inl same) is_up = sym same ∙ is_up
  was_up before after (inr starting) is_up = absurd (subst IsDown is_up (starting_down after starting.1))

  behind_fine : (number : Option ℕ) (id : Identity) (device_failed : Bool) (o : OutcomeValue) (s : State) (e : Effect) (message : List ℕ) (talk : DialogueState)
      → FineAnswer s o e → Suits s talk → IsFine id.side (behind_link number k id device_failed o e message talk)
  behind_fine number id device_failed nothing s e message talk a suits =
      goes_on_fine number id.side false e talk a.effect
      (suits_moved s e talk suits (was_up s.phase e.state.phase a.phases.1) a.size_stays)
  behind_fine number id device_failed up s e message talk a suits =
      goes_on_fine number id.side false e (opened_with on h (measure_of e.state) talk) a.effect
      (λ is_up. has_size_opened on h (measure_of e.state) talk)
  behind_fine number id device_failed taken s e message talk a suits =
      let closed_so = closed_fine e a.effect in
      takes_so k id number (IsFine id.side) (device_failed && k.asks_spool message talk) e message talk
      (goes_on_fine number id.side true e (taking h message talk) a.effect
      (λ is_up. has_size_taking h message (size_of_code e.state.size_code) talk (suits_moved s e talk suits (λ is_up. a.phases.0) a.size_stays is_up)))
      (ends_fine number id (k.has_parted talk) ends.BadTalk (then_closes e) (taking h message talk) true closed_so (closed_down e.state))
      (ends_fine number id (k.has_parted talk) ends.SpoolFault (then_closes e) talk true closed_so (closed_down e.state))
  behind_fine number id device_failed closed s e message talk a suits =
      ends_fine number id (k.has_parted talk) ends.PeerClosed e talk false a.effect (halted_down e.state.phase a.phases.1)
  behind_fine number id device_failed gave_up s e message talk a suits =
      ends_fine number id (k.has_parted talk) ends.GaveUp e talk false a.effect (halted_down e.state.phase a.phases.1)
  behind_fine number id device_failed halted s e message talk a suits =
      goes_on_fine number id.side false e talk a.effect (suits_down e.state talk (halted_down e.state.phase a.phases.1))

  -- ---- the events of the link

  effect_fine : (s : State) (event : Event) → IsInRange s → MayMeet s event → FineEffect (step s event)
  effect_fine s event range may = record { state = range_stays s event range may; emitted = emits_well_formed s event range may }

  answer_fine : (s : State) (event : Event) → IsComing event → IsInRange s → MayMeet s event
      → FineAnswer s (step s event).outcome (step s event)
  answer_fine s event comes range may = record {
    effect = effect_fine s event range may;
    phases = moves_of s event comes;
    size_stays = size_stays s event;
  }

  packet_fine : (number : Option ℕ) (id : Identity) (device_failed : Bool) (p : PacketValue) (s : State) (talk : DialogueState) → IsWellFormed p
      → IsInRange s → Suits s talk → IsFine id.side (packet_came number k id device_failed p s talk)
  packet_fine number id device_failed p s talk whole range suits =
      behind_fine number id device_failed (step s (packet_found p)).outcome s (step s (packet_found p)) (message_of p) talk
      (answer_fine s (packet_found p) tt range whole) suits

  bad_fine : (number : Option ℕ) (id : Identity) (s : State) (talk : DialogueState) → IsInRange s → Suits s talk → IsFine id.side (bad_came number k id s talk)
  bad_fine number id s talk range suits =
      behind_fine number id false (step s bad_found).outcome s (step s bad_found) [] talk (answer_fine s bad_found tt range tt) suits

  stays_fine : (number : Option ℕ) (side : Side) (e : Effect) (talk : DialogueState) → FineEffect e → Suits e.state talk
      → IsFine side (goes_on_with number false e.emitted (sending_nothing e.state talk))
  stays_fine number side e talk fine suits =
      goes_on_with_fine number side false e.emitted (sending_nothing e.state talk) fine.emitted (sends_none e.state talk fine.state suits)

  late_fine : (number : Option ℕ) (id : Identity) (has_parted : Bool) (o : OutcomeValue) (s : State) (e : Effect) (talk : DialogueState) → MayAnswer o timed_out
      → FineAnswer s o e → Suits s talk → IsFine id.side (late_link number id has_parted o e talk)
  late_fine number id has_parted nothing s e talk may a suits =
      stays_fine number id.side e talk a.effect
      (suits_moved s e talk suits (was_up s.phase e.state.phase a.phases.1) a.size_stays)
  late_fine number id has_parted up s e talk may a suits = absurd may
  late_fine number id has_parted taken s e talk may a suits = absurd may
  late_fine number id has_parted closed s e talk may a suits = absurd may
  late_fine number id has_parted gave_up s e talk may a suits =
      ends_fine number id has_parted ends.GaveUp e talk false a.effect (halted_down e.state.phase a.phases.1)
  late_fine number id has_parted halted s e talk may a suits =
      stays_fine number id.side e talk a.effect (suits_down e.state talk (halted_down e.state.phase a.phases.1))

  -- ---- the greeting

  still_fresh : (side : Side) (g next : Greeting) (s : State) → BeginsFresh side (hailing g) s → BeginsFresh side (hailing next) s
  still_fresh Caller g next s fresh = fresh
  still_fresh Called g next s fresh = tt

  unmoved_fine : (side : Side) (e : EndState DialogueState) → IsEndInRange side e → IsFine side (unmoved e)
  unmoved_fine side e r = record { state = r; emitted = All-nil CanBeWritten }

  -- ---- the step

  hailing_fine : (id : Identity) (g : Greeting) (event : EndEvent) (e : EndState DialogueState) → BeginsFresh id.side (hailing g) e.link
      → IsEndInRange id.side e → IsFine id.side (hailing_step id g event e)
  hailing_fine id g event e fresh r =
      hailing_leads id e (IsFine id.side)
      (λ number next says. record {
        state = record { link = r.link; fresh = still_fresh id.side g next e.link fresh; talk = r.talk };
        emitted = texts_can says;
      })
      (λ number says is. let begun = subst (λ (side : Side). BeginsFresh side (hailing g) e.link) is fresh in record {
        state = record {
          link = range_stays e.link to_begin r.link begun;
          fresh = fresh_linked id.side (step e.link to_begin).state;
          talk = suits_down (step e.link to_begin).state e.keeper (begun_down e.link);
        };
        emitted = All-append CanBeWritten (map says_text says) (packets (step e.link to_begin).emitted) (texts_can says)
            (packets_can (step e.link to_begin).emitted (emits_well_formed e.link to_begin r.link begun));
      })
      (λ number says. record { state = record { link = r.link; fresh = fresh_linked id.side e.link; talk = r.talk }; emitted = texts_can says })
      (λ number how says. record { state = record { link = r.link; fresh = fresh_ended id.side how e.link; talk = r.talk }; emitted = texts_can says })
      (unmoved_fine id.side e r) g event

  linked_fine : (id : Identity) (event : EndEvent) (e : EndState DialogueState) → MayFind event → IsEndInRange id.side e
      → IsFine id.side (linked_step k id event e)
  linked_fine id (packet_found_whole device_failed p) e may r = packet_fine e.number id device_failed p e.link e.keeper may r.link r.talk
  linked_fine id broken_found e may r = bad_fine e.number id e.link e.keeper r.link r.talk
  linked_fine id time_ran_out e may r =
      late_fine e.number id (k.has_parted e.keeper) (step e.link timed_out).outcome e.link (step e.link timed_out) e.keeper
      (answers_of e.link timed_out) (answer_fine e.link timed_out tt r.link tt) r.talk
  linked_fine id line_lost e may r = record {
    state = record { link = r.link; fresh = fresh_ended id.side (how_it_ends (k.has_parted e.keeper) ends.HungUp) e.link; talk = r.talk };
    emitted = All-nil CanBeWritten;
  }
  linked_fine id (text_found text) e may r = unmoved_fine id.side e r
  linked_fine id long_text_found e may r = unmoved_fine id.side e r

  end_fine : (id : Identity) (event : EndEvent) (e : EndState DialogueState) → IsEndInRange id.side e → MayFind event → IsFine id.side (end_step k id event e)
  end_fine id event e r may =
      stage_leads k id event e (IsFine id.side) (λ stage. BeginsFresh id.side stage e.link) (λ g fresh. hailing_fine id g event e fresh r)
      (λ fresh. linked_fine id event e may r) (unmoved_fine id.side e r) e.stage r.fresh

  pub end_stays : (id : Identity) (event : EndEvent) (e : EndState DialogueState) → IsEndInRange id.side e → MayFind event
      → IsEndInRange id.side (end_step k id event e).state
  end_stays id event e r may = (end_fine id event e r may).state

  pub end_emits : (id : Identity) (event : EndEvent) (e : EndState DialogueState) → IsEndInRange id.side e → MayFind event
      → All CanBeWritten (end_step k id event e).emitted
  end_emits id event e r may = (end_fine id event e r may).emitted

-- ---- a session begins

first_in_range : (side : Side) (own : Announced) → IsAnnouncement own → IsInRange (first_link side own)
first_in_range Caller own h = (range_at_first own h).0
first_in_range Called own h = (range_at_first own h).1

first_fresh : (side : Side) (own : Announced) (g : Greeting) → BeginsFresh side (hailing g) (first_link side own)
first_fresh Caller own g = refl
first_fresh Called own g = tt

first_down : (side : Side) (own : Announced) → IsDown (first_link side own).phase
first_down Caller own = tt
first_down Called own = tt

pub end_begins : (id : Identity) (own : Announced) (number : Option ℕ) (talk : DialogueState) → IsAnnouncement own
    → IsEndInRange id.side (begins_session id own number talk).state
end_begins id own number talk h = record {
  link = first_in_range id.side own h;
  fresh = first_fresh id.side own _;
  talk = suits_down (first_link id.side own) talk (first_down id.side own);
}

pub first_words_can : (id : Identity) (own : Announced) (number : Option ℕ) (talk : DialogueState) → All CanBeWritten (begins_session id own number talk).emitted
first_words_can id own number talk = texts_can (first_texts id.side id.me)
