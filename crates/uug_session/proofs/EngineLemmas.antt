-- What the parts of a call come to is what the step says.
use Rattle.std.proofs.Common.{◌≡◌, ◌≢◌, inl, inr, ℕ, Bool, true, false, List, [], ◌∷◌, ◌++◌, map, ap, sym, subst, ◌∙◌, refl, IfSome, Ok, Option}
use Rattle.std.proofs.lemmas.List.{append-nil, append_assoc, map-append}
use Rattle.uug_link.specs.declared.phase.Phase.{Phase}
use Rattle.uug_link.specs.declared.phase.Phase.TheVariants as phases
use Rattle.uug_link.specs.Announced.{Announced}
use Rattle.uug_link.specs.Entries.{EntryValue}
use Rattle.uug_link.specs.declared.outcome.Outcome.{Outcome}
use Rattle.uug_link.specs.declared.outcome.Outcome.TheVariants.{Nothing, Up, Taken, Closed}
use Rattle.uug_link.specs.Follows.{answered, written}
use Rattle.uug_link.specs.Outcomes.{MovesPhase}
use Rattle.uug_link.specs.State.{State, IsStarting, IsUp}
use Rattle.uug_link.specs.Terms.{size_of_code}
use Rattle.uug_link.specs.Step.{Effect, Emission, OutcomeValue, nothing, up, taken, closed, gave_up, halted, packet_found, step, to_begin, to_close, Event}
use Rattle.uug_packet.specs.Packet.{PacketValue}
use Rattle.uug_talk.specs.Chunks.{Measure}
use Rattle.uug_session.specs.declared.end.End.{End}
use Rattle.uug_session.specs.declared.end.End.TheVariants as ends
use Rattle.uug_session.specs.declared.greeting.Greeted.{Greeted}
use Rattle.uug_session.specs.declared.greeting.Greeted.TheVariants.{GoesOn, LinkBegins, Ended}
use Rattle.uug_session.specs.EndStep.{Stage, linked, ended, EndEffect, EndState, Emitted, says_text, Identity, begins_link, behind_link, ends_so, goes_on, goes_on_with, greeted_so, how_it_ends, is_up, late_link, leave, message_of, packet_came, packets, sending_nothing, speaks_by, takes_by, talks_by, then_closes, first_link, measure_of}
use Rattle.uug_session.specs.Engine.{Does, EngineState, Spoken, StandsStill, TakesUp, after_speaking, end_of, entry_of, packet_effect, spoken_of, spoken_with, IsHailing, IsReady}
use Rattle.uug_conversation.specs.Holdings.{Kept, Holdings}
use Rattle.uug_conversation.specs.Keeper.{Keeper}
use Rattle.uug_conversation.specs.declared.reaction.Saying.{Saying}
use Rattle.uug_conversation.specs.Machine.{State as MachineState}
use Rattle.uug_conversation.specs.Outgoing.{messages_of}
use Rattle.uug_session.specs.Says.{entry_of_text}
use Rattle.uug_conversation.specs.DialogueState.{DialogueState, end_keeper}
use Rattle.uug_conversation.specs.DialogueValue.{DialogueValue, dialogue_of}
use Rattle.uug_conversation.specs.declared.side.Side.{Side}
use Rattle.uug_conversation.specs.declared.side.Side.TheVariants.{Caller, Called}
use Rattle.uug_link.proofs.OutcomeLemmas.{moves_of}
use Rattle.uug_link.proofs.TermsLemmas.{size_stays, own_stays}

-- what an engine showed, of the equation that says what it shows
abbrev pub shown_by : {T : Type 0} {x y : T} → x ≡ y → T
shown_by {x = x} e = x

-- packets stand in an outbox as they are written
pub packets_written : (es : List Emission) → map entry_of (packets es) ≡ map written es
packets_written [] = refl
packets_written (e ∷ es) = ap (λ (rest : List EntryValue). written e ∷ rest) (packets_written es)

-- a link that answered Taken is up, before and after it
pub taken_is_up : (o : OutcomeValue) (before after : Phase) → o ≡ taken → MovesPhase o before after
    → (before ≡ phases.Up) × (after ≡ phases.Up)
taken_is_up o before after e moves = subst (λ (x : OutcomeValue). MovesPhase x before after) e moves

first_not_up : (side : Side) (own : Announced) → IsUp (first_link side own) → ⊥
first_not_up Caller own e = cc
first_not_up Called own e = cc

-- how messages are cut stays with a link that is up
abbrev measured : ℕ → Announced → Measure
measured code own = record { size = size_of_code code; short = own.short }

measure_stays : (s : State) (event : Event) → IsUp s → measure_of (step s event).state ≡ measure_of s
measure_stays s event is_up =
    ap (λ (code : ℕ). measured code (step s event).state.own) (size_stays s event is_up) ∙ ap (measured s.size_code) (own_stays s event)

-- what an end is ready with stays where its link takes a message
pub ready_behind_taken : (stage : Stage) (id : Identity) (own : Announced) (s after : State) (p : PacketValue) (dialogue : DialogueValue)
    → IsReady stage id own s dialogue → (step s (packet_found p)).outcome ≡ taken → after ≡ (step s (packet_found p)).state
    → IsReady stage id own after dialogue
ready_behind_taken stage id own s after p dialogue ready is same =
    let e = step s (packet_found p) in
    let was_up : IsUp s = (taken_is_up e.outcome s.phase e.state.phase is (moves_of s (packet_found p) tt)).0 in
    subst (λ (x : State). IsReady stage id own x dialogue) (sym same) (record {
      first = λ hails. absurd (first_not_up id.side own (subst IsUp (ready.first hails) was_up));
      opened = λ up. ready.opened was_up;
      measure = λ up. ready.measure was_up ∙ sym (measure_stays s (packet_found p) was_up);
    })

-- a link that answered nothing is up only where it was
up_was_up : (before after : Phase) → MovesPhase nothing before after → after ≡ phases.Up → before ≡ phases.Up
up_was_up before after moves is_up = elim moves.1 [
  | inl same ↦ sym same ∙ is_up
  | inr starting ↦ absurd (subst IsStarting is_up starting.1)
]

-- and where its link answers nothing
pub ready_behind_nothing : (stage : Stage) (id : Identity) (own : Announced) (s after : State) (p : PacketValue) (dialogue : DialogueValue)
    → IsReady stage id own s dialogue → stage ≡ linked → nothing ≡ (step s (packet_found p)).outcome → after ≡ (step s (packet_found p)).state
    → IsReady stage id own after dialogue
ready_behind_nothing stage id own s after p dialogue ready at_link is same =
    let e = step s (packet_found p) in
    let moves : MovesPhase nothing s.phase e.state.phase =
    subst (λ (o : OutcomeValue). MovesPhase o s.phase e.state.phase) (sym is) (moves_of s (packet_found p) tt) in
    let was_up : IsUp e.state → IsUp s = up_was_up s.phase e.state.phase moves in
    subst (λ (x : State). IsReady stage id own x dialogue) (sym same) (record {
      first = λ hails. absurd (subst IsHailing at_link hails);
      opened = λ up. ready.opened (was_up up);
      measure = λ up. ready.measure (was_up up) ∙ sym (measure_stays s (packet_found p) (was_up up));
    })

-- ---- the session goes on

-- behind these packets
entries_behind : (entries : List EntryValue) (es more : List Emission)
    → (entries ++ map written es) ++ map written more ≡ entries ++ map entry_of (packets (es ++ more))
entries_behind entries es more =
    append_assoc entries (map written es) (map written more)
    ∙ ap (λ (x : List EntryValue). entries ++ x) (sym (map-append written es more) ∙ sym (packets_written (es ++ more)))

-- the end that speaks is described by its parts
speaks_from : (h : Holdings) (kept : List Kept) (id : Identity) (e : Effect) (entries : List EntryValue) (middle : EngineState)
    → middle.link ≡ e.state → middle.outbox.entries ≡ entries ++ map written e.emitted → middle.identity ≡ id
    → after_speaking h kept middle
    ≡ spoken_with (entries ++ map written e.emitted) (speaks_by (is_up e.state.phase) (end_keeper id.side h) e.state (dialogue_of h kept middle.dialogue))
speaks_from h kept id e entries middle link emitted identity =
    let talk = dialogue_of h kept middle.dialogue in
    ap (λ (x : State). spoken_with middle.outbox.entries (speaks_by (is_up x.phase) (end_keeper middle.identity.side h) x talk)) link
    ∙ ap (λ (x : List EntryValue). spoken_with x (speaks_by (is_up e.state.phase) (end_keeper middle.identity.side h) e.state talk)) emitted
    ∙ ap (λ (x : Identity). spoken_with (entries ++ map written e.emitted) (speaks_by (is_up e.state.phase) (end_keeper x.side h) e.state talk)) identity

pub goes_on_does : (h : Holdings) (kept : List Kept) (took : Bool) (e : Effect) (before middle after : EngineState)
    → middle.link ≡ e.state → middle.outbox.entries ≡ before.outbox.entries ++ map written e.emitted
    → middle.stage ≡ linked → middle.identity ≡ before.identity → middle.own ≡ before.own → middle.number ≡ before.number
    → spoken_of h kept after ≡ after_speaking h kept middle → StandsStill middle after
    → Does (goes_on before.number (end_keeper before.identity.side h) took e (dialogue_of h kept middle.dialogue)) (end_of h kept after) before after
goes_on_does h kept took e before middle after link emitted stage identity own number spoken still =
    let x = speaks_by (is_up e.state.phase) (end_keeper before.identity.side h) e.state (dialogue_of h kept middle.dialogue) in
    let all : spoken_of h kept after ≡ spoken_with (before.outbox.entries ++ map written e.emitted) x =
    spoken ∙ speaks_from h kept before.identity e before.outbox.entries middle link emitted identity in
    let linked_end : Spoken → EndState DialogueState = λ s. record { stage = linked; link = s.link; keeper = s.talk; number = before.number } in
    let at_stage : Stage → EndState DialogueState = λ s. record { stage = s; link = after.link; keeper = dialogue_of h kept after.dialogue; number = after.number } in
    let with_number : Option ℕ → EndState DialogueState = λ n. record { stage = linked; link = after.link; keeper = dialogue_of h kept after.dialogue; number = n } in
    record {
      end = ap at_stage (still.stage ∙ stage) ∙ ap with_number (still.number ∙ number) ∙ ap linked_end all;
      emitted = ap (λ (s : Spoken). s.entries) all ∙ entries_behind before.outbox.entries e.emitted x.emissions;
      identity = still.identity ∙ identity;
      own = still.own ∙ own;
    }

-- ---- the session is over

pub ends_does : {C : Type 0} (id : Identity) (has_parted : Bool) (how : End) (e : Effect) (c c_after : C) (took : Bool) (before after : EngineState)
    → after.stage ≡ ended (how_it_ends has_parted how) → after.link ≡ e.state → c_after ≡ c
    → after.outbox.entries ≡ (before.outbox.entries ++ map written e.emitted) ++ map entry_of (leave has_parted id.side)
    → after.identity ≡ before.identity → after.own ≡ before.own → after.number ≡ before.number
    → Does (ends_so before.number id has_parted how e c took) (record { stage = after.stage; link = after.link; keeper = c_after; number = after.number }) before after
ends_does {C} id has_parted how e c c_after took before after stage link keeper emitted identity own number =
    let by_stage : Stage → EndState C = λ x. record { stage = x; link = after.link; keeper = c_after; number = after.number } in
    let by_link : State → EndState C = λ x. record { stage = ended (how_it_ends has_parted how); link = x; keeper = c_after; number = after.number } in
    let by_keeper : C → EndState C = λ x. record { stage = ended (how_it_ends has_parted how); link = e.state; keeper = x; number = after.number } in
    let by_number : Option ℕ → EndState C = λ x. record { stage = ended (how_it_ends has_parted how); link = e.state; keeper = c; number = x } in
    record {
      end = ap by_stage stage ∙ ap by_link link ∙ ap by_keeper keeper ∙ ap by_number number;
      emitted = emitted ∙ append_assoc before.outbox.entries (map written e.emitted) (map entry_of (leave has_parted id.side))
          ∙ ap (λ (x : List EntryValue). before.outbox.entries ++ x)
          (ap (λ (x : List EntryValue). x ++ map entry_of (leave has_parted id.side)) (sym (packets_written e.emitted))
          ∙ sym (map-append entry_of (packets e.emitted) (leave has_parted id.side)));
      identity = identity;
      own = own;
    }

-- by an outcome that is known
pub by_outcome : (k : Keeper DialogueState) (id : Identity) (device_failed : Bool) (o : OutcomeValue) (e : Effect) (message : List ℕ) (talk : DialogueState)
    (end_after : EndState DialogueState) (before after : EngineState) → o ≡ e.outcome
    → Does (behind_link before.number k id device_failed o e message talk) end_after before after
    → Does (behind_link before.number k id device_failed e.outcome e message talk) end_after before after
by_outcome k id device_failed o e message talk end_after before after is does =
    subst (λ (x : OutcomeValue). Does (behind_link before.number k id device_failed x e message talk) end_after before after) is does

-- CLOSE stands behind what the link emitted
pub closed_behind : (e : Effect) (link : State) (entries entries_then entries_after : List EntryValue)
    → link ≡ e.state → entries_then ≡ entries ++ map written e.emitted
    → entries_after ≡ entries_then ++ map written (step link to_close).emitted
    → entries_after ≡ entries ++ map written (then_closes e).emitted
closed_behind e link entries entries_then entries_after same before after =
    after ∙ ap (λ (x : List EntryValue). x ++ map written (step link to_close).emitted) before
    ∙ ap (λ (s : State). (entries ++ map written e.emitted) ++ map written (step s to_close).emitted) same
    ∙ append_assoc entries (map written e.emitted) (map written (step e.state to_close).emitted)
    ∙ ap (λ (x : List EntryValue). entries ++ x) (sym (map-append written e.emitted (step e.state to_close).emitted))

-- ---- a message was taken

pub taken_bad : (number : Option ℕ) (k : Keeper DialogueState) (id : Identity) (e : Effect) (message : List ℕ) (talk : DialogueState)
    → e.outcome ≡ taken → k.is_bad (k.taking message talk) ≡ true
    → behind_link number k id false e.outcome e message talk
    ≡ ends_so number id (k.has_parted talk) ends.BadTalk (then_closes e) (k.taking message talk) true
taken_bad number k id e message talk outcome bad =
    ap (λ (o : OutcomeValue). behind_link number k id false o e message talk) outcome
    ∙ ap (λ (b : Bool). talks_by number b k id e talk (k.taking message talk)) bad

pub taken_well : (number : Option ℕ) (k : Keeper DialogueState) (id : Identity) (e : Effect) (message : List ℕ) (talk : DialogueState)
    → e.outcome ≡ taken → k.is_bad (k.taking message talk) ≡ false
    → behind_link number k id false e.outcome e message talk ≡ goes_on number k true e (k.taking message talk)
taken_well number k id e message talk outcome well =
    ap (λ (o : OutcomeValue). behind_link number k id false o e message talk) outcome
    ∙ ap (λ (b : Bool). talks_by number b k id e talk (k.taking message talk)) well

pub taken_failed : (number : Option ℕ) (k : Keeper DialogueState) (id : Identity) (e : Effect) (message : List ℕ) (talk : DialogueState)
    → e.outcome ≡ taken → k.asks_spool message talk ≡ true
    → behind_link number k id true e.outcome e message talk
    ≡ ends_so number id (k.has_parted talk) ends.SpoolFault (then_closes e) talk true
taken_failed number k id e message talk outcome asked =
    ap (λ (o : OutcomeValue). behind_link number k id true o e message talk) outcome
    ∙ ap (λ (b : Bool). takes_by number b k id e message talk) asked

-- an effect that is known
pub takes_up : (h : Holdings) (kept kept_after : List Kept) (counts : Bool → Type 0) (device_failed : Bool) (p : PacketValue) (before after : EngineState)
    (e : EndEffect DialogueState) → packet_effect h kept device_failed p before ≡ e → Does e (end_of h kept_after after) before after
    → e.took ≡ true → counts device_failed
    → TakesUp h kept kept_after counts p before after true
takes_up h kept kept_after counts device_failed p before after e is does took device = record {
  device_failed = device_failed;
  does = subst (λ (x : EndEffect DialogueState). Does x (end_of h kept_after after) before after) (sym is) does;
  answer = sym (ap (λ (x : EndEffect DialogueState). x.took) is ∙ took);
  device = device;
}

-- ---- a greeting

texts_written : (texts : List (List ℕ)) → map entry_of (map says_text texts) ≡ map entry_of_text texts
texts_written [] = refl
texts_written (text ∷ texts) = ap (λ (rest : List EntryValue). entry_of_text text ∷ rest) (texts_written texts)

begun_behind : {C : Type 0} (number : Option ℕ) (side : Side) (said : List Emitted) (s : State) (c : C)
    → map entry_of (begins_link number side s c said).emitted ≡ map entry_of said ++ map entry_of (begins_link number side s c []).emitted
begun_behind number Caller said s c = map-append entry_of said (packets (step s to_begin).emitted)
begun_behind number Called said s c = sym (append-nil (map entry_of said))

begun_state : {C : Type 0} (number : Option ℕ) (side : Side) (said : List Emitted) (s : State) (c : C)
    → (begins_link number side s c said).state ≡ (begins_link number side s c []).state
begun_state number Caller said s c = refl
begun_state number Called said s c = refl

led_behind : {C : Type 0} (number : Option ℕ) (id : Identity) (greeted : Greeted) (said : List Emitted) (s : State) (c : C)
    → map entry_of (greeted_so number id greeted said s c).emitted
    ≡ map entry_of said ++ map entry_of (greeted_so number id greeted [] s c).emitted
led_behind number id (GoesOn g) said s c = sym (append-nil (map entry_of said))
led_behind number id LinkBegins said s c = begun_behind number id.side said s c
led_behind number id (Ended how) said s c = sym (append-nil (map entry_of said))

led_state : {C : Type 0} (number : Option ℕ) (id : Identity) (greeted : Greeted) (said : List Emitted) (s : State) (c : C)
    → (greeted_so number id greeted said s c).state ≡ (greeted_so number id greeted [] s c).state
led_state number id (GoesOn g) said s c = refl
led_state number id LinkBegins said s c = begun_state number id.side said s c
led_state number id (Ended how) said s c = refl

-- what was said for it stands in front of what the greeting has led to
pub greeted_does : {C : Type 0} (id : Identity) (greeted : Greeted) (texts : List (List ℕ)) (s : State) (c : C)
    (end_after : EndState C) (before middle after : EngineState)
    → middle.outbox.entries ≡ before.outbox.entries ++ map entry_of_text texts
    → middle.identity ≡ before.identity → middle.own ≡ before.own
    → Does (greeted_so middle.number id greeted [] s c) end_after middle after
    → Does (greeted_so middle.number id greeted (map says_text texts) s c) end_after before after
greeted_does id greeted texts s c end_after before middle after said identity own does = record {
  end = does.end ∙ sym (led_state middle.number id greeted (map says_text texts) s c);
  emitted = does.emitted
      ∙ ap (λ (x : List EntryValue). x ++ map entry_of (greeted_so middle.number id greeted [] s c).emitted) said
      ∙ append_assoc before.outbox.entries (map entry_of_text texts) (map entry_of (greeted_so middle.number id greeted [] s c).emitted)
      ∙ ap (λ (x : List EntryValue). before.outbox.entries ++ x)
      (ap (λ (x : List EntryValue). x ++ map entry_of (greeted_so middle.number id greeted [] s c).emitted) (sym (texts_written texts))
      ∙ sym (led_behind middle.number id greeted (map says_text texts) s c));
  identity = does.identity ∙ identity;
  own = does.own ∙ own;
}

-- ---- a timeout

pub late_by : {C : Type 0} (id : Identity) (has_parted : Bool) (o : OutcomeValue) (e : Effect) (c : C) (end_after : EndState C) (before after : EngineState)
    → o ≡ e.outcome → Does (late_link before.number id has_parted o e c) end_after before after
    → Does (late_link before.number id has_parted e.outcome e c) end_after before after
late_by id has_parted o e c end_after before after is does =
    subst (λ (x : OutcomeValue). Does (late_link before.number id has_parted x e c) end_after before after) is does

pub quiet_does : {C : Type 0} (e : Effect) (c : C) (before after : EngineState)
    → after.stage ≡ linked → after.link ≡ e.state → after.outbox.entries ≡ before.outbox.entries ++ map written e.emitted
    → after.identity ≡ before.identity → after.own ≡ before.own → after.number ≡ before.number
    → Does (goes_on_with before.number false e.emitted (sending_nothing e.state c)) (record { stage = after.stage; link = after.link; keeper = c; number = after.number }) before after
quiet_does {C} e c before after stage link emitted identity own number =
    let by_stage : Stage → EndState C = λ x. record { stage = x; link = after.link; keeper = c; number = after.number } in
    let by_link : State → EndState C = λ x. record { stage = linked; link = x; keeper = c; number = after.number } in
    let by_number : Option ℕ → EndState C = λ x. record { stage = linked; link = e.state; keeper = c; number = x } in
    record {
      end = ap by_stage stage ∙ ap by_link link ∙ ap by_number number;
      emitted = emitted ∙ ap (λ (x : List EntryValue). before.outbox.entries ++ x)
          (sym (packets_written e.emitted) ∙ ap (λ (x : List Emission). map entry_of (packets x)) (sym (append-nil e.emitted)));
      identity = identity;
      own = own;
    }

-- ---- what the link left, by what it answered

pub link_after : (P : Type 0) (o : Outcome) → IfSome (answered (Ok o)) (λ _. P) → P
link_after P Nothing told = told
link_after P Up told = told
link_after P Taken told = told
link_after P Closed told = told

-- ---- with room made for what is to be said

-- such room is no part of the conversation
pub talk_reserved : (h : Holdings) (kept : List Kept) (t u : DialogueValue) → u.opened ≡ t.opened → u.machine ≡ t.machine → u.measure ≡ t.measure
    → u.outgoing.sayings ≡ t.outgoing.sayings → u.outgoing.offset ≡ t.outgoing.offset → dialogue_of h kept u ≡ dialogue_of h kept t
talk_reserved h kept t u opened machine measure sayings offset =
    let by_opened : Bool → DialogueState =
    λ x. record { opened = x; machine = u.machine; measure = u.measure; waiting = messages_of h u.measure u.outgoing.offset u.outgoing.sayings; kept = kept } in
    let by_machine : MachineState → DialogueState =
    λ x. record { opened = t.opened; machine = x; measure = u.measure; waiting = messages_of h u.measure u.outgoing.offset u.outgoing.sayings; kept = kept } in
    let by_measure : Measure → DialogueState =
    λ x. record { opened = t.opened; machine = t.machine; measure = x; waiting = messages_of h x u.outgoing.offset u.outgoing.sayings; kept = kept } in
    let by_sayings : List Saying → DialogueState =
    λ x. record { opened = t.opened; machine = t.machine; measure = t.measure; waiting = messages_of h t.measure u.outgoing.offset x; kept = kept } in
    let by_offset : ℕ → DialogueState =
    λ x. record { opened = t.opened; machine = t.machine; measure = t.measure; waiting = messages_of h t.measure x t.outgoing.sayings; kept = kept } in
    ap by_opened opened ∙ ap by_machine machine ∙ ap by_measure measure ∙ ap by_sayings sayings ∙ ap by_offset offset

not_taken : (number : Option ℕ) (k : Keeper DialogueState) (id : Identity) (o : OutcomeValue) (e : Effect) (message : List ℕ) (talk : DialogueState)
    → o ≢ taken → false ≡ (behind_link number k id false o e message talk).took
not_taken number k id nothing e message talk none = refl
not_taken number k id up e message talk none = refl
not_taken number k id taken e message talk none = absurd (none refl)
not_taken number k id closed e message talk none = refl
not_taken number k id gave_up e message talk none = refl
not_taken number k id halted e message talk none = refl

-- a packet whose message is not taken, at an end that had made room
pub hears_reserved : (h : Holdings) (kept : List Kept) (counts : Bool → Type 0) (p : PacketValue) (before middle after : EngineState)
    → middle.identity ≡ before.identity → middle.own ≡ before.own → middle.number ≡ before.number → middle.link ≡ before.link
    → dialogue_of h kept middle.dialogue ≡ dialogue_of h kept before.dialogue → middle.outbox.entries ≡ before.outbox.entries
    → (step before.link (packet_found p)).outcome ≢ taken → counts false
    → Does (packet_effect h kept false p middle) (end_of h kept after) middle after
    → TakesUp h kept kept counts p before after false
hears_reserved h kept counts p before middle after identity own number link talk entries none counted does =
    let same : packet_effect h kept false p middle ≡ packet_effect h kept false p before =
    ap (λ (id : Identity). packet_came middle.number (end_keeper id.side h) id false p middle.link (dialogue_of h kept middle.dialogue)) identity
    ∙ ap (λ (n : Option ℕ). packet_came n (end_keeper before.identity.side h) before.identity false p middle.link (dialogue_of h kept middle.dialogue)) number
    ∙ ap (λ (s : State). packet_came before.number (end_keeper before.identity.side h) before.identity false p s (dialogue_of h kept middle.dialogue)) link
    ∙ ap (packet_came before.number (end_keeper before.identity.side h) before.identity false p before.link) talk in
    record {
      device_failed = false;
      does = record {
        end = does.end ∙ ap (λ (e : EndEffect DialogueState). e.state) same;
        emitted = does.emitted ∙ ap (λ (x : List EntryValue). x ++ map entry_of (packet_effect h kept false p middle).emitted) entries
            ∙ ap (λ (e : EndEffect DialogueState). before.outbox.entries ++ map entry_of e.emitted) same;
        identity = does.identity ∙ identity;
        own = does.own ∙ own;
      };
      answer = not_taken before.number (end_keeper before.identity.side h) before.identity (step before.link (packet_found p)).outcome
          (step before.link (packet_found p)) (message_of p) (dialogue_of h kept before.dialogue) none;
      device = counted;
    }
