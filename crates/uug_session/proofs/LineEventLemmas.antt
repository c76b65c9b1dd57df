-- What comes at a node's line is some events to it.
use Rattle.std.proofs.Common.{◌≡◌, ℕ, zero, suc, Bool, List, [], ◌∷◌, ◌++◌, length, refl, sym, ap, ◌∙◌, append-nil}
use Rattle.uug_conversation.specs.DialogueState.{DialogueState, end_keeper}
use Rattle.uug_conversation.specs.DialogueValue.{dialogue_has_parted}
use Rattle.uug_conversation.specs.Holdings.{Holdings, Kept}
use Rattle.uug_session.proofs.CallLemmas.{late_beside, lost_beside}
use Rattle.uug_session.specs.Arriving.{Arrival, Buffered, Receiver, all_taken, held_in, holds, stopped, takes_piece, takes_up, takes_up_to}
use Rattle.uug_session.specs.EndStep.{EndEffect, EndEvent, EndState, Emitted, Identity, Stage, hailing, linked, ended, end_step, line_lost, packet_found_whole, time_ran_out}
use Rattle.uug_session.specs.Engine.{Does, EngineState, bare, end_of, hung_up, stage_late, with_outbox, with_stage}
use Rattle.uug_session.specs.Finding.{Finding, finding, finds, finds_nothing, finds_packet}
use Rattle.uug_session.specs.Node.{NodeState, bytes_at, effect_of, held_bytes}
use Rattle.uug_session.specs.NodeArriving.{NodeEnd, TakesAll, fails_first, fails_later, hearer_of, node_taker}
use Rattle.uug_session.proofs.HeldLemmas.{held_late, same_bytes}
use Rattle.uug_session.specs.LineEvents.{HasListened, IsLedByLine, LineEvent, ListeningEnd, after_line_event, after_line_events, brings_bytes, brings_nothing, buffered, event_step, event_taker, failing_so, is_at_end, is_left, listening_at, listens_to, with_event}
use Rattle.uug_session.specs.NodeRuns.{state_after}
use Rattle.uug_session.proofs.NodeRunLemmas.{state_append}

module _ (h : Holdings) (id : Identity) (first : EndState DialogueState) where
  -- the events led it there from how it was at first
  abbrev IsLed : ListeningEnd → Type 0
  IsLed x = state_after h id x.events first ≡ x.state

  abbrev AreLed : Arrival ListeningEnd → Type 0
  AreLed (all_taken b) = IsLed b.end
  AreLed (stopped b) = IsLed b.end

  one_more : (event : EndEvent) (x : ListeningEnd) (failures : List Bool) → IsLed x →
      IsLed (with_event event (event_step h id event x) failures x)
  one_more event x failures led =
      state_append h id x.events (event ∷ []) first
      ∙ ap (λ (e : EndState DialogueState). state_after h id (event ∷ []) e) led

  -- ---- a piece

  abbrev t : Receiver ListeningEnd
  t = event_taker h id

  abbrev AllLed : ℕ → Type 0
  AllLed n = (b : Buffered ListeningEnd) → IsLed b.end → AreLed (takes_up_to n t b)

  found_led : (n : ℕ) → AllLed n → (what : Finding) (x : ListeningEnd) → IsLed x → AreLed (takes_up (takes_up_to n t) t what x)
  found_led n more (finds_nothing rest) x led = led
  found_led n more (finds event behind) x led =
      more (holds t behind (t.takes event x)) (one_more event x x.failures led)
  found_led n more (finds_packet p from behind) x led =
      let event = packet_found_whole (fails_first x.failures) p in
      more (holds t behind (with_event event (event_step h id event x) (fails_later x.failures) x))
      (one_more event x (fails_later x.failures) led)

  all_led : (n : ℕ) → AllLed n
  all_led zero b led = led
  all_led (suc n) b led = found_led n (all_led n) (finding b.end.state.stage b.held) b.end led

  buffered_led : (a : Arrival ListeningEnd) → AreLed a → IsLed (buffered a).end
  buffered_led (all_taken b) led = led
  buffered_led (stopped b) led = led

  -- ---- what comes at the line

  event_led : (e : LineEvent) (b : Buffered ListeningEnd) → IsLed b.end → IsLed (after_line_event h id e b).end
  event_led (brings_bytes piece failures) b led =
      let so = failing_so failures b in
      let now = holds t (so.held ++ piece) so.end in
      buffered_led (takes_piece t piece so) (all_led (suc (length now.held)) now led)
  event_led brings_nothing b led = one_more time_ran_out b.end b.end.failures led
  event_led is_at_end b led = led
  event_led is_left b led = one_more line_lost b.end b.end.failures led

  pub events_led : (es : List LineEvent) (b : Buffered ListeningEnd) → IsLed b.end → IsLed (after_line_events h id es b).end
  events_led [] b led = led
  events_led (e ∷ es) b led = events_led es (after_line_event h id e b) (event_led e b led)

pub heard_leads : (h : Holdings) (kept kept_after : List Kept) (es : List LineEvent) (emitted : List Emitted) (before after : NodeState) →
    HasListened h kept kept_after es emitted before after → IsLedByLine h kept kept_after es before after
heard_leads h kept kept_after es emitted before after heard = record {
  led = record {
    events = (listens_to h kept before es).end.events;
    leads = events_led h before.engine.identity (end_of h kept before.engine) es (listening_at h kept before) refl ∙ heard.state;
    identity = heard.identity;
  };
  events = refl;
}

-- ---- without the events it is what takes up what comes to a node

abbrev plain : ListeningEnd → NodeEnd
plain x = record { state = x.state; emitted = x.emitted; failures = x.failures }

abbrev plain_buffered : Buffered ListeningEnd → Buffered NodeEnd
plain_buffered b = record { held = b.held; end = plain b.end }

abbrev plain_arrival : Arrival ListeningEnd → Arrival NodeEnd
plain_arrival (all_taken b) = all_taken (plain_buffered b)
plain_arrival (stopped b) = stopped (plain_buffered b)

module _ (h : Holdings) (id : Identity) where
  abbrev noting : Receiver ListeningEnd
  noting = event_taker h id

  abbrev taking : Receiver NodeEnd
  taking = node_taker h id

  abbrev ArePlain : ℕ → Type 0
  ArePlain n = (b : Buffered ListeningEnd) → plain_arrival (takes_up_to n noting b) ≡ takes_up_to n taking (plain_buffered b)

  found_plain : (n : ℕ) → ArePlain n → (what : Finding) (x : ListeningEnd) →
      plain_arrival (takes_up (takes_up_to n noting) noting what x) ≡ takes_up (takes_up_to n taking) taking what (plain x)
  found_plain n more (finds_nothing rest) x = refl
  found_plain n more (finds event behind) x = more (holds noting behind (noting.takes event x))
  found_plain n more (finds_packet p from behind) x =
      let event = packet_found_whole (fails_first x.failures) p in
      more (holds noting behind (with_event event (event_step h id event x) (fails_later x.failures) x))

  all_plain : (n : ℕ) → ArePlain n
  all_plain zero b = refl
  all_plain (suc n) b = found_plain n (all_plain n) (finding b.end.state.stage b.held) b.end

  piece_plain : (piece : List ℕ) (b : Buffered ListeningEnd) →
      plain_arrival (takes_piece noting piece b) ≡ takes_piece taking piece (plain_buffered b)
  piece_plain piece b =
      let now = holds noting (b.held ++ piece) b.end in
      all_plain (suc (length now.held)) now

buffered_plain : (a : Arrival ListeningEnd) → plain_buffered (buffered a) ≡ buffered (plain_arrival a)
buffered_plain (all_taken b) = refl
buffered_plain (stopped b) = refl

-- ---- one more line event

-- what it does to whatever listens there as the node stands
pub record ListensOn (h : Holdings) (kept kept_after : List Kept) (e : LineEvent) (says : List Emitted) (before after : NodeState) :
    Type 0 where
  pub held : (b : Buffered ListeningEnd) → b.held ≡ held_bytes before → b.end.state ≡ end_of h kept before.engine →
      (after_line_event h before.engine.identity e b).held ≡ held_bytes after
  pub state : (b : Buffered ListeningEnd) → b.held ≡ held_bytes before → b.end.state ≡ end_of h kept before.engine →
      (after_line_event h before.engine.identity e b).end.state ≡ end_of h kept_after after.engine
  pub emitted : (b : Buffered ListeningEnd) → b.held ≡ held_bytes before → b.end.state ≡ end_of h kept before.engine →
      (after_line_event h before.engine.identity e b).end.emitted ≡ b.end.emitted ++ says
  pub identity : after.engine.identity ≡ before.engine.identity

after_more : (h : Holdings) (id : Identity) (es more : List LineEvent) (b : Buffered ListeningEnd) →
    after_line_events h id (es ++ more) b ≡ after_line_events h id more (after_line_events h id es b)
after_more h id [] more b = refl
after_more h id (e ∷ es) more b = after_more h id es more (after_line_event h id e b)

pub listens_more : (h : Holdings) (k l m : List Kept) (es : List LineEvent) (e : LineEvent) (says more : List Emitted)
    (a b d : NodeState) → HasListened h k l es says a b → ListensOn h l m e more b d →
    HasListened h k m (es ++ e ∷ []) (says ++ more) a d
listens_more h k l m es e says more a b d listened on =
    let r = listens_to h k a es in
    let all = after_more h a.engine.identity es (e ∷ []) (listening_at h k a) in
    let next : Identity → Buffered ListeningEnd = λ id. after_line_event h id e r in
    record {
      held = ap (λ (x : Buffered ListeningEnd). x.held) all
          ∙ ap (λ id. (next id).held) (sym listened.identity) ∙ on.held r listened.held listened.state;
      state = ap (λ (x : Buffered ListeningEnd). x.end.state) all
          ∙ ap (λ id. (next id).end.state) (sym listened.identity) ∙ on.state r listened.held listened.state;
      emitted = ap (λ (x : Buffered ListeningEnd). x.end.emitted) all
          ∙ ap (λ id. (next id).end.emitted) (sym listened.identity) ∙ on.emitted r listened.held listened.state
          ∙ ap (λ (s : List Emitted). s ++ more) listened.emitted;
      identity = on.identity ∙ listened.identity;
    }

-- nothing has come
pub listens_at_first : (h : Holdings) (k : List Kept) (a : NodeState) → HasListened h k k [] [] a a
listens_at_first h k a = record { held = refl; state = refl; emitted = refl; identity = refl }

-- its outbox is cleared
pub cleared_bytes : (a b : NodeState) → b.engine ≡ with_outbox b.engine.outbox a.engine → b.texts ≡ a.texts → b.packets ≡ a.packets →
    held_bytes b ≡ held_bytes a
cleared_bytes a b engine texts packets =
    ap (λ (e : EngineState). bytes_at e.stage b) engine ∙ same_bytes a.engine.stage b a texts packets

pub listens_cleared : (h : Holdings) (k l m : List Kept) (es : List LineEvent) (says : List Emitted) (a b d : NodeState) →
    HasListened h k l es says a b → d.engine ≡ with_outbox d.engine.outbox b.engine → d.texts ≡ b.texts → d.packets ≡ b.packets →
    m ≡ l → HasListened h k m es says a d
listens_cleared h k l m es says a b d listened engine texts packets same = record {
  held = listened.held ∙ sym (cleared_bytes b d engine texts packets);
  state = listened.state ∙ sym (ap (λ (e : EngineState). end_of h m e) engine ∙ ap (λ (kept : List Kept). end_of h kept b.engine) same);
  emitted = listened.emitted;
  identity = ap (λ (e : EngineState). e.identity) engine ∙ listened.identity;
}

-- bytes come, all of which are taken up
pub piece_listens : (h : Holdings) (k l : List Kept) (failure : Type 0) (piece : List ℕ) (a b : NodeState) →
    (takes : TakesAll h k l failure piece a b) →
    ListensOn h k l (brings_bytes piece (takes.course.failures ++ [])) takes.course.emitted a b
piece_listens h k l failure piece a b takes = record {
  held = λ r held state. ap (λ (x : Buffered NodeEnd). x.held) (came r held state);
  state = λ r held state. ap (λ (x : Buffered NodeEnd). x.end.state) (came r held state);
  emitted = λ r held state. ap (λ (x : Buffered NodeEnd). x.end.emitted) (came r held state);
  identity = takes.course.identity;
} where
  came : (r : Buffered ListeningEnd) → r.held ≡ held_bytes a → r.end.state ≡ end_of h k a.engine →
      plain_buffered (after_line_event h a.engine.identity (brings_bytes piece (takes.course.failures ++ [])) r)
      ≡ hearer_of h l (r.end.emitted ++ takes.course.emitted) [] b
  came r held state =
      let so = failing_so (takes.course.failures ++ []) r in
      let t = node_taker h a.engine.identity in
      let taken_from : List ℕ → EndState DialogueState → Arrival NodeEnd =
      λ bytes s. takes_piece t piece (record { held = bytes; end = record { state = s; emitted = r.end.emitted; failures = takes.course.failures ++ [] } }) in
      buffered_plain (takes_piece (event_taker h a.engine.identity) piece so)
      ∙ ap buffered (piece_plain h a.engine.identity piece so
      ∙ ap (λ bytes. taken_from bytes r.end.state) held ∙ ap (λ s. taken_from (held_bytes a) s) state
      ∙ takes.taken r.end.emitted [])

-- a timeout
pub late_listens : (h : Holdings) (k : List Kept) (a b : NodeState) →
    Does (stage_late a.engine.number a.engine.identity (dialogue_has_parted a.engine.dialogue) a.engine.stage a.engine.link a.engine.dialogue)
    (bare b.engine) a.engine b.engine → b.texts ≡ a.texts → b.packets ≡ a.packets →
    ListensOn h k k brings_nothing (effect_of h k time_ran_out a.engine).emitted a b
late_listens h k a b late texts packets =
    let id = a.engine.identity in
    let e = effect_of h k time_ran_out a.engine in
    let does = late_beside h k a.engine b.engine late in
    let stage : b.engine.stage ≡ e.state.stage = ap (λ (x : EndState DialogueState). x.stage) does.end in
    let step : EndState DialogueState → EndEffect DialogueState = λ s. end_step (end_keeper id.side h) id time_ran_out s in
    record {
      held = λ r held state.
          ap (λ s. held_in (step s).state.stage r.held) state ∙ ap (held_in e.state.stage) held
          ∙ sym (held_late a.engine.number (end_keeper id.side h) id a.engine.stage a.engine.link (end_of h k a.engine).keeper a)
          ∙ sym (same_bytes e.state.stage b a texts packets) ∙ ap (λ (s : Stage). bytes_at s b) (sym stage);
      state = λ r held state. ap (λ s. (step s).state) state ∙ sym does.end;
      emitted = λ r held state. ap (λ s. r.end.emitted ++ (step s).emitted) state;
      identity = does.identity;
    }

-- it hangs up
held_lost : (parted : Bool) (stage : Stage) (n : NodeState) (bytes : List ℕ) →
    held_in (hung_up parted stage) bytes ≡ bytes_at (hung_up parted stage) n
held_lost parted (hailing g) n bytes = refl
held_lost parted linked n bytes = refl
held_lost parted (ended how) n bytes = refl

pub lost_listens : (h : Holdings) (k : List Kept) (a b : NodeState) →
    b.engine ≡ with_stage (hung_up (dialogue_has_parted a.engine.dialogue) a.engine.stage) a.engine →
    ListensOn h k k is_left [] a b
lost_listens h k a b is =
    let id = a.engine.identity in
    let over = hung_up (dialogue_has_parted a.engine.dialogue) a.engine.stage in
    let lost = lost_beside h k a.engine in
    let step : EndState DialogueState → EndEffect DialogueState = λ s. end_step (end_keeper id.side h) id line_lost s in
    record {
      held = λ r held state.
          ap (λ s. held_in (step s).state.stage r.held) state ∙ ap (λ (x : EndEffect DialogueState). held_in x.state.stage r.held) lost
          ∙ held_lost (dialogue_has_parted a.engine.dialogue) a.engine.stage b r.held
          ∙ ap (λ (e : EngineState). bytes_at e.stage b) (sym is);
      state = λ r held state.
          ap (λ s. (step s).state) state ∙ ap (λ (x : EndEffect DialogueState). x.state) lost
          ∙ ap (λ (e : EngineState). end_of h k e) (sym is);
      emitted = λ r held state.
          ap (λ s. r.end.emitted ++ (step s).emitted) state ∙ ap (λ (x : EndEffect DialogueState). r.end.emitted ++ x.emitted) lost;
      identity = ap (λ (e : EngineState). e.identity) is;
    }

-- the line is at its end
pub end_listens : (h : Holdings) (k : List Kept) (a : NodeState) → ListensOn h k k is_at_end [] a a
end_listens h k a = record {
  held = λ r held state. held;
  state = λ r held state. state;
  emitted = λ r held state. sym (append-nil r.end.emitted);
  identity = refl;
}
