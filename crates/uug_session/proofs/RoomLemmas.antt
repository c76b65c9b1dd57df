-- An end sends while there is room: no window lets out more messages than are tried.
use Rattle.std.proofs.Common.{◌≡◌, inl, inr, ◌⊎◌, ℕ, zero, suc, ◌+◌, ◌≤◌, nat_lt, Bool, true, false, if◌then◌else◌, List, [], ◌∷◌, length, Option, Some, None, refl, sym, ap, subst, ◌∙◌, arith, length-append}
use Rattle.std.proofs.lemmas.Bool.Decides.{nat_tests}
use Rattle.uug_link.specs.Announced.{Announced}
use Rattle.uug_link.specs.declared.limits.TheConstants.{TIMEOUTS_MAX, WINDOW_MAX}
use Rattle.uug_link.specs.declared.phase.Phase.{Phase}
use Rattle.uug_link.specs.declared.phase.Phase.TheVariants.{Fresh, AwaitsInitA, AwaitsInitB, AwaitsInitC, Up, Closing, Halted}
use Rattle.uug_link.specs.State.{State, is_halted}
use Rattle.uug_link.specs.Step.{Effect, nothing, gave_up, answers, answers_halted, on_event, on_send, repeated, step, timed_out, to_begin, to_close, to_send}
use Rattle.uug_packet.specs.Packet.{close}
use Rattle.uug_session.specs.EndStep.{EndEffect, EndEvent, EndState, Identity, Sending, closes_by, end_step, goes_on, has_room, is_up, sends, sends_by, sends_next, sends_up_to, speaks_by, begins_session, first_link}
use Rattle.uug_session.specs.Engine.{Does, EngineState, end_of}
use Rattle.uug_conversation.specs.Holdings.{Holdings, Kept}
use Rattle.uug_conversation.specs.Keeper.{Keeper}
use Rattle.uug_session.specs.Node.{effect_of}
use Rattle.uug_conversation.specs.DialogueState.{DialogueState, end_keeper}
use Rattle.uug_session.specs.Sending.{HasSaidWhatItCan, NodeHasSaidWhatItCan, SaidAt}
use Rattle.uug_conversation.specs.declared.side.Side.{Side}
use Rattle.uug_conversation.specs.declared.side.Side.TheVariants.{Caller, Called}
use Rattle.uug_session.proofs.StepKeeps.{speaks_so, linked_leads, hailing_leads, stage_leads}

-- ---- where there is no room

down_by : (up : Bool) (n w : ℕ) → up ≡ false → (if up then nat_lt n w else false) ≡ false
down_by true n w is = absurd cc
down_by false n w is = refl

pub down_has_no_room : (s : State) → is_up s.phase ≡ false → has_room s ≡ false
down_has_no_room s is = down_by (is_up s.phase) (length s.unacked) s.window is

full_by : (up : Bool) (n w : ℕ) → w ≤ n → (if up then nat_lt n w else false) ≡ false
full_by true n w full = grind (arith, nat_tests, full)
full_by false n w full = refl

full_has_no_room : (s : State) → s.window ≤ length s.unacked → has_room s ≡ false
full_has_no_room s full = full_by (is_up s.phase) (length s.unacked) s.window full

pub halted_is_down : (p : Phase) → is_halted p ≡ true → is_up p ≡ false
halted_is_down Fresh is = refl
halted_is_down AwaitsInitA is = refl
halted_is_down AwaitsInitB is = refl
halted_is_down AwaitsInitC is = refl
halted_is_down Up is = absurd cc
halted_is_down Closing is = refl
halted_is_down Halted is = refl

room_is_live : (p : Phase) (room : Bool) → (if is_up p then room else false) ≡ true → is_halted p ≡ false
room_is_live Fresh room is = refl
room_is_live AwaitsInitA room is = refl
room_is_live AwaitsInitB room is = refl
room_is_live AwaitsInitC room is = refl
room_is_live Up room is = refl
room_is_live Closing room is = refl
room_is_live Halted room is = absurd cc

-- ---- sending

-- nothing more goes out, or nothing more is to be said
abbrev pub SaidAll : {C : Type 0} → Keeper C → Sending C → Type 0
SaidAll k x = (has_room x.link ≡ false) ⊎ (k.next x.keeper ≡ None)

sent_so : (message : List ℕ) (s : State) → has_room s ≡ true → step s (to_send message) ≡ on_send message s
sent_so message s room =
    ap (λ (b : Bool). if b then answers_halted s else on_event (to_send message) s)
    (room_is_live s.phase (nat_lt (length s.unacked) s.window) room)

sent_more : (message : List ℕ) (s : State) (n : ℕ) → has_room s ≡ true → s.window ≤ length s.unacked + suc n
    → (step s (to_send message)).state.window ≤ length (step s (to_send message)).state.unacked + n
sent_more message s n room within =
    subst (λ (e : Effect). e.state.window ≤ length e.state.unacked + n) (sym (sent_so message s room))
    (omega (arith, within, length-append s.unacked (message ∷ [])))

said_next : {C : Type 0} (n : ℕ) (k : Keeper C) (s : State) (c : C) (next : Option (List ℕ)) → k.next c ≡ next → has_room s ≡ true
    → s.window ≤ length s.unacked + suc n
    → ((t : State) (d : C) → t.window ≤ length t.unacked + n → SaidAll k (sends_up_to n k t d))
    → SaidAll k (sends_next (sends_up_to n k) k next s c)
said_next n k s c None is room within more = inr is
said_next n k s c (Some message) is room within more =
    more (step s (to_send message)).state (k.sent c) (sent_more message s n room within)

said_by : {C : Type 0} (n : ℕ) (k : Keeper C) (s : State) (c : C) (room : Bool) → has_room s ≡ room → s.window ≤ length s.unacked + suc n
    → ((t : State) (d : C) → t.window ≤ length t.unacked + n → SaidAll k (sends_up_to n k t d))
    → SaidAll k (sends_by room (sends_up_to n k) k s c)
said_by n k s c false is within more = inl is
said_by n k s c true is within more = said_next n k s c (k.next c) refl is within more

-- as many messages as the window lets out are tried
pub said_up_to : {C : Type 0} (n : ℕ) (k : Keeper C) (s : State) (c : C) → s.window ≤ length s.unacked + n
    → SaidAll k (sends_up_to n k s c)
said_up_to zero k s c within = inl (full_has_no_room s (omega (arith, within)))
said_up_to (suc n) k s c within = said_by n k s c (has_room s) refl within (said_up_to n k)

-- ---- the window stays

sent_window : (halts : Bool) (message : List ℕ) (s : State)
    → (if halts then answers_halted s else on_event (to_send message) s).state.window ≡ s.window
sent_window true message s = refl
sent_window false message s = refl

-- ---- closing

closed_window : (halts : Bool) (s : State) → (if halts then answers_halted s else on_event to_close s).state.window ≡ s.window
closed_window true s = refl
closed_window false s = refl

closed_has_no_room : (halts : Bool) (s : State) → is_halted s.phase ≡ halts
    → has_room (if halts then answers_halted s else on_event to_close s).state ≡ false
closed_has_no_room true s is = down_has_no_room s (halted_is_down s.phase is)
closed_has_no_room false s is = refl

close_said : {C : Type 0} (over : Bool) (k : Keeper C) (x : Sending C) → SaidAll k x → SaidAll k (closes_by over x)
close_said false k x said = said
close_said true k x said = inl (closed_has_no_room (is_halted x.link.phase) x.link refl)

-- ---- behind the link's answer

speak_window : {C : Type 0} (live : Bool) (k : Keeper C) (s : State) (c : C) → (speaks_by live k s c).link.window ≡ s.window
speak_window live k s c =
    speaks_so k (λ t d. t.window ≡ s.window) (λ x. x.link.window ≡ s.window) (λ t d same. same)
    (λ t d message room next same. (sent_window (is_halted t.phase) message t ∙ same, λ x is. is))
    (λ x same. closed_window (is_halted x.link.phase) x.link ∙ same) live s c refl

speak_said : {C : Type 0} (up : Bool) (k : Keeper C) (s : State) (c : C) → is_up s.phase ≡ up → s.window ≤ WINDOW_MAX
    → SaidAll k (speaks_by up k s c)
speak_said false k s c is within = inl (down_has_no_room s is)
speak_said true k s c is within =
    let x = sends k s c in
    close_said (k.is_over x.keeper) k x (said_up_to WINDOW_MAX k s c (omega (arith, within)))

-- for a window that may be announced
abbrev Says : {C : Type 0} → Keeper C → EndEffect C → Type 0
Says k x = x.state.link.window ≤ WINDOW_MAX → HasSaidWhatItCan k x.state

goes_on_said : {C : Type 0} (number : Option ℕ) (k : Keeper C) (took : Bool) (e : Effect) (c : C) → Says k (goes_on number k took e c)
goes_on_said number k took e c within =
    speak_said (is_up e.state.phase) k e.state c refl
    (subst (λ (w : ℕ). w ≤ WINDOW_MAX) (speak_window (is_up e.state.phase) k e.state c) within)

-- ---- a timeout

-- what the link does then, by whether it goes on
abbrev pub late_effect : (lasts : Bool) → State → Effect
late_effect lasts s =
    if lasts
    then record {
      state = record s { timeouts = s.timeouts + 1; reject_left = 0 };
      emitted = repeated s.role s.phase s;
      outcome = nothing;
    }
    else answers (record s { phase = Halted; timeouts = TIMEOUTS_MAX; reject_left = 0 }) close gave_up

late_room_by : (lasts : Bool) (s : State) → has_room s ≡ false → has_room (late_effect lasts s).state ≡ false
late_room_by true s none = none
late_room_by false s none = refl

late_room : (halts : Bool) (s : State) → has_room s ≡ false
    → has_room (if halts then answers_halted s else on_event timed_out s).state ≡ false
late_room true s none = none
late_room false s none = late_room_by (nat_lt (s.timeouts + 1) TIMEOUTS_MAX) s none

still_said : {C : Type 0} (k : Keeper C) (s : State) (c : C) → (has_room s ≡ false) ⊎ (k.next c ≡ None)
    → (has_room (step s timed_out).state ≡ false) ⊎ (k.next c ≡ None)
still_said k s c (inl none) = inl (late_room (is_halted s.phase) s none)
still_said k s c (inr none) = inr none

-- ---- the greeting

pub begun_is_down : (halts : Bool) (s : State) → is_halted s.phase ≡ halts
    → is_up (if halts then answers_halted s else on_event to_begin s).state.phase ≡ false
begun_is_down true s is = halted_is_down s.phase is
begun_is_down false s is = refl

-- ---- a step

pub stays_said : {C : Type 0} (k : Keeper C) (id : Identity) (event : EndEvent) (e : EndState C)
    → (end_step k id event e).state.link.window ≤ WINDOW_MAX → HasSaidWhatItCan k e → HasSaidWhatItCan k (end_step k id event e).state
stays_said k id event e within said =
    stage_leads k id event e (Says k) (λ stage. SaidAt k stage e.link e.keeper)
    (λ g down. hailing_leads id e (Says k) (λ number next says within. down)
    (λ number says is within. inl (down_has_no_room (step e.link to_begin).state (begun_is_down (is_halted e.link.phase) e.link refl)))
    (λ number says within. inl (down_has_no_room e.link down)) (λ number how says within. tt) (λ within. said) g event)
    (λ so_far. linked_leads k id e (Says k) (λ took x c. goes_on_said e.number k took x c) (λ parted how x c took none within. tt)
    (λ within. still_said k e.link e.keeper so_far) (λ within. tt) (λ within. said) event)
    (λ within. said) e.stage said within

first_said : (side : Side) (own : Announced) → is_up (first_link side own).phase ≡ false
first_said Caller own = refl
first_said Called own = refl

pub begins_so : {C : Type 0} (k : Keeper C) (id : Identity) (own : Announced) (number : Option ℕ) (c : C)
    → HasSaidWhatItCan k (begins_session id own number c).state
begins_so k id own number c = first_said id.side own

-- ---- a node

pub node_said : (h : Holdings) (kept kept_after : List Kept) (event : EndEvent) (before after : EngineState)
    → after.link.window ≤ WINDOW_MAX → Does (effect_of h kept event before) (end_of h kept_after after) before after
    → NodeHasSaidWhatItCan h kept before → NodeHasSaidWhatItCan h kept_after after
node_said h kept kept_after event before after within does said =
    let k = end_keeper before.identity.side h in
    let kept_up = stays_said k before.identity event (end_of h kept before)
    (subst (λ (s : EndState DialogueState). s.link.window ≤ WINDOW_MAX) does.end within) said in
    subst (λ (id : Identity). HasSaidWhatItCan (end_keeper id.side h) (end_of h kept_after after)) (sym does.identity)
    (subst (λ (s : EndState DialogueState). HasSaidWhatItCan k s) (sym does.end) kept_up)
