-- An end sends what it has to say while there is room, and closes its link where all is over.
use Rattle.std.proofs.Common.{◌≡◌, ◌<◌, ◌&&◌, ℕ, zero, suc, Bool, true, false, nat_lt, if◌then◌else◌, List, [], ◌∷◌, length, Option, None, ap, sym, ◌∙◌, IsTrue, ◌↔◌, refl, arith}
use Rattle.std.proofs.lemmas.Bool.Decides.{nat_tests}
use Rattle.std.proofs.lemmas.List.{append-nil}
use Rattle.uug_link.specs.declared.limits.TheConstants.{WINDOW_MAX}
use Rattle.uug_link.specs.declared.phase.Phase.{Phase}
use Rattle.uug_link.specs.declared.phase.Phase.TheVariants as phases
use Rattle.uug_link.specs.Entries.{EntryValue}
use Rattle.uug_link.specs.State.{State, HasRoom, IsUp}
use Rattle.uug_session.specs.EndStep.{Sending, closes_by, has_room, is_up, sending_nothing, sends_by, sends_next, sends_up_to, speaks_by}
use Rattle.uug_session.specs.Engine.{EngineState, Spoken, after_sends, after_speaking, spoken_of, spoken_with}
use Rattle.uug_conversation.specs.Holdings.{Kept, Holdings}
use Rattle.uug_conversation.specs.Keeper.{Keeper}
use Rattle.uug_conversation.specs.Runs.{is_over}
use Rattle.uug_conversation.specs.DialogueState.{DialogueState, behind_first, end_keeper, first_of, has_parted_by, is_through, state_has_parted, with_first_sent}
use Rattle.uug_conversation.specs.DialogueValue.{DialogueValue, dialogue_of, dialogue_has_parted, dialogue_is_through}
use Rattle.uug_conversation.proofs.OutgoingLemmas.{silent_is_empty}

-- ---- whether there is room

up_and_below : (phase : Phase) (unacked window : ℕ) (b : Bool)
    → (IsTrue b ↔ ((phase ≡ phases.Up) × (unacked < window)))
    → (if is_up phase then nat_lt unacked window else false) ≡ b
up_and_below phases.Up unacked window b told = grind (arith, nat_tests)
up_and_below phases.Fresh unacked window b told = grind (arith, nat_tests)
up_and_below phases.AwaitsInitA unacked window b told = grind (arith, nat_tests)
up_and_below phases.AwaitsInitB unacked window b told = grind (arith, nat_tests)
up_and_below phases.AwaitsInitC unacked window b told = grind (arith, nat_tests)
up_and_below phases.Closing unacked window b told = grind (arith, nat_tests)
up_and_below phases.Halted unacked window b told = grind (arith, nat_tests)

-- what the link tells is what the definitions ask
pub room_told : (s : State) (b : Bool) → (IsTrue b ↔ HasRoom s) → has_room s ≡ b
room_told s b told = up_and_below s.phase (length s.unacked) s.window b told

-- ---- no more goes out

pub no_room : {C : Type 0} (k : Keeper C) (n : ℕ) (s : State) (c : C) → has_room s ≡ false
    → sends_up_to n k s c ≡ sending_nothing s c
no_room k zero s c e = refl
no_room k (suc n) s c e = ap (λ (b : Bool). sends_by b (sends_up_to n k) k s c) e

with_nothing : {C : Type 0} (k : Keeper C) (more : State → C → Sending C) (room : Bool) (s : State) (c : C) → k.next c ≡ None
    → sends_by room more k s c ≡ sending_nothing s c
with_nothing k more false s c e = refl
with_nothing k more true s c e = ap (λ (o : Option (List ℕ)). sends_next more k o s c) e

pub nothing_next : {C : Type 0} (k : Keeper C) (n : ℕ) (s : State) (c : C) → k.next c ≡ None
    → sends_up_to n k s c ≡ sending_nothing s c
nothing_next k zero s c e = refl
nothing_next k (suc n) s c e = with_nothing k (sends_up_to n k) (has_room s) s c e

-- so the end is as it was
pub stays_so : (entries : List EntryValue) (x : Sending DialogueState) (s : State) (talk : DialogueState) → x ≡ sending_nothing s talk
    → spoken_with entries x ≡ record { link = s; talk = talk; entries = entries }
stays_so entries x s talk e =
    let so : List EntryValue → Spoken = λ es. record { link = s; talk = talk; entries = es } in
    ap (spoken_with entries) e ∙ ap so (append-nil entries)

-- ---- nothing is left to say

no_first : (messages : List (List ℕ)) → first_of messages ≡ None → behind_first messages ≡ messages
no_first [] e = refl
no_first (message ∷ messages) e = grind arith

unsent : (talk : DialogueState) → first_of talk.waiting ≡ None → with_first_sent talk ≡ talk
unsent talk e =
    let so : List (List ℕ) → DialogueState = λ waiting. record talk { waiting = waiting } in
    ap so (no_first talk.waiting e)

pub says_nothing_more : (n : ℕ) (h : Holdings) (kept : List Kept) (e : EngineState) (after : DialogueValue)
    → first_of (dialogue_of h kept e.dialogue).waiting ≡ None
    → dialogue_of h kept after ≡ with_first_sent (dialogue_of h kept e.dialogue)
    → after_sends n h kept e ≡ record { link = e.link; talk = dialogue_of h kept after; entries = e.outbox.entries }
says_nothing_more n h kept e after none sent =
    let talk = dialogue_of h kept e.dialogue in
    let so : DialogueState → Spoken = λ t. record { link = e.link; talk = t; entries = e.outbox.entries } in
    stays_so e.outbox.entries _ e.link talk (nothing_next (end_keeper e.identity.side h) n e.link talk none)
    ∙ ap so (sym (sent ∙ unsent talk none))

-- ---- what the code asks of its conversation is what the definitions ask

pub is_through_told : (h : Holdings) (kept : List Kept) (t : DialogueValue) → dialogue_is_through t ≡ is_through (dialogue_of h kept t)
is_through_told h kept t = ap (λ (b : Bool). is_over t.machine.awaits && b) (silent_is_empty h t.measure t.outgoing)

pub has_parted_told : (h : Holdings) (kept : List Kept) (t : DialogueValue) → dialogue_has_parted t ≡ state_has_parted (dialogue_of h kept t)
has_parted_told h kept t = ap (has_parted_by t.machine.awaits) (silent_is_empty h t.measure t.outgoing)

-- ---- behind the sends

abbrev all_sent : Holdings → List Kept → EngineState → Sending DialogueState
all_sent h kept e = sends_up_to WINDOW_MAX (end_keeper e.identity.side h) e.link (dialogue_of h kept e.dialogue)

speaks_up : (h : Holdings) (kept : List Kept) (e : EngineState) → IsUp e.link
    → after_speaking h kept e ≡ spoken_with e.outbox.entries (closes_by (is_through (all_sent h kept e).keeper) (all_sent h kept e))
speaks_up h kept e up =
    let k = end_keeper e.identity.side h in
    ap (λ (b : Bool). spoken_with e.outbox.entries (speaks_by b k e.link (dialogue_of h kept e.dialogue))) (ap is_up up)

-- the keeper's answer is that of the end which has sent
through_then : (h : Holdings) (kept : List Kept) (e sent : EngineState)
    → spoken_of h kept sent ≡ after_sends WINDOW_MAX h kept e
    → is_through (all_sent h kept e).keeper ≡ dialogue_is_through sent.dialogue
through_then h kept e sent is =
    ap (λ (x : Spoken). is_through x.talk) (sym is) ∙ sym (is_through_told h kept sent.dialogue)

pub goes_on_open : (h : Holdings) (kept : List Kept) (e sent : EngineState) → IsUp e.link
    → spoken_of h kept sent ≡ after_sends WINDOW_MAX h kept e → dialogue_is_through sent.dialogue ≡ false
    → spoken_of h kept sent ≡ after_speaking h kept e
goes_on_open h kept e sent up is open_still =
    is ∙ sym (speaks_up h kept e up
    ∙ ap (λ (b : Bool). spoken_with e.outbox.entries (closes_by b (all_sent h kept e))) (through_then h kept e sent is ∙ open_still))

pub says_nothing_down : (h : Holdings) (kept : List Kept) (e : EngineState) → is_up e.link.phase ≡ false
    → spoken_of h kept e ≡ after_speaking h kept e
says_nothing_down h kept e down =
    let talk = dialogue_of h kept e.dialogue in
    sym (stays_so e.outbox.entries _ e.link talk
    (ap (λ (b : Bool). speaks_by b (end_keeper e.identity.side h) e.link talk) down))

up_by : (phase : Phase) (b : Bool) → (IsTrue b ↔ (phase ≡ phases.Up)) → is_up phase ≡ b
up_by phases.Up b told = grind arith
up_by phases.Fresh b told = grind arith
up_by phases.AwaitsInitA b told = grind arith
up_by phases.AwaitsInitB b told = grind arith
up_by phases.AwaitsInitC b told = grind arith
up_by phases.Closing b told = grind arith
up_by phases.Halted b told = grind arith

pub up_told : (s : State) (b : Bool) → (IsTrue b ↔ IsUp s) → is_up s.phase ≡ b
up_told s b told = up_by s.phase b told

pub up_from : (s : State) (b : Bool) → (IsTrue b ↔ IsUp s) → b ≡ true → IsUp s
up_from s b told e = grind arith
