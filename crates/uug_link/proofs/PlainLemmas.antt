-- A link that is not quiet on repeats: its step, by whether a reject has gone out.
use Rattle.std.proofs.Common.{◌≡◌, ℕ, pred, ◌+◌, ◌%◌, Bool, false, if◌then◌else◌, nat_lt, None, refl, ap, ◌∙◌}
use Rattle.uug_link.specs.State.{State, IsPlain, is_halted}
use Rattle.uug_link.specs.Step.{Effect, Event, to_begin, packet_found, bad_found, timed_out, to_send, to_close, step, acknowledged, answers, answers_halted, has_rejected, ignored, is_expected, last_received, nothing, on_bad, on_data, on_number, on_other, on_repeat, rejecting, taken}
use Rattle.uug_link.specs.Plain.{plain_number, plain_data, plain_bad, plain_step}
use Rattle.uug_link.specs.declared.phase.Phase.{Phase}
use Rattle.uug_link.specs.declared.phase.Phase.TheVariants.{Up}
use Rattle.uug_link.specs.Announced.{Announced}
use Rattle.uug_link.proofs.PeerLemmas.{beside}
use Rattle.uug_packet.specs.Packet.{rr, control, carry}

-- the second of two, where the setting is off
second : {A : Type 0} → (b : Bool) → (x y : A) → b ≡ false → (if b then x else y) ≡ y
second b x y off = ap (λ (c : Bool). if c then x else y) off

number_plain : (x : ℕ) (s : State) → IsPlain s → on_number x s ≡ plain_number x s
number_plain x s off =
    ap (λ (left : ℕ). if is_expected x s
    then answers (record s { expected = (s.expected + 1) % 8; reject_left = left; passed = None; timeouts = 0 }) (rr x) taken
    else on_other x s) (second s.own.quiet (pred s.reject_left) 0 off)
    ∙ ap (λ (e : Effect). if is_expected x s
    then answers (record s { expected = (s.expected + 1) % 8; reject_left = 0; passed = None; timeouts = 0 }) (rr x) taken
    else e)
    (second s.own.quiet (on_repeat x s)
    (if has_rejected s then answers s (rr (last_received s)) nothing else rejecting s) off)

data_plain : (phase : Phase) (seq ack : ℕ) (s : State) → IsPlain s → on_data phase seq ack s ≡ plain_data phase seq ack s
data_plain Up seq ack s off =
    number_plain seq (acknowledged ack s) (ap (λ (a : Announced). a.quiet) (beside ack s).own ∙ off)
data_plain _ seq ack s off = refl

bad_plain : (phase : Phase) (s : State) → IsPlain s → on_bad phase s ≡ plain_bad phase s
bad_plain Up s off =
    ap (λ (b : Bool). if b then ignored s else rejecting s)
    (second s.own.quiet (nat_lt s.own.window s.reject_left) (has_rejected s) off)
bad_plain _ s off = refl

pub steps_plainly : (s : State) (e : Event) → IsPlain s → step s e ≡ plain_step s e
steps_plainly s (packet_found (carry seq ack k message)) off =
    ap (λ (e : Effect). if is_halted s.phase then answers_halted s else e) (data_plain s.phase seq ack s off)
steps_plainly s bad_found off =
    ap (λ (e : Effect). if is_halted s.phase then answers_halted s else e) (bad_plain s.phase s off)
steps_plainly s to_begin off = refl
steps_plainly s (packet_found (control c)) off = refl
steps_plainly s timed_out off = refl
steps_plainly s (to_send message) off = refl
steps_plainly s to_close off = refl
