-- What a timeout lets go out.
use Rattle.std.proofs.Common.{◌≡◌, ◌≢◌, ◌↔◌, ℕ, ◌+◌, ◌<◌, nat_eq, nat_lt, if◌then◌else◌, not, Bool, true, false, IsTrue, List, [], ◌∷◌, length, refl, sym, ap, subst, ◌∙◌, arith}
use Rattle.std.proofs.lemmas.Bool.Decides.{nat_tests}
use Rattle.uug_link.specs.declared.limits.TheConstants.{TIMEOUTS_MAX}
use Rattle.uug_link.specs.declared.phase.Phase.{Phase}
use Rattle.uug_link.specs.declared.phase.Phase.TheVariants.{Halted, Up}
use Rattle.uug_link.specs.declared.phase.Role.{Role}
use Rattle.uug_link.specs.declared.phase.Role.TheVariants.{Caller, Called}
use Rattle.uug_link.specs.State.{State, is_halted}
use Rattle.uug_link.specs.Step.{Effect, Emission, answers, answers_halted, data_packet, gave_up, nothing, on_timeout, outstanding, repeated, sent_again, step, timed_out}
use Rattle.uug_packet.specs.Packet.{PacketValue, close}

all_again : (role : Role) (s : State) → repeated role Up s ≡ outstanding s
all_again Caller s = refl
all_again Called s = refl

-- by whether more timeouts may follow
abbrev by_count : (more : Bool) → State → Effect
by_count more s =
    if more
    then record {
      state = record s { timeouts = s.timeouts + 1; reject_left = 0 };
      emitted = repeated s.role s.phase s;
      outcome = nothing;
    }
    else answers (record s { phase = Halted; timeouts = TIMEOUTS_MAX; reject_left = 0 }) close gave_up

up_again : (s : State) → s.phase ≡ Up → s.timeouts + 1 < TIMEOUTS_MAX → (step s timed_out).emitted ≡ outstanding s
up_again s is less =
    let more : nat_lt (s.timeouts + 1) TIMEOUTS_MAX ≡ true = grind (arith, nat_tests) in
    ap (λ (b : Bool). (if b then answers_halted s else on_timeout s).emitted) (ap is_halted is)
    ∙ ap (λ (b : Bool). (by_count b s).emitted) more
    ∙ ap (λ (p : Phase). repeated s.role p s) is
    ∙ all_again s.role s

some_again : (packet_of : ℕ → List ℕ → PacketValue) (number : ℕ) (ms : List (List ℕ)) (n : ℕ) → length ms ≡ n
    → IsTrue (not (nat_eq n 0)) ↔ (sent_again packet_of number ms ≢ [])
some_again packet_of number [] n len =
    let none : nat_eq n 0 ≡ true = grind (arith, nat_tests) in
    (λ yes. absurd (let no : true ≡ false = sym none ∙ cc in cc), λ some. absurd (some refl))
some_again packet_of number (m ∷ ms) n len =
    let some : nat_eq n 0 ≡ false = grind (arith, nat_tests) in
    (λ yes none. cc, λ says. rw some refl)

pub up_speaks : (s : State) (n : ℕ) → s.phase ≡ Up → s.timeouts + 1 < TIMEOUTS_MAX → length s.unacked ≡ n
    → IsTrue (not (nat_eq n 0)) ↔ ((step s timed_out).emitted ≢ [])
up_speaks s n is less len =
    subst (λ (es : List Emission). IsTrue (not (nat_eq n 0)) ↔ (es ≢ [])) (sym (up_again s is less))
    (some_again (data_packet s) s.oldest s.unacked n len)

-- a link that gives up emits CLOSE
closes_by : (last more : Bool) (s : State) → (if last then answers_halted s else by_count more s).outcome ≡ gave_up
    → (if last then answers_halted s else by_count more s).emitted ≢ []
closes_by true more s is none = cc
closes_by false true s is none = cc
closes_by false false s is none = cc
