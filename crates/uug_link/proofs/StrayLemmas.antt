-- What an acknowledgement strikes, whoever sends it, and the window with which a link comes up.
use Rattle.std.proofs.Common.{◌≡◌, ◌⊎◌, ℕ, suc, ◌+◌, ◌-◌, ◌<◌, ◌≤◌, ◌==◌, min, nat_lt, Bool, true, false, if◌then◌else◌, List, drop, length, length-drop, Some, None, inl, inr, refl, sym, ◌∙◌, ap, subst, arith}
use Rattle.std.proofs.lemmas.Bool.Decides.{nat_tests}
use Rattle.uug_link.specs.declared.phase.Phase.{Phase}
use Rattle.uug_link.specs.declared.phase.Phase.TheVariants.{AwaitsInitA, AwaitsInitB, AwaitsInitC, Up, Closing}
use Rattle.uug_link.specs.declared.phase.Role.{Role}
use Rattle.uug_link.specs.declared.phase.Role.TheVariants.{Caller, Called}
use Rattle.uug_link.specs.State.{State, IsUp, is_halted}
use Rattle.uug_link.specs.Step.{Effect, up, packet_found, step, answers_halted, on_init_a, on_init_b, on_init_c, on_close, on_rr, on_rj, on_srj, on_data, on_number, is_expected, acknowledged, distance, on_packet, next_number}
use Rattle.uug_link.specs.Strays.{HasNumbers, IsSmallerOf, StandsBehind, acknowledgement}
use Rattle.uug_link.proofs.OtherLemmas.{other_holds}
use Rattle.uug_packet.specs.Packet.{close, rj, srj, rr, init_c, init_b, init_a, PacketValue, control, carry}

-- ---- an acknowledgement

-- a fact of the outstanding messages and of the number of the oldest
abbrev pub Holds : (List (List ℕ) → ℕ → Type 0) → State → Type 0
Holds P s = P s.unacked s.oldest

-- how far an acknowledgement reaches: to no message, to one that isn't outstanding, or to one that is
pub data Reach (s : State) (y : ℕ) : Type 0 where
  to_none : (distance s.oldest (y + 1) == 0) ≡ true → Reach s y
  beyond : (distance s.oldest (y + 1) == 0) ≡ false → nat_lt (length s.unacked) (distance s.oldest (y + 1)) ≡ true → Reach s y
  within : (distance s.oldest (y + 1) == 0) ≡ false → nat_lt (length s.unacked) (distance s.oldest (y + 1)) ≡ false → Reach s y

pub reach : (s : State) (y : ℕ) → Reach s y
reach s y = by (distance s.oldest (y + 1) == 0) (nat_lt (length s.unacked) (distance s.oldest (y + 1))) refl refl
  where
    by : (t u : Bool) → (distance s.oldest (y + 1) == 0) ≡ t → nat_lt (length s.unacked) (distance s.oldest (y + 1)) ≡ u →
        Reach s y
    by true u e f = to_none e
    by false true e f = beyond e f
    by false false e f = within e f

-- these messages are left
abbrev Leaves : List (List ℕ) → List (List ℕ) → ℕ → Type 0
Leaves left unacked oldest = unacked ≡ left

acknowledged_strikes : (s : State) (y behind : ℕ) → HasNumbers s → StandsBehind s y behind →
    Holds (Leaves (drop (suc behind) s.unacked)) (acknowledged y s)
acknowledged_strikes s y behind has stands = by (reach s y)
  where
    counts : distance s.oldest (y + 1) ≡ suc behind
    counts = omega (arith, has.oldest, has.few, stands.outstanding, stands.number)

    no : ⊥ → ⊥
    no e = e

    by : Reach s y → Holds (Leaves (drop (suc behind) s.unacked)) (acknowledged y s)
    by (to_none none) = absurd (no (grind (arith, nat_tests, none, counts)))
    by (beyond some less) = absurd (no (grind (arith, nat_tests, less, counts, stands.outstanding)))
    by (within some enough) = rw (some, enough) (ap (λ (n : ℕ). drop n s.unacked) counts)

-- a number of no outstanding packet
acknowledged_strays : (s : State) (y : ℕ) → HasNumbers s → y < 8 → ((behind : ℕ) → StandsBehind s y behind → ⊥) →
    Holds (Leaves s.unacked) (acknowledged y s)
acknowledged_strays s y has small none = by (reach s y)
  where
    positive : (n : ℕ) → (n == 0) ≡ false → 1 ≤ n
    positive n e = grind (arith, nat_tests, e)

    by : Reach s y → Holds (Leaves s.unacked) (acknowledged y s)
    by (to_none e) = rw (e) refl
    by (beyond some less) = rw (some, less) refl
    by (within some enough) = absurd (none (distance s.oldest (y + 1) - 1) (record {
      outstanding = grind (arith, nat_tests, some, enough);
      number = omega (arith, has.oldest, has.few, small, positive (distance s.oldest (y + 1)) some);
    }))

-- the numbers are in their bounds
abbrev Bounded : List (List ℕ) → ℕ → Type 0
Bounded unacked oldest = (oldest < 8) × (length unacked < 8)

acknowledged_bounded : (s : State) (y : ℕ) → HasNumbers s → Holds Bounded (acknowledged y s)
acknowledged_bounded s y has = by (reach s y)
  where
    by : Reach s y → Holds Bounded (acknowledged y s)
    by (to_none e) = rw (e) (has.oldest, has.few)
    by (beyond some less) = rw (some, less) (has.oldest, has.few)
    by (within some enough) =
        rw (some, enough) (omega arith, omega (arith, has.few, length-drop (distance s.oldest (y + 1)) s.unacked))

-- the next message gets the number that it gets here
abbrev GoesOn : State → List (List ℕ) → ℕ → Type 0
GoesOn s unacked oldest = next_number (record s { unacked = unacked; oldest = oldest }) ≡ next_number s

acknowledged_next : (s : State) (y : ℕ) → Holds (GoesOn s) (acknowledged y s)
acknowledged_next s y = by (reach s y)
  where
    at_most : (n : ℕ) → nat_lt (length s.unacked) n ≡ false → n ≤ length s.unacked
    at_most n e = grind (arith, nat_tests, e)

    by : Reach s y → Holds (GoesOn s) (acknowledged y s)
    by (to_none e) = rw (e) refl
    by (beyond some less) = rw (some, less) refl
    by (within some enough) =
        let count : ℕ = distance s.oldest (y + 1) in
        rw (some, enough) (omega (arith, at_most count enough, length-drop count s.unacked))

-- ---- a packet at a link that is up

holds_effect : (P : List (List ℕ) → ℕ → Type 0) (b : Bool) (e f : Effect) → Holds P e.state → Holds P f.state →
    Holds P (if b then e else f).state
holds_effect P true e f h k = h
holds_effect P false e f h k = k

holds_number : (P : List (List ℕ) → ℕ → Type 0) (x : ℕ) (s : State) → Holds P s → Holds P (on_number x s).state
holds_number P x s h =
    holds_effect P (is_expected x s) _ _ h
    (other_holds (λ e. Holds P e.state) x s (λ left passed. h) (λ left passed. h) (λ left passed is. h))

pub up_step : (s : State) (p : PacketValue) → IsUp s → step s (packet_found p) ≡ on_packet p s
up_step s p is =
    subst (λ (phase : Phase). (if is_halted phase then answers_halted s else on_packet p s) ≡ on_packet p s) (sym is) refl

-- an acknowledgement does what it does in each packet that carries it
pub holds_up : (P : List (List ℕ) → ℕ → Type 0) (s : State) (p : PacketValue) (y : ℕ) → IsUp s →
    acknowledgement p ≡ Some y → Holds P (acknowledged y s) → Holds P (step s (packet_found p)).state
holds_up P s p y is says h = rw (up_step s p is) (by p says)
  where
    told : (z : ℕ) → Some z ≡ Some y → Holds P (acknowledged z s)
    told z e = let same : z ≡ y = cc in rw (same) h

    by : (p : PacketValue) → acknowledgement p ≡ Some y → Holds P (on_packet p s).state
    by (control (rr z)) e = subst (λ (phase : Phase). Holds P (on_rr phase z s).state) (sym is) (told z e)
    by (control (rj z)) e = subst (λ (phase : Phase). Holds P (on_rj phase z s).state) (sym is) (told z e)
    by (control (srj z)) e = absurd cc
    by (control close) e = absurd cc
    by (control (init_a z)) e = absurd cc
    by (control (init_b z)) e = absurd cc
    by (control (init_c z)) e = absurd cc
    by (carry seq ack k message) e =
        subst (λ (phase : Phase). Holds P (on_data phase seq ack s).state) (sym is)
        (holds_number P seq (acknowledged ack s) (told ack e))

pub strikes : (s : State) (p : PacketValue) (y behind : ℕ) → IsUp s → HasNumbers s → acknowledgement p ≡ Some y →
    StandsBehind s y behind → (step s (packet_found p)).state.unacked ≡ drop (suc behind) s.unacked
strikes s p y behind is has says stands =
    holds_up (Leaves (drop (suc behind) s.unacked)) s p y is says (acknowledged_strikes s y behind has stands)

pub strays : (s : State) (p : PacketValue) (y : ℕ) → IsUp s → HasNumbers s → y < 8 → acknowledgement p ≡ Some y →
    ((behind : ℕ) → StandsBehind s y behind → ⊥) → (step s (packet_found p)).state.unacked ≡ s.unacked
strays s p y is has small says none =
    holds_up (Leaves s.unacked) s p y is says (acknowledged_strays s y has small none)

-- ---- a packet at any link

holds_init_a : (P : List (List ℕ) → ℕ → Type 0) (role : Role) (phase : Phase) (y : ℕ) (s : State) → Holds P s →
    Holds P (on_init_a role phase y s).state
holds_init_a P Caller AwaitsInitA y s h = h
holds_init_a P Called AwaitsInitA y s h = h
holds_init_a P Called AwaitsInitB y s h = h
holds_init_a P _ _ y s h = h

holds_init_b : (P : List (List ℕ) → ℕ → Type 0) (role : Role) (phase : Phase) (y : ℕ) (s : State) → Holds P s →
    Holds P (on_init_b role phase y s).state
holds_init_b P Caller AwaitsInitB y s h = h
holds_init_b P Called AwaitsInitB y s h = h
holds_init_b P Called AwaitsInitC y s h = h
holds_init_b P _ _ y s h = h

holds_init_c : (P : List (List ℕ) → ℕ → Type 0) (role : Role) (phase : Phase) (y : ℕ) (s : State) → Holds P s →
    Holds P (on_init_c role phase y s).state
holds_init_c P Caller AwaitsInitC y s h = h
holds_init_c P Called AwaitsInitC y s h = h
holds_init_c P Called Up y s h = h
holds_init_c P _ _ y s h = h

holds_close : (P : List (List ℕ) → ℕ → Type 0) (phase : Phase) (s : State) → Holds P s → Holds P (on_close phase s).state
holds_close P Closing s h = h
holds_close P _ s h = h

holds_srj : (P : List (List ℕ) → ℕ → Type 0) (phase : Phase) (y : ℕ) (s : State) → Holds P s →
    Holds P (on_srj phase y s).state
holds_srj P Up y s h = h
holds_srj P _ y s h = h

holds_rr : (P : List (List ℕ) → ℕ → Type 0) (phase : Phase) (y : ℕ) (s : State) → Holds P s →
    Holds P (acknowledged y s) → Holds P (on_rr phase y s).state
holds_rr P Up y s h k = k
holds_rr P _ y s h k = h

holds_rj : (P : List (List ℕ) → ℕ → Type 0) (phase : Phase) (y : ℕ) (s : State) → Holds P s →
    Holds P (acknowledged y s) → Holds P (on_rj phase y s).state
holds_rj P Up y s h k = k
holds_rj P _ y s h k = h

holds_data : (P : List (List ℕ) → ℕ → Type 0) (phase : Phase) (seq ack : ℕ) (s : State) → Holds P s →
    Holds P (acknowledged ack s) → Holds P (on_data phase seq ack s).state
holds_data P Up seq ack s h k = holds_number P seq (acknowledged ack s) k
holds_data P _ seq ack s h k = h

holds_packet : (P : List (List ℕ) → ℕ → Type 0) (s : State) (p : PacketValue) → Holds P s →
    ((y : ℕ) → acknowledgement p ≡ Some y → Holds P (acknowledged y s)) → Holds P (on_packet p s).state
holds_packet P s (control close) h k = holds_close P s.phase s h
holds_packet P s (control (init_a y)) h k = holds_effect P (y == 0) _ _ h (holds_init_a P s.role s.phase y s h)
holds_packet P s (control (init_b y)) h k = holds_init_b P s.role s.phase y s h
holds_packet P s (control (init_c y)) h k = holds_effect P (y == 0) _ _ h (holds_init_c P s.role s.phase y s h)
holds_packet P s (control (srj y)) h k = holds_srj P s.phase y s h
holds_packet P s (control (rr y)) h k = holds_rr P s.phase y s h (k y refl)
holds_packet P s (control (rj y)) h k = holds_rj P s.phase y s h (k y refl)
holds_packet P s (carry seq ack n message) h k = holds_data P s.phase seq ack s h (k ack refl)

holds_after : (P : List (List ℕ) → ℕ → Type 0) (s : State) (p : PacketValue) → Holds P s →
    ((y : ℕ) → acknowledgement p ≡ Some y → Holds P (acknowledged y s)) → Holds P (step s (packet_found p)).state
holds_after P s p h k = holds_effect P (is_halted s.phase) _ _ h (holds_packet P s p h k)

pub no_number : (s : State) (p : PacketValue) → acknowledgement p ≡ None →
    (step s (packet_found p)).state.unacked ≡ s.unacked
no_number s p e = holds_after (Leaves s.unacked) s p refl (λ y says. absurd (no y (sym e ∙ says)))
  where
    no : (y : ℕ) → None ≡ Some y → ⊥
    no y is = absurd cc

pub numbers : (s : State) (p : PacketValue) → HasNumbers s → HasNumbers (step s (packet_found p)).state
numbers s p has =
    let h = holds_after Bounded s p (has.oldest, has.few) (λ y says. acknowledged_bounded s y has) in
    record { oldest = h.0; few = h.1 }

pub next : (s : State) (p : PacketValue) → next_number (step s (packet_found p)).state ≡ next_number s
next s p = holds_after (GoesOn s) s p refl (λ y says. acknowledged_next s y)

-- ---- a link comes up

record ComesUp (s : State) (p : PacketValue) (e : Effect) : Type 0 where
  y : ℕ
  packet : p ≡ control (init_c y)
  smaller : IsSmallerOf y s.window e.state.window

-- where the answer is up
abbrev ComesUpWhere : State → PacketValue → Effect → Type 0
ComesUpWhere s p e = e.outcome ≡ up → ComesUp s p e

up_either : (s : State) (p : PacketValue) (b : Bool) (e f : Effect) → ComesUpWhere s p e → ComesUpWhere s p f →
    ComesUpWhere s p (if b then e else f)
up_either s p true e f h k = h
up_either s p false e f h k = k

up_init_a : (role : Role) (phase : Phase) (y : ℕ) (s : State) (p : PacketValue) → ComesUpWhere s p (on_init_a role phase y s)
up_init_a Caller AwaitsInitA y s p = λ e. absurd cc
up_init_a Called AwaitsInitA y s p = λ e. absurd cc
up_init_a Called AwaitsInitB y s p = λ e. absurd cc
up_init_a _ _ y s p = λ e. absurd cc

up_init_b : (role : Role) (phase : Phase) (y : ℕ) (s : State) (p : PacketValue) → ComesUpWhere s p (on_init_b role phase y s)
up_init_b Caller AwaitsInitB y s p = λ e. absurd cc
up_init_b Called AwaitsInitB y s p = λ e. absurd cc
up_init_b Called AwaitsInitC y s p = λ e. absurd cc
up_init_b _ _ y s p = λ e. absurd cc

is_smaller : (x y : ℕ) → IsSmallerOf x y (min y x)
is_smaller x y = (omega arith, omega arith, by (nat_lt x y) refl)
  where
    by : (b : Bool) → nat_lt x y ≡ b → (min y x ≡ x) ⊎ (min y x ≡ y)
    by true e = inl (grind (arith, nat_tests, e))
    by false e = inr (grind (arith, nat_tests, e))

up_init_c : (role : Role) (phase : Phase) (y : ℕ) (s : State) → ComesUpWhere s (control (init_c y)) (on_init_c role phase y s)
up_init_c Caller AwaitsInitC y s = λ _. record { y = y; packet = refl; smaller = is_smaller y s.window }
up_init_c Called AwaitsInitC y s = λ _. record { y = y; packet = refl; smaller = is_smaller y s.window }
up_init_c Called Up y s = λ e. absurd cc
up_init_c _ _ y s = λ e. absurd cc

up_close : (phase : Phase) (s : State) (p : PacketValue) → ComesUpWhere s p (on_close phase s)
up_close Closing s p = λ e. absurd cc
up_close _ s p = λ e. absurd cc

up_rr : (phase : Phase) (y : ℕ) (s : State) (p : PacketValue) → ComesUpWhere s p (on_rr phase y s)
up_rr Up y s p = λ e. absurd cc
up_rr _ y s p = λ e. absurd cc

up_rj : (phase : Phase) (y : ℕ) (s : State) (p : PacketValue) → ComesUpWhere s p (on_rj phase y s)
up_rj Up y s p = λ e. absurd cc
up_rj _ y s p = λ e. absurd cc

up_srj : (phase : Phase) (y : ℕ) (s : State) (p : PacketValue) → ComesUpWhere s p (on_srj phase y s)
up_srj Up y s p = λ e. absurd cc
up_srj _ y s p = λ e. absurd cc

up_data : (phase : Phase) (seq ack : ℕ) (s : State) (p : PacketValue) → ComesUpWhere s p (on_data phase seq ack s)
up_data Up seq ack s p =
    up_either s p (is_expected seq (acknowledged ack s)) _ _ (λ e. absurd cc)
    (other_holds (ComesUpWhere s p) seq (acknowledged ack s) (λ left passed e. absurd cc) (λ left passed e. absurd cc)
    (λ left passed is e. absurd cc))
up_data _ seq ack s p = λ e. absurd cc

up_packet : (p : PacketValue) (s : State) → ComesUpWhere s p (on_packet p s)
up_packet (control close) s = up_close s.phase s _
up_packet (control (init_a y)) s =
    up_either s (control (init_a y)) (y == 0) _ _ (λ e. absurd cc) (up_init_a s.role s.phase y s _)
up_packet (control (init_b y)) s = up_init_b s.role s.phase y s _
up_packet (control (init_c y)) s =
    up_either s (control (init_c y)) (y == 0) _ _ (λ e. absurd cc) (up_init_c s.role s.phase y s)
up_packet (control (rr y)) s = up_rr s.phase y s _
up_packet (control (rj y)) s = up_rj s.phase y s _
up_packet (control (srj y)) s = up_srj s.phase y s _
up_packet (carry seq ack k message) s = up_data s.phase seq ack s _

pub window : (s : State) (p : PacketValue) → (step s (packet_found p)).outcome ≡ up →
    (y : ℕ) × (p ≡ control (init_c y)) × IsSmallerOf y s.window (step s (packet_found p)).state.window
window s p e =
    let h = up_either s p (is_halted s.phase) _ _ (λ e. absurd cc) (up_packet p s) e in
    (h.y, h.packet, h.smaller)
