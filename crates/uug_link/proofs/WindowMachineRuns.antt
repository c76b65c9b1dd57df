-- The runs of the window machine, and what holds after each.
use Rattle.std.proofs.Common.{◌≡◌, ℕ, ◌+◌, ◌-◌, ◌%◌, ◌<◌, ◌≤◌, List, [], ◌∷◌, ◌++◌, length, map, refl, ap, sym, ◌∙◌, subst, arith}
use Rattle.uug_link.specs.Terms.{IsWindow}
use Rattle.uug_link.specs.WindowBounds.{AcksRise, CountsInOrder, IsNear, NumbersNear}
use Rattle.uug_link.specs.WindowMachine.{Direction, Machine, start, turned, Move, on_out, on_back, mirrored, Allows, after_move, AllAllowed, after, IsReached, Always, EachNumber, EachAck}
use Rattle.uug_link.proofs.WindowMachineLemmas.{EachNumber-map, EachNumber-both, EachAck-map, EachAck-between, IsSafe, IsSafe-empty, BothSafe, BothSafe-after_move}

-- ---- a run goes on

pub after-append : (m : Machine) (moves more : List Move) → after m (moves ++ more) ≡ after (after m moves) more
after-append m [] more = refl
after-append m (move ∷ moves) more = after-append (after_move m move) moves more

pub AllAllowed-append : (m : Machine) (moves more : List Move) → AllAllowed m moves → AllAllowed (after m moves) more →
    AllAllowed m (moves ++ more)
AllAllowed-append m [] more h k = k
AllAllowed-append m (move ∷ moves) more h k = (h.0, AllAllowed-append (after_move m move) moves more h.1 k)

pub IsReached-start : (window other : ℕ) → IsReached window other (start window other)
IsReached-start window other = ([], tt, refl)

pub IsReached-after : (window other : ℕ) (m : Machine) (more : List Move) → IsReached window other m →
    AllAllowed m more → IsReached window other (after m more)
IsReached-after window other m more h k =
    let first : Machine = start window other in
    let allowed : AllAllowed (after first h.0) more = subst (λ (x : Machine). AllAllowed x more) (sym h.2) k in
    (h.0 ++ more, AllAllowed-append first h.0 more h.1 allowed, rw (after-append first h.0 more, h.2))

pub IsReached-after_move : (window other : ℕ) (m : Machine) (move : Move) → IsReached window other m → Allows m move →
    IsReached window other (after_move m move)
IsReached-after_move window other m move h k = IsReached-after window other m (move ∷ []) h (k, tt)

-- ---- a run seen from the other end

after_move-mirrored : (m : Machine) (move : Move) → after_move (turned m) (mirrored move) ≡ turned (after_move m move)
after_move-mirrored m (on_out act) = refl
after_move-mirrored m (on_back act) = refl

Allows-mirrored : (m : Machine) (move : Move) → Allows m move → Allows (turned m) (mirrored move)
Allows-mirrored m (on_out act) h = h
Allows-mirrored m (on_back act) h = h

pub after-mirrored : (m : Machine) (moves : List Move) → after (turned m) (map mirrored moves) ≡ turned (after m moves)
after-mirrored m [] = refl
after-mirrored m (move ∷ moves) =
    ap (λ (x : Machine). after x (map mirrored moves)) (after_move-mirrored m move) ∙ after-mirrored (after_move m move) moves

pub AllAllowed-mirrored : (m : Machine) (moves : List Move) → AllAllowed m moves → AllAllowed (turned m) (map mirrored moves)
AllAllowed-mirrored m [] h = tt
AllAllowed-mirrored m (move ∷ moves) h =
    (Allows-mirrored m move h.0, rw (after_move-mirrored m move) (AllAllowed-mirrored (after_move m move) moves h.1))

pub IsReached-turned : (window other : ℕ) (m : Machine) → IsReached window other m → IsReached other window (turned m)
IsReached-turned window other m h = (
  map mirrored h.0,
  AllAllowed-mirrored (start window other) h.0 h.1,
  after-mirrored (start window other) h.0 ∙ ap (λ (x : Machine). turned x) h.2,
)

-- ---- what holds after each run

pub BothSafe-after : (m : Machine) (moves : List Move) → BothSafe m → AllAllowed m moves → BothSafe (after m moves)
BothSafe-after m [] h k = h
BothSafe-after m (move ∷ moves) h k = BothSafe-after (after_move m move) moves (BothSafe-after_move m move h k.0) k.1

pub BothSafe-start : (w v : ℕ) → IsWindow w → IsWindow v → BothSafe (start w v)
BothSafe-start w v h k = (IsSafe-empty w h, IsSafe-empty v k)

pub BothSafe-reached : (window other : ℕ) (m : Machine) → IsWindow window → IsWindow other →
    IsReached window other m → BothSafe m
BothSafe-reached w v m h k run =
    subst (λ (x : Machine). BothSafe x) run.2 (BothSafe-after (start w v) run.0 (BothSafe-start w v h k) run.1)

-- what follows in one direction holds in both
always : (P : Direction → Direction → Type 0) →
    ((d o : Direction) → IsSafe d o.acked o.taken → IsSafe o d.acked d.taken → P d o) → Always P
always P from w v m h k run =
    let safe : BothSafe m = BothSafe-reached w v m h k run in
    (from m.out m.back safe.0 safe.1, from m.back m.out safe.1 safe.0)

pub always_counts : Always (λ d o. CountsInOrder d)
always_counts =
    always (λ d o. CountsInOrder d) (λ d o h k. (h.counts.acked_taken, h.counts.taken_sent, h.counts.sent_acked))

numbers_near : (d : Direction) (acked taken : ℕ) → IsSafe d acked taken → NumbersNear d
numbers_near d acked taken h =
    EachNumber-map (λ n. (n < length d.sent) × (d.taken ≤ n + d.window)) (λ n. IsNear d n)
    (λ n x. (
      x.0,
      omega (arith, x.0, h.counts.sent_acked, h.counts.acked_taken, h.counts.is_window.1),
      omega (arith, x.1, h.counts.is_window.1),
    ))
    d.flight
    (EachNumber-both (λ n. n < length d.sent) (λ n. d.taken ≤ n + d.window) d.flight h.packets.below h.packets.near)

pub always_numbers : Always (λ d o. NumbersNear d)
always_numbers = always (λ d o. NumbersNear d) (λ d o h k. numbers_near d o.acked o.taken h)

pub always_acks : Always (λ d o. AcksRise d o)
always_acks = always (λ d o. AcksRise d o) (λ d o h k. h.acks)

number_told : (n r : ℕ) → n < r + 7 → r ≤ n + 7 → n % 8 ≡ r % 8 → n ≡ r
number_told n r h k e = omega (arith, h, k, e)

ack_told : (u a : ℕ) → u ≤ a → a ≤ u + 7 → a ≡ u + (a % 8 + 8 - u % 8) % 8
ack_told u a h k = omega (arith, h, k)

pub always_number_digits : Always (λ d o. EachNumber (λ n. n % 8 ≡ d.taken % 8 → n ≡ d.taken) d.flight)
always_number_digits = always (λ d o. EachNumber (λ n. n % 8 ≡ d.taken % 8 → n ≡ d.taken) d.flight)
    (λ d o h k. EachNumber-map (λ n. IsNear d n) (λ n. n % 8 ≡ d.taken % 8 → n ≡ d.taken)
    (λ n x. number_told n d.taken x.1 x.2) d.flight (numbers_near d o.acked o.taken h))

pub always_ack_digits : Always (λ d o. EachAck (λ a. a ≡ o.acked + (a % 8 + 8 - o.acked % 8) % 8) d.flight)
always_ack_digits = always (λ d o. EachAck (λ a. a ≡ o.acked + (a % 8 + 8 - o.acked % 8) % 8) d.flight)
    (λ d o h k. EachAck-map (λ a. (o.acked ≤ a) × (a ≤ o.taken)) (λ a. a ≡ o.acked + (a % 8 + 8 - o.acked % 8) % 8)
    (λ a x. ack_told o.acked a x.0
    (omega (arith, x.1, k.counts.taken_sent, k.counts.sent_acked, k.counts.is_window.1)))
    d.flight (EachAck-between o.acked d.flight o.taken h.acks))
