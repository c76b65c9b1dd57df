-- What stays true in the window machine, whatever it does.
use Rattle.std.proofs.Common.{◌≡◌, ℕ, ◌+◌, ◌<◌, ◌≤◌, List, [], ◌∷◌, ◌++◌, length, length-append, refl, arith}
use Rattle.std.specs.Prelude.{⊤}
use Rattle.std.proofs.lemmas.Bool.Decides.{nat_tests}
use Rattle.uug_link.specs.Terms.{IsWindow}
use Rattle.uug_link.specs.WindowMachine.{Flying, data_at, acknowledgement, ack_of, Direction, Machine, empty, turned, Act, sends, repeats, acknowledges, loses, arrives, Permits, put, added, without_front, taken_with, after_arrival, after_act, Move, on_out, on_back, Allows, after_move, EachNumber, EachAck, Rise}

-- ---- each packet of a flight

pub EachNumber-map : (P Q : ℕ → Type 0) → ((n : ℕ) → P n → Q n) → (ps : List Flying) → EachNumber P ps → EachNumber Q ps
EachNumber-map P Q f [] h = tt
EachNumber-map P Q f (data_at n a ∷ ps) h = (f n h.0, EachNumber-map P Q f ps h.1)
EachNumber-map P Q f (acknowledgement a ∷ ps) h = EachNumber-map P Q f ps h

pub EachNumber-both : (P Q : ℕ → Type 0) → (ps : List Flying) → EachNumber P ps → EachNumber Q ps →
    EachNumber (λ n. P n × Q n) ps
EachNumber-both P Q [] h k = tt
EachNumber-both P Q (data_at n a ∷ ps) h k = ((h.0, k.0), EachNumber-both P Q ps h.1 k.1)
EachNumber-both P Q (acknowledgement a ∷ ps) h k = EachNumber-both P Q ps h k

EachNumber-rest : (P : ℕ → Type 0) (p : Flying) (ps : List Flying) → EachNumber P (p ∷ ps) → EachNumber P ps
EachNumber-rest P (data_at n a) ps h = h.1
EachNumber-rest P (acknowledgement a) ps h = h

EachNumber-put_data : (P : ℕ → Type 0) (ps : List Flying) (n a : ℕ) → EachNumber P ps → P n →
    EachNumber P (ps ++ data_at n a ∷ [])
EachNumber-put_data P [] n a h k = (k, tt)
EachNumber-put_data P (data_at m b ∷ ps) n a h k = (h.0, EachNumber-put_data P ps n a h.1 k)
EachNumber-put_data P (acknowledgement b ∷ ps) n a h k = EachNumber-put_data P ps n a h k

EachNumber-put_ack : (P : ℕ → Type 0) (ps : List Flying) (a : ℕ) → EachNumber P ps →
    EachNumber P (ps ++ acknowledgement a ∷ [])
EachNumber-put_ack P [] a h = tt
EachNumber-put_ack P (data_at m b ∷ ps) a h = (h.0, EachNumber-put_ack P ps a h.1)
EachNumber-put_ack P (acknowledgement b ∷ ps) a h = EachNumber-put_ack P ps a h

pub EachAck-map : (P Q : ℕ → Type 0) → ((a : ℕ) → P a → Q a) → (ps : List Flying) → EachAck P ps → EachAck Q ps
EachAck-map P Q f [] h = tt
EachAck-map P Q f (p ∷ ps) h = (f (ack_of p) h.0, EachAck-map P Q f ps h.1)

-- ---- the acknowledgements of a flight

Rise-le : (low : ℕ) (ps : List Flying) (high : ℕ) → Rise low ps high → low ≤ high
Rise-le low [] high h = h
Rise-le low (p ∷ ps) high h = omega (arith, h.0, Rise-le (ack_of p) ps high h.1)

Rise-higher : (low : ℕ) (ps : List Flying) (high more : ℕ) → high ≤ more → Rise low ps high → Rise low ps more
Rise-higher low [] high more k h = omega (arith, h, k)
Rise-higher low (p ∷ ps) high more k h = (h.0, Rise-higher (ack_of p) ps high more k h.1)

Rise-lower : (less low : ℕ) (ps : List Flying) (high : ℕ) → less ≤ low → Rise low ps high → Rise less ps high
Rise-lower less low [] high k h = omega (arith, h, k)
Rise-lower less low (p ∷ ps) high k h = (omega (arith, h.0, k), h.1)

Rise-put : (low : ℕ) (ps : List Flying) (p : Flying) (high : ℕ) → ack_of p ≡ high → Rise low ps high →
    Rise low (ps ++ p ∷ []) high
Rise-put low [] p high e h = (omega (arith, h, e), omega (arith, e))
Rise-put low (q ∷ ps) p high e h = (h.0, Rise-put (ack_of q) ps p high e h.1)

pub EachAck-between : (low : ℕ) (ps : List Flying) (high : ℕ) → Rise low ps high →
    EachAck (λ a. (low ≤ a) × (a ≤ high)) ps
EachAck-between low [] high h = tt
EachAck-between low (p ∷ ps) high h = (
  (h.0, Rise-le (ack_of p) ps high h.1),
  EachAck-map (λ a. (ack_of p ≤ a) × (a ≤ high)) (λ a. (low ≤ a) × (a ≤ high))
      (λ a k. (omega (arith, h.0, k.0), k.1)) ps (EachAck-between (ack_of p) ps high h.1),
)

-- ---- the data packets of a flight

-- each number is within the window from those of the packets behind it
abbrev InOrder : ℕ → List Flying → Type 0
InOrder window [] = ⊤
InOrder window (data_at n a ∷ ps) = EachNumber (λ k. n < k + window) ps × InOrder window ps
InOrder window (acknowledgement a ∷ ps) = InOrder window ps

InOrder-rest : (window : ℕ) (p : Flying) (ps : List Flying) → InOrder window (p ∷ ps) → InOrder window ps
InOrder-rest window (data_at n a) ps h = h.1
InOrder-rest window (acknowledgement a) ps h = h

InOrder-put_data : (window : ℕ) (ps : List Flying) (n a : ℕ) → InOrder window ps →
    EachNumber (λ k. k < n + window) ps → InOrder window (ps ++ data_at n a ∷ [])
InOrder-put_data w [] n a h k = (tt, tt)
InOrder-put_data w (data_at m b ∷ ps) n a h k =
    (EachNumber-put_data (λ x. m < x + w) ps n a h.0 k.0, InOrder-put_data w ps n a h.1 k.1)
InOrder-put_data w (acknowledgement b ∷ ps) n a h k = InOrder-put_data w ps n a h k

InOrder-put_ack : (window : ℕ) (ps : List Flying) (a : ℕ) → InOrder window ps →
    InOrder window (ps ++ acknowledgement a ∷ [])
InOrder-put_ack w [] a h = tt
InOrder-put_ack w (data_at m b ∷ ps) a h =
    (EachNumber-put_ack (λ x. m < x + w) ps a h.0, InOrder-put_ack w ps a h.1)
InOrder-put_ack w (acknowledgement b ∷ ps) a h = InOrder-put_ack w ps a h

pub record AreNear (window sent taken : ℕ) (ps : List Flying) : Type 0 where
  pub below : EachNumber (λ n. n < sent) ps
  pub near : EachNumber (λ n. taken ≤ n + window) ps
  pub ordered : InOrder window ps

AreNear-put_data : (window sent taken n a : ℕ) (ps : List Flying) → AreNear window sent taken ps → n < sent →
    sent ≤ n + window → taken ≤ sent → AreNear window sent taken (ps ++ data_at n a ∷ [])
AreNear-put_data w sent taken n a ps h low high up = record {
  below = EachNumber-put_data (λ x. x < sent) ps n a h.below low;
  near = EachNumber-put_data (λ x. taken ≤ x + w) ps n a h.near (omega (arith, high, up));
  ordered = InOrder-put_data w ps n a h.ordered
      (EachNumber-map (λ x. x < sent) (λ x. x < n + w) (λ x k. omega (arith, k, high)) ps h.below);
}

AreNear-put_ack : (window sent taken a : ℕ) (ps : List Flying) → AreNear window sent taken ps →
    AreNear window sent taken (ps ++ acknowledgement a ∷ [])
AreNear-put_ack w sent taken a ps h = record {
  below = EachNumber-put_ack (λ x. x < sent) ps a h.below;
  near = EachNumber-put_ack (λ x. taken ≤ x + w) ps a h.near;
  ordered = InOrder-put_ack w ps a h.ordered;
}

AreNear-more : (window sent more taken : ℕ) (ps : List Flying) → sent ≤ more → AreNear window sent taken ps →
    AreNear window more taken ps
AreNear-more w sent more taken ps up h = record {
  below = EachNumber-map (λ x. x < sent) (λ x. x < more) (λ x k. omega (arith, k, up)) ps h.below;
  near = h.near;
  ordered = h.ordered;
}

AreNear-rest : (window sent taken : ℕ) (p : Flying) (ps : List Flying) → AreNear window sent taken (p ∷ ps) →
    AreNear window sent taken ps
AreNear-rest w sent taken p ps h = record {
  below = EachNumber-rest (λ x. x < sent) p ps h.below;
  near = EachNumber-rest (λ x. taken ≤ x + w) p ps h.near;
  ordered = InOrder-rest w p ps h.ordered;
}

taken_with-up : (p : Flying) (taken : ℕ) → taken ≤ taken_with p taken
taken_with-up (data_at n a) taken = grind (arith, nat_tests)
taken_with-up (acknowledgement a) taken = omega arith

taken_with-le : (n a taken bound : ℕ) → n < bound → taken ≤ bound → taken_with (data_at n a) taken ≤ bound
taken_with-le n a taken bound h k = grind (arith, nat_tests)

taken_with-sent : (window sent taken : ℕ) (p : Flying) (ps : List Flying) → AreNear window sent taken (p ∷ ps) →
    taken ≤ sent → taken_with p taken ≤ sent
taken_with-sent w sent taken (data_at n a) ps h k = taken_with-le n a taken sent h.below.0 k
taken_with-sent w sent taken (acknowledgement a) ps h k = k

AreNear-arrives : (window sent taken : ℕ) (p : Flying) (ps : List Flying) → AreNear window sent taken (p ∷ ps) →
    AreNear window sent (taken_with p taken) ps
AreNear-arrives w sent taken (data_at n a) ps h = record {
  below = h.below.1;
  near = EachNumber-map (λ x. (taken ≤ x + w) × (n < x + w)) (λ x. taken_with (data_at n a) taken ≤ x + w)
      (λ x k. taken_with-le n a taken (x + w) k.1 k.0) ps
      (EachNumber-both (λ x. taken ≤ x + w) (λ x. n < x + w) ps h.near.1 h.ordered.0);
  ordered = h.ordered.1;
}
AreNear-arrives w sent taken (acknowledgement a) ps h = record { below = h.below; near = h.near; ordered = h.ordered }

-- ---- one direction

pub record Counts (window sent acked taken : ℕ) : Type 0 where
  pub is_window : IsWindow window
  pub acked_taken : acked ≤ taken
  pub taken_sent : taken ≤ sent
  pub sent_acked : sent ≤ acked + window

-- what stays true, where the opposite direction counts so many messages as acknowledged and taken
pub record IsSafe (d : Direction) (acked taken : ℕ) : Type 0 where
  pub counts : Counts d.window (length d.sent) d.acked d.taken
  pub packets : AreNear d.window (length d.sent) d.taken d.flight
  pub acks : Rise acked d.flight taken

pub IsSafe-empty : (window : ℕ) → IsWindow window → IsSafe (empty window) 0 0
IsSafe-empty w h = record {
  counts = record {
    is_window = h;
    acked_taken = omega arith;
    taken_sent = omega arith;
    sent_acked = omega arith;
  };
  packets = record { below = tt; near = tt; ordered = tt };
  acks = omega arith;
}

IsSafe-repeats : (d : Direction) (acked taken n : ℕ) → IsSafe d acked taken → d.acked ≤ n → n < length d.sent →
    IsSafe (put (data_at n taken) d) acked taken
IsSafe-repeats d acked taken n h low high = record {
  counts = h.counts;
  packets = AreNear-put_data d.window (length d.sent) d.taken n taken d.flight h.packets high
      (omega (arith, h.counts.sent_acked, low)) h.counts.taken_sent;
  acks = Rise-put acked d.flight (data_at n taken) taken refl h.acks;
}

IsSafe-acknowledges : (d : Direction) (acked taken : ℕ) → IsSafe d acked taken →
    IsSafe (put (acknowledgement taken) d) acked taken
IsSafe-acknowledges d acked taken h = record {
  counts = h.counts;
  packets = AreNear-put_ack d.window (length d.sent) d.taken taken d.flight h.packets;
  acks = Rise-put acked d.flight (acknowledgement taken) taken refl h.acks;
}

IsSafe-added : (d : Direction) (acked taken : ℕ) (message : List ℕ) → IsSafe d acked taken →
    length d.sent < d.acked + d.window → IsSafe (added message d) acked taken
IsSafe-added d acked taken message h room =
    let more : length (d.sent ++ message ∷ []) ≡ length d.sent + 1 = length-append d.sent (message ∷ []) in
    record {
      counts = record {
        is_window = h.counts.is_window;
        acked_taken = h.counts.acked_taken;
        taken_sent = omega (arith, h.counts.taken_sent, more);
        sent_acked = omega (arith, room, more);
      };
      packets = AreNear-more d.window (length d.sent) (length (d.sent ++ message ∷ [])) d.taken d.flight
          (omega (arith, more)) h.packets;
      acks = h.acks;
    }

IsSafe-sends : (d : Direction) (acked taken : ℕ) (message : List ℕ) → IsSafe d acked taken →
    length d.sent < d.acked + d.window →
    IsSafe (added message (put (data_at (length d.sent) taken) d)) acked taken
IsSafe-sends d acked taken message h room =
    IsSafe-repeats (added message d) acked taken (length d.sent) (IsSafe-added d acked taken message h room)
    (omega (arith, h.counts.acked_taken, h.counts.taken_sent))
    (omega (arith, length-append d.sent (message ∷ [])))

IsSafe-loses : (d : Direction) (acked taken : ℕ) (f : List Flying) → IsSafe (record d { flight = f }) acked taken →
    IsSafe (record d { flight = without_front f }) acked taken
IsSafe-loses d acked taken [] h = h
IsSafe-loses d acked taken (p ∷ ps) h = record {
  counts = h.counts;
  packets = AreNear-rest d.window (length d.sent) d.taken p ps h.packets;
  acks = Rise-lower acked (ack_of p) ps taken h.acks.0 h.acks.1;
}

IsSafe-arrives : (d : Direction) (acked taken : ℕ) (p : Flying) (ps : List Flying) →
    IsSafe (record d { flight = p ∷ ps }) acked taken →
    IsSafe (record d { taken = taken_with p d.taken; flight = ps }) (ack_of p) taken
IsSafe-arrives d acked taken p ps h = record {
  counts = record {
    is_window = h.counts.is_window;
    acked_taken = omega (arith, h.counts.acked_taken, taken_with-up p d.taken);
    taken_sent = taken_with-sent d.window (length d.sent) d.taken p ps h.packets h.counts.taken_sent;
    sent_acked = h.counts.sent_acked;
  };
  packets = AreNear-arrives d.window (length d.sent) d.taken p ps h.packets;
  acks = h.acks.1;
}

-- the opposite direction, when a packet arrives that says what was taken of it
IsSafe-acknowledged : (d : Direction) (acked taken ack more : ℕ) → IsSafe d acked taken → d.acked ≤ ack →
    ack ≤ d.taken → taken ≤ more → IsSafe (record d { acked = ack }) acked more
IsSafe-acknowledged d acked taken ack more h low high up = record {
  counts = record {
    is_window = h.counts.is_window;
    acked_taken = high;
    taken_sent = h.counts.taken_sent;
    sent_acked = omega (arith, h.counts.sent_acked, low);
  };
  packets = h.packets;
  acks = Rise-higher acked d.flight taken more up h.acks;
}

-- ---- both directions

abbrev pub BothSafe : Machine → Type 0
BothSafe m = IsSafe m.out m.back.acked m.back.taken × IsSafe m.back m.out.acked m.out.taken

BothSafe-after_arrival : (m : Machine) (f : List Flying) → 0 < length f →
    BothSafe (record m { out = record m.out { flight = f } }) → BothSafe (after_arrival m f)
BothSafe-after_arrival m [] some h = absurd (omega (arith, some))
BothSafe-after_arrival m (p ∷ ps) some h = (
  IsSafe-arrives m.out m.back.acked m.back.taken p ps h.0,
  IsSafe-acknowledged m.back m.out.acked m.out.taken (ack_of p) (taken_with p m.out.taken) h.1
      h.0.acks.0 (Rise-le (ack_of p) ps m.back.taken h.0.acks.1) (taken_with-up p m.out.taken),
)

BothSafe-after_act : (m : Machine) (act : Act) → BothSafe m → Permits m.out act → BothSafe (after_act m act)
BothSafe-after_act m (sends message) h k = (IsSafe-sends m.out m.back.acked m.back.taken message h.0 k, h.1)
BothSafe-after_act m (repeats n) h k = (IsSafe-repeats m.out m.back.acked m.back.taken n h.0 k.0 k.1, h.1)
BothSafe-after_act m acknowledges h k = (IsSafe-acknowledges m.out m.back.acked m.back.taken h.0, h.1)
BothSafe-after_act m loses h k = (IsSafe-loses m.out m.back.acked m.back.taken m.out.flight h.0, h.1)
BothSafe-after_act m arrives h k = BothSafe-after_arrival m m.out.flight k h

BothSafe-turned : (m : Machine) → BothSafe m → BothSafe (turned m)
BothSafe-turned m h = (h.1, h.0)

pub BothSafe-after_move : (m : Machine) (move : Move) → BothSafe m → Allows m move → BothSafe (after_move m move)
BothSafe-after_move m (on_out act) h k = BothSafe-after_act m act h k
BothSafe-after_move m (on_back act) h k =
    BothSafe-turned (after_act (turned m) act) (BothSafe-after_act (turned m) act (BothSafe-turned m h) k)
