-- One end moves: the window machine moves with it.
use Rattle.std.proofs.Common.{◌≡◌, ℕ, zero, suc, ◌+◌, ◌%◌, ◌<◌, ◌≤◌, Bool, true, false, if◌then◌else◌, List, [], ◌∷◌, ◌++◌, length, length-append, length-drop, map, drop, take, slice_get, Some, refl, ap, sym, subst, ◌∙◌, arith}
use Rattle.std.specs.Prelude.{⊤}
use Rattle.std.proofs.lemmas.List.{append_assoc, append-nil}
use Rattle.std.proofs.lemmas.Option.{none-some, same_Some, slice_get_within}
use Rattle.uug_link.specs.Announced.{Announced}
use Rattle.uug_link.specs.Moves.{becomes, AllEmit, new_of}
use Rattle.uug_link.specs.OnTheLine.{is_of_window, of_window, AreWritten}
use Rattle.uug_link.specs.State.{State, KnowsWindow, KnowsSize}
use Rattle.uug_link.specs.Step.{data_packet, last_received, outstanding, sent_again}
use Rattle.uug_link.specs.TwoLinks.{End, gone_past, packets_of}
use Rattle.uug_link.specs.WindowMachine.{Direction, Machine, Flying, data_at, acknowledgement, ack_of, Act, repeats, acknowledges, loses, arrives, on_out, on_back, AllAllowed, after, taken_with}
use Rattle.uug_link.proofs.OnTheLineLemmas.{front_of_drop, rest_of_drop, of_window-emitted, of_window-front, of_window-aside, AreWritten-append}
use Rattle.uug_link.proofs.WindowMachineRuns.{after-append, AllAllowed-append}
use Rattle.uug_packet.specs.Packet.{PacketValue, control, close, rj, rr, init_c, init_b, init_a}

-- ---- what an end has told, and what it knows

-- a packet that announces says what its end announces
abbrev pub IsSaid : Announced → PacketValue → Type 0
IsSaid own (control (init_a y)) = y ≡ own.window
IsSaid own (control (init_b y)) = y ≡ own.size_code
IsSaid own (control (init_c y)) = y ≡ own.window
IsSaid own _ = ⊤

abbrev pub AllSaid : Announced → List PacketValue → Type 0
AllSaid own [] = ⊤
AllSaid own (p ∷ ps) = IsSaid own p × AllSaid own ps

pub AllSaid-append : (own : Announced) (ps qs : List PacketValue) → AllSaid own ps → AllSaid own qs → AllSaid own (ps ++ qs)
AllSaid-append own [] qs h k = k
AllSaid-append own (p ∷ ps) qs h k = (h.0, AllSaid-append own ps qs h.1 k)

pub AllSaid-at : (own : Announced) (ps : List PacketValue) (n : ℕ) (p : PacketValue) → AllSaid own ps →
    slice_get ps n ≡ Some p → IsSaid own p
AllSaid-at own [] n p h at = absurd (none-some p at)
AllSaid-at own (q ∷ ps) zero p h at = subst (IsSaid own) (same_Some q p at) h.0
AllSaid-at own (q ∷ ps) (suc n) p h at = AllSaid-at own ps n p h.1 at

pub record Knows (other : Announced) (s : State) : Type 0 where
  pub window : KnowsWindow s.phase → s.window ≡ other.window
  pub size : KnowsSize s.phase → s.size_code ≡ other.size_code

-- ---- the machine, by what the ends have sent

-- of one direction: how many count as acknowledged, how many were taken, what is in flight
pub record Wire : Type 0 where
  pub acked : ℕ
  pub taken : ℕ
  pub flight : List Flying

abbrev pub direction : ℕ → List (List ℕ) → Wire → Direction
direction window sent x =
    record { window = window; sent = sent; acked = x.acked; taken = x.taken; flight = x.flight }

abbrev pub machine : (a b : Announced) (e f : End) (out back : Wire) → Machine
machine a b e f out back =
    record { out = direction b.window e.sent out; back = direction a.window f.sent back }

pub record Half (from to : End) (x : Wire) : Type 0 where
  pub unacked : from.link.unacked ≡ drop x.acked from.sent
  pub oldest : from.link.oldest ≡ (x.acked + 1) % 8
  pub taken : to.taken ≡ take x.taken from.sent
  pub expected : to.link.expected ≡ (x.taken + 1) % 8
  pub passed : to.passed ≤ length from.emitted
  pub flight : AreWritten from.sent x.flight (of_window (drop to.passed from.emitted))

-- what is true of two ends and the machine: a and b are what they announce
pub record Sim (a b : Announced) (e f : End) (out back : Wire) : Type 0 where
  pub out_half : Half e f out
  pub back_half : Half f e back
  pub knows : Knows b e.link
  pub other_knows : Knows a f.link
  pub own : e.link.own ≡ a
  pub other_own : f.link.own ≡ b
  pub said : AllSaid a e.emitted
  pub other_said : AllSaid b f.emitted

pub Sim-turned : {a b : Announced} {e f : End} {out back : Wire} → Sim a b e f out back → Sim b a f e back out
Sim-turned h = record {
  out_half = h.back_half;
  back_half = h.out_half;
  knows = h.other_knows;
  other_knows = h.knows;
  own = h.other_own;
  other_own = h.own;
  said = h.other_said;
  other_said = h.said;
}

-- The machine moves from here to where the end is then: with what comes, and then with what goes out, which is what
-- the end emits.
pub record Next (a b : Announced) (e f : End) (out back : Wire) (came : List Act) (e' : End) : Type 0 where
  pub gone : List Act
  pub ps : List PacketValue
  pub out' : Wire
  pub back' : Wire
  pub allowed : AllAllowed (machine a b e f out back) (map on_back came ++ map on_out gone)
  pub leads : after (machine a b e f out back) (map on_back came ++ map on_out gone) ≡ machine a b e' f out' back'
  pub emitted : e'.emitted ≡ e.emitted ++ ps
  pub emits : AllEmit (after (machine a b e f out back) (map on_back came)) gone (of_window ps)
  pub sent : e'.sent ≡ e.sent ++ new_of gone
  pub sim : Sim a b e' f out' back'

-- it has moved with what comes, and nothing has gone out yet
pub record Came (a b : Announced) (e f : End) (out back : Wire) (came : List Act) (e' : End) (out' back' : Wire) : Type 0 where
  pub allowed : AllAllowed (machine a b e f out back) (map on_back came)
  pub leads : after (machine a b e f out back) (map on_back came) ≡ machine a b e' f out' back'
  pub emitted : e'.emitted ≡ e.emitted
  pub sent : e'.sent ≡ e.sent
  pub sim : Sim a b e' f out' back'

-- and then it goes on
came_then : (a b : Announced) (e e1 e2 f : End) (out back out1 back1 : Wire) (came : List Act) →
    Came a b e f out back came e1 out1 back1 → Next a b e1 f out1 back1 [] e2 → Next a b e f out back came e2
came_then a b e e1 e2 f out back out1 back1 came h next = record {
  gone = next.gone;
  ps = next.ps;
  out' = next.out';
  back' = next.back';
  allowed = AllAllowed-append (machine a b e f out back) (map on_back came) (map on_out next.gone) h.allowed
      (subst (λ (m : Machine). AllAllowed m (map on_out next.gone)) (sym h.leads) next.allowed);
  leads = after-append (machine a b e f out back) (map on_back came) (map on_out next.gone)
      ∙ ap (λ (m : Machine). after m (map on_out next.gone)) h.leads ∙ next.leads;
  emitted = next.emitted ∙ ap (λ (l : List PacketValue). l ++ next.ps) h.emitted;
  emits = subst (λ (m : Machine). AllEmit m next.gone (of_window next.ps)) (sym h.leads) next.emits;
  sent = next.sent ∙ ap (λ (l : List (List ℕ)). l ++ new_of next.gone) h.sent;
  sim = next.sim;
}

-- nothing goes out
stays : (a b : Announced) (e f : End) (out back : Wire) → Sim a b e f out back → Next a b e f out back [] e
stays a b e f out back h = record {
  gone = [];
  ps = [];
  out' = out;
  back' = back;
  allowed = tt;
  leads = refl;
  emitted = sym (append-nil e.emitted);
  emits = tt;
  sent = sym (append-nil e.sent);
  sim = h;
}

-- the other end's packet is skipped, and with it what the machine has of it in front
abbrev pub Past : (a b : Announced) (e f : End) (out back : Wire) (came : List Act) → Type 0
Past a b e f out back came =
    (xs : List Flying) × Came a b e f out back came (gone_past e) out (record back { flight = xs })

pub past_only : (a b : Announced) (e f : End) (out back : Wire) (came : List Act) → Past a b e f out back came →
    Next a b e f out back came (gone_past e)
past_only a b e f out back came h =
    let back1 : Wire = record back { flight = h.0 } in
    came_then a b e (gone_past e) (gone_past e) f out back out back1 came h.1 (stays a b (gone_past e) f out back1 h.1.sim)

-- ---- packets that go out

-- what the machine sends: a message again, or a bare acknowledgement
pub data Put : Type 0 where
  again : (number : ℕ) → Put
  bare : Put

abbrev flying : ℕ → Put → Flying
flying taken (again n) = data_at n taken
flying taken bare = acknowledgement taken

abbrev all_flying : ℕ → List Put → List Flying
all_flying taken [] = []
all_flying taken (u ∷ us) = flying taken u ∷ all_flying taken us

abbrev put_act : Put → Act
put_act (again n) = repeats n
put_act bare = acknowledges

abbrev put_acts : List Put → List Act
put_acts [] = []
put_acts (u ∷ us) = put_act u ∷ put_acts us

abbrev MayPut : (acked sent : ℕ) → Put → Type 0
MayPut acked sent (again n) = (acked ≤ n) × (n < sent)
MayPut acked sent bare = ⊤

abbrev AllMayPut : (acked sent : ℕ) → List Put → Type 0
AllMayPut acked sent [] = ⊤
AllMayPut acked sent (u ∷ us) = MayPut acked sent u × AllMayPut acked sent us

abbrev with_flight : Machine → List Flying → Machine
with_flight m xs = record m { out = record m.out { flight = xs } }

put_all : (m : Machine) (us : List Put) → AllMayPut m.out.acked (length m.out.sent) us →
    AllAllowed m (map on_out (put_acts us))
    × (after m (map on_out (put_acts us)) ≡ with_flight m (m.out.flight ++ all_flying m.back.taken us))
put_all m [] h = (tt, ap (λ (xs : List Flying). with_flight m xs) (sym (append-nil m.out.flight)))
put_all m (again n ∷ us) h =
    let next = put_all (with_flight m (m.out.flight ++ data_at n m.back.taken ∷ [])) us h.1 in (
      (h.0, next.0),
      next.1 ∙ ap (λ (xs : List Flying). with_flight m xs)
          (append_assoc m.out.flight (data_at n m.back.taken ∷ []) (all_flying m.back.taken us)),
    )
put_all m (bare ∷ us) h =
    let next = put_all (with_flight m (m.out.flight ++ acknowledgement m.back.taken ∷ [])) us h.1 in (
      (tt, next.0),
      next.1 ∙ ap (λ (xs : List Flying). with_flight m xs)
          (append_assoc m.out.flight (acknowledgement m.back.taken ∷ []) (all_flying m.back.taken us)),
    )

-- each is a step that puts its packet in flight
puts_emit : (m : Machine) (us : List Put) (ps : List PacketValue) → AreWritten m.out.sent (all_flying m.back.taken us) ps →
    AllEmit m (put_acts us) ps
puts_emit m [] [] h = tt
puts_emit m [] (p ∷ ps) h = absurd h
puts_emit m (again n ∷ us) [] h = absurd h
puts_emit m (bare ∷ us) [] h = absurd h
puts_emit m (again n ∷ us) (p ∷ ps) h =
    (h.0, puts_emit (with_flight m (m.out.flight ++ data_at n m.back.taken ∷ [])) us ps h.1)
puts_emit m (bare ∷ us) (p ∷ ps) h =
    (h.0, puts_emit (with_flight m (m.out.flight ++ acknowledgement m.back.taken ∷ [])) us ps h.1)

-- and sends no new message
puts_none_new : (us : List Put) → new_of (put_acts us) ≡ []
puts_none_new [] = refl
puts_none_new (again n ∷ us) = puts_none_new us
puts_none_new (bare ∷ us) = puts_none_new us

-- packets that an end may emit which has sent these messages, where the machine has these numbers
pub record MayEmit (own : Announced) (sent : List (List ℕ)) (acked taken : ℕ) (ps : List PacketValue) : Type 0 where
  pub puts : List Put
  pub may : AllMayPut acked (length sent) puts
  pub written : AreWritten sent (all_flying taken puts) (of_window ps)
  pub said : AllSaid own ps

pub emits_nothing : (own : Announced) (sent : List (List ℕ)) (acked taken : ℕ) → MayEmit own sent acked taken []
emits_nothing own sent acked taken = record { puts = []; may = tt; written = tt; said = tt }

pub emits_rr : (own : Announced) (sent : List (List ℕ)) (acked taken y : ℕ) → y ≡ taken % 8 →
    MayEmit own sent acked taken (control (rr y) ∷ [])
emits_rr own sent acked taken y is = record { puts = bare ∷ []; may = (tt, tt); written = (is, tt); said = (tt, tt) }

pub emits_rj : (own : Announced) (sent : List (List ℕ)) (acked taken y : ℕ) → y ≡ taken % 8 →
    MayEmit own sent acked taken (control (rj y) ∷ [])
emits_rj own sent acked taken y is = record { puts = bare ∷ []; may = (tt, tt); written = (is, tt); said = (tt, tt) }

pub emits_close : (own : Announced) (sent : List (List ℕ)) (acked taken : ℕ) →
    MayEmit own sent acked taken (control close ∷ [])
emits_close own sent acked taken = record { puts = []; may = tt; written = tt; said = (tt, tt) }

pub emits_init_a : (own : Announced) (sent : List (List ℕ)) (acked taken y : ℕ) → y ≡ own.window →
    MayEmit own sent acked taken (control (init_a y) ∷ [])
emits_init_a own sent acked taken y is = record { puts = []; may = tt; written = tt; said = (is, tt) }

pub emits_init_b : (own : Announced) (sent : List (List ℕ)) (acked taken y : ℕ) → y ≡ own.size_code →
    MayEmit own sent acked taken (control (init_b y) ∷ [])
emits_init_b own sent acked taken y is = record { puts = []; may = tt; written = tt; said = (is, tt) }

pub emits_init_c : (own : Announced) (sent : List (List ℕ)) (acked taken y : ℕ) → y ≡ own.window →
    MayEmit own sent acked taken (control (init_c y) ∷ [])
emits_init_c own sent acked taken y is = record { puts = []; may = tt; written = tt; said = (is, tt) }

-- all messages from a place on
abbrev agains : ℕ → List (List ℕ) → List Put
agains k [] = []
agains k (m ∷ ms) = again k ∷ agains (suc k) ms

may_agains : (acked k : ℕ) (ms : List (List ℕ)) (sent : ℕ) → acked ≤ k → k + length ms ≡ sent →
    AllMayPut acked sent (agains k ms)
may_agains acked k [] sent low all = tt
may_agains acked k (m ∷ ms) sent low all =
    ((low, omega (arith, all)), may_agains acked (suc k) ms sent (omega (arith, low)) (omega (arith, all)))

agains_written : (s : State) (sent : List (List ℕ)) (taken k number : ℕ) (ms : List (List ℕ)) →
    last_received s ≡ taken % 8 → number ≡ (k + 1) % 8 → drop k sent ≡ ms →
    AreWritten sent (all_flying taken (agains k ms)) (of_window (packets_of (sent_again (data_packet s) number ms)))
agains_written s sent taken k number [] last is all = tt
agains_written s sent taken k number (m ∷ ms) last is all = (
  (is, last, front_of_drop k sent m ms all),
  agains_written s sent taken (suc k) ((number + 1) % 8) ms last (omega (arith, is)) (rest_of_drop k sent m ms all),
)

agains_said : (own : Announced) (s : State) (number : ℕ) (ms : List (List ℕ)) →
    AllSaid own (packets_of (sent_again (data_packet s) number ms))
agains_said own s number [] = tt
agains_said own s number (m ∷ ms) = (tt, agains_said own s ((number + 1) % 8) ms)

pub last_received_is : (s : State) (taken : ℕ) → s.expected ≡ (taken + 1) % 8 → last_received s ≡ taken % 8
last_received_is s taken is = omega (arith, is)

pub emits_outstanding : (own : Announced) (s : State) (sent : List (List ℕ)) (acked taken : ℕ) →
    s.unacked ≡ drop acked sent → s.oldest ≡ (acked + 1) % 8 → s.expected ≡ (taken + 1) % 8 → acked ≤ length sent →
    MayEmit own sent acked taken (packets_of (outstanding s))
emits_outstanding own s sent acked taken unacked oldest expected low = record {
  puts = agains acked s.unacked;
  may = may_agains acked acked s.unacked (length sent) (omega arith)
      (omega (arith, low, ap length unacked, length-drop acked sent));
  written = agains_written s sent taken acked s.oldest s.unacked (last_received_is s taken expected) oldest (sym unacked);
  said = agains_said own s s.oldest s.unacked;
}

-- the same numbers
pub record Keeps (s t : State) : Type 0 where
  pub unacked : t.unacked ≡ s.unacked
  pub oldest : t.oldest ≡ s.oldest
  pub expected : t.expected ≡ s.expected

-- an end emits, and its numbers stay
pub emit : (a b : Announced) (e f : End) (out back : Wire) (s : State) (ps : List PacketValue) →
    Sim a b e f out back → Keeps e.link s → Knows b s → s.own ≡ a → MayEmit a e.sent out.acked back.taken ps →
    Next a b e f out back [] (record e { link = s; emitted = e.emitted ++ ps })
emit a b e f out back s ps h keeps knows own emits =
    let moves = put_all (machine a b e f out back) emits.puts emits.may in
    record {
      gone = put_acts emits.puts;
      ps = ps;
      out' = record out { flight = out.flight ++ all_flying back.taken emits.puts };
      back' = back;
      allowed = moves.0;
      leads = moves.1;
      emitted = refl;
      emits = puts_emit (machine a b e f out back) emits.puts (of_window ps) emits.written;
      sent = sym (append-nil e.sent) ∙ ap (λ (l : List (List ℕ)). e.sent ++ l) (sym (puts_none_new emits.puts));
      sim = record {
        out_half = record {
          unacked = keeps.unacked ∙ h.out_half.unacked;
          oldest = keeps.oldest ∙ h.out_half.oldest;
          taken = h.out_half.taken;
          expected = h.out_half.expected;
          passed = omega (arith, h.out_half.passed, length-append e.emitted ps);
          flight = subst (AreWritten e.sent (out.flight ++ all_flying back.taken emits.puts))
              (sym (of_window-emitted f.passed e.emitted ps h.out_half.passed))
              (AreWritten-append e.sent out.flight (all_flying back.taken emits.puts) _ _ h.out_half.flight emits.written);
        };
        back_half = record {
          unacked = h.back_half.unacked;
          oldest = h.back_half.oldest;
          taken = h.back_half.taken;
          expected = keeps.expected ∙ h.back_half.expected;
          passed = h.back_half.passed;
          flight = h.back_half.flight;
        };
        knows = knows;
        other_knows = h.other_knows;
        own = own;
        other_own = h.other_own;
        said = AllSaid-append a e.emitted ps h.said emits.said;
        other_said = h.other_said;
      };
    }

-- ---- packets that are lost, or come to a link that leaves its numbers

-- the same two ends, one packet further
past_sim : (a b : Announced) (e f : End) (out back : Wire) (xs : List Flying) → Sim a b e f out back →
    e.passed < length f.emitted → AreWritten f.sent xs (of_window (drop (suc e.passed) f.emitted)) →
    Sim a b (gone_past e) f out (record back { flight = xs })
past_sim a b e f out back xs h some written = record {
  out_half = record {
    unacked = h.out_half.unacked;
    oldest = h.out_half.oldest;
    taken = h.out_half.taken;
    expected = h.out_half.expected;
    passed = h.out_half.passed;
    flight = h.out_half.flight;
  };
  back_half = record {
    unacked = h.back_half.unacked;
    oldest = h.back_half.oldest;
    taken = h.back_half.taken;
    expected = h.back_half.expected;
    passed = omega (arith, some);
    flight = written;
  };
  knows = h.knows;
  other_knows = h.other_knows;
  own = h.own;
  other_own = h.other_own;
  said = h.said;
  other_said = h.other_said;
}

-- a packet of the window is lost
loses_front : (a b : Announced) (e f : End) (out : Wire) (acked taken : ℕ) (xs : List Flying) (p : PacketValue) →
    Sim a b e f out (record { acked = acked; taken = taken; flight = xs }) → slice_get f.emitted e.passed ≡ Some p →
    AreWritten f.sent xs (p ∷ of_window (drop (suc e.passed) f.emitted)) →
    Past a b e f out (record { acked = acked; taken = taken; flight = xs }) (loses ∷ [])
loses_front a b e f out acked taken [] p h at written = absurd written
loses_front a b e f out acked taken (x ∷ xs) p h at written = (
  xs,
  record {
    allowed = (omega arith, tt);
    leads = refl;
    emitted = refl;
    sent = refl;
    sim = past_sim a b e f out (record { acked = acked; taken = taken; flight = x ∷ xs }) xs h
        (slice_get_within f.emitted e.passed p at) written.1;
  },
)

pub pass : (a b : Announced) (e f : End) (out back : Wire) (p : PacketValue) → Sim a b e f out back →
    slice_get f.emitted e.passed ≡ Some p → Past a b e f out back (becomes loses (Some p))
pass a b e f out back p h at = by (is_of_window p) refl
  where
    by : (t : Bool) → is_of_window p ≡ t → Past a b e f out back (if t then loses ∷ [] else [])
    by true is =
        loses_front a b e f out back.acked back.taken back.flight p h at
        (subst (AreWritten f.sent back.flight) (of_window-front e.passed f.emitted p at is) h.back_half.flight)
    by false is = (
      back.flight,
      record {
        allowed = tt;
        leads = refl;
        emitted = refl;
        sent = refl;
        sim = past_sim a b e f out back back.flight h (slice_get_within f.emitted e.passed p at)
            (subst (AreWritten f.sent back.flight) (of_window-aside e.passed f.emitted p at is) h.back_half.flight);
      },
    )

-- a packet comes to a link that leaves its numbers, and emits these
pub hear_beside : (a b : Announced) (e f : End) (out back : Wire) (p : PacketValue) (s : State) (ps : List PacketValue) →
    Sim a b e f out back → slice_get f.emitted e.passed ≡ Some p → Keeps e.link s → Knows b s → s.own ≡ a →
    MayEmit a e.sent out.acked back.taken ps →
    Next a b e f out back (becomes loses (Some p)) (gone_past (record e { link = s; emitted = e.emitted ++ ps }))
hear_beside a b e f out back p s ps h at keeps knows own emits =
    let past = pass a b e f out back p h at in
    let back1 : Wire = record back { flight = past.0 } in
    came_then a b e (gone_past e) (gone_past (record e { link = s; emitted = e.emitted ++ ps })) f out back out back1
    (becomes loses (Some p)) past.1 (emit a b (gone_past e) f out back1 s ps past.1.sim keeps knows own emits)

-- ---- packets that arrive

-- a packet of the window arrives: the machine's numbers are then these, and those of the link with them
pub arrive : (a b : Announced) (e f : End) (out : Wire) (acked taken : ℕ) (x : Flying) (xs : List Flying)
    (p : PacketValue) (s : State) (took : List (List ℕ)) (ps : List PacketValue) →
    Sim a b e f out (record { acked = acked; taken = taken; flight = x ∷ xs }) →
    slice_get f.emitted e.passed ≡ Some p →
    AreWritten f.sent (x ∷ xs) (p ∷ of_window (drop (suc e.passed) f.emitted)) →
    s.unacked ≡ drop (ack_of x) e.sent → s.oldest ≡ (ack_of x + 1) % 8 →
    s.expected ≡ (taken_with x taken + 1) % 8 → took ≡ take (taken_with x taken) f.sent →
    Knows b s → s.own ≡ a → MayEmit a e.sent (ack_of x) (taken_with x taken) ps →
    Next a b e f out (record { acked = acked; taken = taken; flight = x ∷ xs }) (arrives ∷ [])
    (record e { link = s; taken = took; emitted = e.emitted ++ ps; passed = suc e.passed })
arrive a b e f out acked taken x xs p s took ps h at written unacked oldest expected took_is knows own emits =
    let e1 : End = record e { link = s; taken = took; passed = suc e.passed } in
    let out1 : Wire = record out { acked = ack_of x } in
    let back1 : Wire = record { acked = acked; taken = taken_with x taken; flight = xs } in
    let sim1 : Sim a b e1 f out1 back1 = record {
      out_half = record {
        unacked = unacked;
        oldest = oldest;
        taken = h.out_half.taken;
        expected = h.out_half.expected;
        passed = h.out_half.passed;
        flight = h.out_half.flight;
      };
      back_half = record {
        unacked = h.back_half.unacked;
        oldest = h.back_half.oldest;
        taken = took_is;
        expected = expected;
        passed = omega (arith, slice_get_within f.emitted e.passed p at);
        flight = written.1;
      };
      knows = knows;
      other_knows = h.other_knows;
      own = own;
      other_own = h.other_own;
      said = h.said;
      other_said = h.other_said;
    } in
    came_then a b e e1 (record e { link = s; taken = took; emitted = e.emitted ++ ps; passed = suc e.passed }) f
    out (record { acked = acked; taken = taken; flight = x ∷ xs }) out1 back1 (arrives ∷ [])
    (record {
      allowed = (omega arith, tt);
      leads = refl;
      emitted = refl;
      sent = refl;
      sim = sim1;
    })
    (emit a b e1 f out1 back1 s ps sim1 (record { unacked = refl; oldest = refl; expected = refl }) knows own emits)
