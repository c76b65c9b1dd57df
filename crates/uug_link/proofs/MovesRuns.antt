-- Each occurrence at two links as the moves of a machine that reads them.
use Rattle.std.proofs.Common.{◌≡◌, ℕ, List, [], ◌∷◌, ◌++◌, length, map, drop, refl, ap, sym, subst, ◌∙◌}
use Rattle.uug_link.specs.Announced.{Announced}
use Rattle.uug_link.specs.Moves.{ReadsBoth, comes, AllEmit, new_of, grown, AreMoves, MovesWith, AllMoveWith}
use Rattle.uug_link.specs.OnTheLine.{of_window, Reads}
use Rattle.uug_link.specs.State.{State}
use Rattle.uug_link.specs.Terms.{IsWindow}
use Rattle.uug_link.specs.TwoLinks.{End, IsFirst, Happening, MayHappen, after_happening, Ends, seen_from_far, first_ends, Occurrence, at_near, at_far, MayOccur, after_occurrence, AllMayOccur, IsRun}
use Rattle.uug_link.specs.WindowMachine.{Direction, Machine, Flying, start, turned, Act, sends, repeats, acknowledges, loses, arrives, after_arrival, after_act, Move, on_out, on_back, after_move, mirrored, after, IsReached}
use Rattle.uug_link.proofs.SimulationLemmas.{Wire, direction, machine, Sim, Next}
use Rattle.uug_link.proofs.SimulatedSteps.{Running}
use Rattle.uug_link.proofs.TwoLinksRuns.{IsRun-first, IsRun-one, IsRun-far, happens, reads, first_reads, simulated}
use Rattle.uug_link.proofs.WindowMachineRuns.{AllAllowed-mirrored, IsReached-after, IsReached-start, IsReached-turned, after-mirrored}
use Rattle.uug_packet.specs.Packet.{PacketValue}

-- ---- the windows of a machine stay

pub record SameWindows (m n : Machine) : Type 0 where
  pub out : n.out.window ≡ m.out.window
  pub back : n.back.window ≡ m.back.window

arrival_windows : (m : Machine) (xs : List Flying) → SameWindows m (after_arrival m xs)
arrival_windows m [] = record { out = refl; back = refl }
arrival_windows m (x ∷ xs) = record { out = refl; back = refl }

act_windows : (m : Machine) (act : Act) → SameWindows m (after_act m act)
act_windows m (sends message) = record { out = refl; back = refl }
act_windows m (repeats number) = record { out = refl; back = refl }
act_windows m acknowledges = record { out = refl; back = refl }
act_windows m loses = record { out = refl; back = refl }
act_windows m arrives = arrival_windows m m.out.flight

move_windows : (m : Machine) (move : Move) → SameWindows m (after_move m move)
move_windows m (on_out act) = act_windows m act
move_windows m (on_back act) =
    let same = act_windows (turned m) act in
    record { out = same.back; back = same.out }

all_windows : (m : Machine) (made : List Move) → SameWindows m (after m made)
all_windows m [] = record { out = refl; back = refl }
all_windows m (move ∷ made) =
    let one = move_windows m move in
    let more = all_windows (after_move m move) made in
    record { out = more.out ∙ one.out; back = more.back ∙ one.back }

pub reached_windows : (window other : ℕ) (m : Machine) → IsReached window other m → SameWindows (start window other) m
reached_windows window other m h =
    subst (λ (x : Machine). SameWindows (start window other) x) h.2 (all_windows (start window other) h.0)

-- ---- a machine that reads two ends is the one of their messages

abbrev wire_of : Direction → Wire
wire_of d = record { acked = d.acked; taken = d.taken; flight = d.flight }

abbrev made_of : Machine → (w v : ℕ) (s t : List (List ℕ)) → Machine
made_of m w v s t = record { out = direction w s (wire_of m.out); back = direction v t (wire_of m.back) }

is_machine : (a b : Announced) (e f : End) (m : Machine) → IsReached b.window a.window m →
    Reads e f m.out → Reads f e m.back → m ≡ machine a b e f (wire_of m.out) (wire_of m.back)
is_machine a b e f m reached out back =
    let same = reached_windows b.window a.window m reached in
    ap (λ (w : ℕ). made_of m w m.back.window m.out.sent m.back.sent) same.out
    ∙ ap (λ (v : ℕ). made_of m b.window v m.out.sent m.back.sent) same.back
    ∙ ap (λ (s : List (List ℕ)). made_of m b.window a.window s m.back.sent) out.sent
    ∙ ap (λ (t : List (List ℕ)). made_of m b.window a.window e.sent t) back.sent

running : (a b : Announced) (e f : End) (out back : Wire) (m : Machine) → IsWindow a.window → IsWindow b.window →
    Sim a b e f out back → IsReached b.window a.window m → Reads e f m.out → Reads f e m.back →
    Running a b e f (wire_of m.out) (wire_of m.back)
running a b e f out back m wa wb sim reached there home = record {
  window = wa;
  other = wb;
  reached = subst (λ (x : Machine). IsReached b.window a.window x) (is_machine a b e f m reached there home) reached;
  sim = record {
    out_half = record {
      unacked = there.unacked;
      oldest = there.oldest;
      taken = there.taken;
      expected = there.expected;
      passed = there.passed;
      flight = there.flight;
    };
    back_half = record {
      unacked = home.unacked;
      oldest = home.oldest;
      taken = home.taken;
      expected = home.expected;
      passed = home.passed;
      flight = home.flight;
    };
    knows = sim.knows;
    other_knows = sim.other_knows;
    own = sim.own;
    other_own = sim.other_own;
    said = sim.said;
    other_said = sim.other_said;
  };
}

-- ---- one more occurrence

drop_front : {A : Type 0} (xs ys : List A) → drop (length xs) (xs ++ ys) ≡ ys
drop_front [] ys = refl
drop_front (x ∷ xs) ys = drop_front xs ys

grown_by : {A : Type 0} (old now more : List A) → now ≡ old ++ more → grown old now ≡ more
grown_by old now more is = ap (λ l. drop (length old) l) is ∙ drop_front old more

are_moves : (a b : Announced) (e f : End) (h : Happening) (out back : Wire)
    (next : Next a b e f out back (comes e f h) (after_happening e h)) →
    AreMoves e f h (machine a b e f out back) (map on_back (comes e f h) ++ map on_out next.gone)
are_moves a b e f h out back next = record {
  gone = next.gone;
  are = refl;
  emits = subst
      (λ (ps : List PacketValue). AllEmit (after (machine a b e f out back) (map on_back (comes e f h))) next.gone (of_window ps))
      (sym (grown_by e.emitted (after_happening e h).emitted next.ps next.emitted)) next.emits;
  new = sym (grown_by e.sent (after_happening e h).sent (new_of next.gone) next.sent);
}

moves_near : (a b : Announced) (p : Ends) (h : Happening) (m : Machine) → IsWindow a.window →
    IsWindow b.window → IsRun a b p → MayHappen p.near p.far h → IsReached b.window a.window m → ReadsBoth p m →
    (made : List Move) × MovesWith p (at_near h) m made
moves_near a b p h m wa wb run may reached both =
    let now = simulated a b p wa wb run in
    let at = running a b p.near p.far now.out now.back m wa wb now.running.sim reached both.0 both.1 in
    let out : Wire = wire_of m.out in
    let back : Wire = wire_of m.back in
    let next = happens a b p.near p.far out back h at may in
    let made : List Move = map on_back (comes p.near p.far h) ++ map on_out next.gone in
    subst (λ (x : Machine). (all : List Move) × MovesWith p (at_near h) x all)
    (sym (is_machine a b p.near p.far m reached both.0 both.1)) (
      made,
      record {
        allowed = next.allowed;
        are = are_moves a b p.near p.far h out back next;
        reads = subst (λ (x : Machine). ReadsBoth (record p { near = after_happening p.near h }) x) (sym next.leads) (
          reads (after_happening p.near h) p.far b.window next.out' next.sim.out_half,
          reads p.far (after_happening p.near h) a.window next.back' next.sim.back_half,
        );
      },
    )

pub mirrored_twice : (made : List Move) → map mirrored (map mirrored made) ≡ made
mirrored_twice [] = refl
mirrored_twice (on_out act ∷ made) = ap (λ (l : List Move). on_out act ∷ l) (mirrored_twice made)
mirrored_twice (on_back act ∷ made) = ap (λ (l : List Move). on_back act ∷ l) (mirrored_twice made)

moves_far : (p : Ends) (h : Happening) (m : Machine) (made : List Move) → MovesWith (seen_from_far p) (at_near h) (turned m) made →
    MovesWith p (at_far h) m (map mirrored made)
moves_far p h m made seen = record {
  allowed = AllAllowed-mirrored (turned m) made seen.allowed;
  are = subst (λ (l : List Move). AreMoves p.far p.near h (turned m) l) (sym (mirrored_twice made)) seen.are;
  reads = subst (λ (x : Machine). ReadsBoth (record p { far = after_happening p.far h }) x)
      (sym (after-mirrored (turned m) made)) (seen.reads.1, seen.reads.0);
}

pub occurrence_moves : (near far : Announced) (ends : Ends) (o : Occurrence) (m : Machine) →
    IsWindow near.window → IsWindow far.window → IsRun near far ends → MayOccur ends o →
    IsReached far.window near.window m → ReadsBoth ends m → (made : List Move) × MovesWith ends o m made
occurrence_moves a b p (at_near h) m wa wb run may reached both = moves_near a b p h m wa wb run may reached both
occurrence_moves a b p (at_far h) m wa wb run may reached both =
    let turned_moves = moves_near b a (seen_from_far p) h (turned m) wb wa (IsRun-far a b p run) may
    (IsReached-turned b.window a.window m reached) (both.1, both.0) in
    (map mirrored turned_moves.0, moves_far p h m turned_moves.0 turned_moves.1)

-- ---- a whole run

all_move : (near far : Announced) (p : Ends) (os : List Occurrence) (m : Machine) → IsWindow near.window →
    IsWindow far.window → IsRun near far p → AllMayOccur p os → IsReached far.window near.window m → ReadsBoth p m →
    (made : List (List Move)) × AllMoveWith p os m made
all_move near far p [] m wa wb run may reached both = ([], tt)
all_move near far p (o ∷ os) m wa wb run may reached both =
    let one = occurrence_moves near far p o m wa wb run may.0 reached both in
    let more = all_move near far (after_occurrence p o) os (after m one.0) wa wb (IsRun-one near far p o run may.0) may.1
    (IsReached-after far.window near.window m one.0 reached one.1.allowed) one.1.reads in
    (one.0 ∷ more.0, (one.1, more.1))

pub run_moves : (near far : Announced) (a b : State) (os : List Occurrence) → IsWindow near.window →
    IsWindow far.window → IsFirst near a → IsFirst far b → AllMayOccur (first_ends a b) os →
    (made : List (List Move)) × AllMoveWith (first_ends a b) os (start far.window near.window) made
run_moves near far a b os wa wb is_a is_b may =
    all_move near far (first_ends a b) os (start far.window near.window) wa wb (IsRun-first near far a b is_a is_b) may
    (IsReached-start far.window near.window) (first_reads near far a b is_a is_b)
