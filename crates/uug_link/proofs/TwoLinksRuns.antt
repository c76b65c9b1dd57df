-- The runs of two links, and what holds after each.
use Rattle.std.proofs.Common.{◌≡◌, ℕ, ◌≤◌, List, [], ◌∷◌, ◌++◌, length, length-drop, drop, map, get_or, slice_get, Option, Some, inl, inr, refl, ap, sym, subst, ◌∙◌, arith}
use Rattle.std.proofs.lemmas.List.{take-append-drop}
use Rattle.std.proofs.lemmas.Option.{slice_get-get_or}
use Rattle.uug_link.specs.Announced.{Announced}
use Rattle.uug_link.specs.Terms.{IsWindow}
use Rattle.uug_link.specs.Moves.{ReadsBoth, becomes, comes}
use Rattle.uug_link.specs.OnTheLine.{Reads}
use Rattle.uug_link.specs.State.{State, KnowsWindow, KnowsSize}
use Rattle.uug_link.specs.TwoLinks.{End, first_end, gone_past, IsFirst, Happening, moves, misses, hears, MayHappen, after_happening, AllMayHappen, after_happenings, Ends, seen_from_far, first_ends, Occurrence, at_near, at_far, MayOccur, after_occurrence, AllMayOccur, after_occurrences, IsRun, AlwaysOfTwo, IsFrontOf}
use Rattle.uug_link.specs.WindowMachine.{Machine, start, loses, on_out, on_back, IsReached}
use Rattle.uug_link.proofs.SimulationLemmas.{Wire, machine, direction, Half, Sim-turned, Next, past_only, pass}
use Rattle.uug_link.proofs.SimulatedSteps.{Running, heard, moves_itself}
use Rattle.uug_link.proofs.WindowMachineRuns.{IsReached-start, IsReached-after, IsReached-turned, always_counts}
use Rattle.uug_packet.specs.Packet.{PacketValue, control, close}

-- ---- runs

AllMayOccur-append : (p : Ends) (os more : List Occurrence) → AllMayOccur p os →
    AllMayOccur (after_occurrences p os) more → AllMayOccur p (os ++ more)
AllMayOccur-append p [] more h k = k
AllMayOccur-append p (o ∷ os) more h k = (h.0, AllMayOccur-append (after_occurrence p o) os more h.1 k)

after_occurrences-append : (p : Ends) (os more : List Occurrence) →
    after_occurrences p (os ++ more) ≡ after_occurrences (after_occurrences p os) more
after_occurrences-append p [] more = refl
after_occurrences-append p (o ∷ os) more = after_occurrences-append (after_occurrence p o) os more

pub IsRun-first : (near far : Announced) (a b : State) → IsFirst near a → IsFirst far b → IsRun near far (first_ends a b)
IsRun-first near far a b h k = record {
  near_first = a;
  far_first = b;
  occurrences = [];
  near_is = h;
  far_is = k;
  allowed = tt;
  leads = refl;
}

pub IsRun-more : (near far : Announced) (p : Ends) (more : List Occurrence) → IsRun near far p → AllMayOccur p more →
    IsRun near far (after_occurrences p more)
IsRun-more near far p more h k =
    let first : Ends = first_ends h.near_first h.far_first in
    record {
      near_first = h.near_first;
      far_first = h.far_first;
      occurrences = h.occurrences ++ more;
      near_is = h.near_is;
      far_is = h.far_is;
      allowed = AllMayOccur-append first h.occurrences more h.allowed
          (subst (λ (q : Ends). AllMayOccur q more) (sym h.leads) k);
      leads = after_occurrences-append first h.occurrences more ∙ ap (λ (q : Ends). after_occurrences q more) h.leads;
    }

pub IsRun-one : (near far : Announced) (p : Ends) (o : Occurrence) → IsRun near far p → MayOccur p o →
    IsRun near far (after_occurrence p o)
IsRun-one near far p o h k = IsRun-more near far p (o ∷ []) h (k, tt)

-- all at the near end
all_near : List Happening → List Occurrence
all_near [] = []
all_near (h ∷ hs) = at_near h ∷ all_near hs

all_near_may : (p : Ends) (hs : List Happening) → AllMayHappen p.near p.far hs → AllMayOccur p (all_near hs)
unfolding all_near
all_near_may p [] h = tt
all_near_may p (x ∷ hs) h = (h.0, all_near_may (record p { near = after_happening p.near x }) hs h.1)

all_near_after : (p : Ends) (hs : List Happening) →
    after_occurrences p (all_near hs) ≡ record p { near = after_happenings p.near hs }
unfolding all_near
all_near_after p [] = refl
all_near_after p (x ∷ hs) = all_near_after (record p { near = after_happening p.near x }) hs

pub IsRun-several : (near far : Announced) (p : Ends) (hs : List Happening) → IsRun near far p →
    AllMayHappen p.near p.far hs → IsRun near far (record p { near = after_happenings p.near hs })
IsRun-several near far p hs run may =
    subst (λ (q : Ends). IsRun near far q) (all_near_after p hs)
    (IsRun-more near far p (all_near hs) run (all_near_may p hs may))

-- ---- seen from the other end

from_far : Occurrence → Occurrence
from_far (at_near h) = at_far h
from_far (at_far h) = at_near h

all_from_far : List Occurrence → List Occurrence
all_from_far [] = []
all_from_far (o ∷ os) = from_far o ∷ all_from_far os

after_occurrence-far : (p : Ends) (o : Occurrence) →
    after_occurrence (seen_from_far p) (from_far o) ≡ seen_from_far (after_occurrence p o)
unfolding from_far
after_occurrence-far p (at_near h) = refl
after_occurrence-far p (at_far h) = refl

MayOccur-far : (p : Ends) (o : Occurrence) → MayOccur p o → MayOccur (seen_from_far p) (from_far o)
unfolding from_far
MayOccur-far p (at_near h) k = k
MayOccur-far p (at_far h) k = k

AllMayOccur-far : (p : Ends) (os : List Occurrence) → AllMayOccur p os →
    AllMayOccur (seen_from_far p) (all_from_far os)
unfolding all_from_far
AllMayOccur-far p [] h = tt
AllMayOccur-far p (o ∷ os) h = (
  MayOccur-far p o h.0,
  subst (λ (q : Ends). AllMayOccur q (all_from_far os)) (sym (after_occurrence-far p o))
      (AllMayOccur-far (after_occurrence p o) os h.1),
)

after_occurrences-far : (p : Ends) (os : List Occurrence) →
    after_occurrences (seen_from_far p) (all_from_far os) ≡ seen_from_far (after_occurrences p os)
unfolding all_from_far
after_occurrences-far p [] = refl
after_occurrences-far p (o ∷ os) =
    ap (λ (q : Ends). after_occurrences q (all_from_far os)) (after_occurrence-far p o)
    ∙ after_occurrences-far (after_occurrence p o) os

pub IsRun-far : (near far : Announced) (p : Ends) → IsRun near far p → IsRun far near (seen_from_far p)
IsRun-far near far p h = record {
  near_first = h.far_first;
  far_first = h.near_first;
  occurrences = all_from_far h.occurrences;
  near_is = h.far_is;
  far_is = h.near_is;
  allowed = AllMayOccur-far (first_ends h.near_first h.far_first) h.occurrences h.allowed;
  leads = after_occurrences-far (first_ends h.near_first h.far_first) h.occurrences
      ∙ ap (λ (q : Ends). seen_from_far q) h.leads;
}

-- ---- the machine runs with the two links

pub record Simulated (near far : Announced) (p : Ends) : Type 0 where
  pub out : Wire
  pub back : Wire
  pub running : Running near far p.near p.far out back

-- a happening at the near end
pub happens : (a b : Announced) (e f : End) (out back : Wire) (h : Happening) →
    Running a b e f out back → MayHappen e f h → Next a b e f out back (comes e f h) (after_happening e h)
happens a b e f out back (moves event) h may = moves_itself a b e f out back event h may
happens a b e f out back misses h may =
    let p : PacketValue = get_or f.emitted e.passed (control close) in
    let at : slice_get f.emitted e.passed ≡ Some p = slice_get-get_or f.emitted e.passed (control close) may in
    subst (λ (o : Option PacketValue). Next a b e f out back (becomes loses o) (gone_past e)) (sym at)
    (past_only a b e f out back (becomes loses (Some p)) (pass a b e f out back p h.sim at))
happens a b e f out back (hears p) h may = heard a b e f out back p h may

Simulated-near : (a b : Announced) (p : Ends) (h : Happening) → Simulated a b p →
    MayHappen p.near p.far h → Simulated a b (record p { near = after_happening p.near h })
Simulated-near a b p h at may =
    let next = happens a b p.near p.far at.out at.back h at.running may in
    record {
      out = next.out';
      back = next.back';
      running = record {
        window = at.running.window;
        other = at.running.other;
        reached = subst (λ (m : Machine). IsReached b.window a.window m) next.leads
            (IsReached-after b.window a.window (machine a b p.near p.far at.out at.back)
            (map on_back (comes p.near p.far h) ++ map on_out next.gone) at.running.reached next.allowed);
        sim = next.sim;
      };
    }

Simulated-far : (a b : Announced) (p : Ends) → Simulated a b p → Simulated b a (seen_from_far p)
Simulated-far a b p h = record {
  out = h.back;
  back = h.out;
  running = record {
    window = h.running.other;
    other = h.running.window;
    reached = IsReached-turned b.window a.window (machine a b p.near p.far h.out h.back) h.running.reached;
    sim = Sim-turned h.running.sim;
  };
}

Simulated-occurrence : (a b : Announced) (p : Ends) (o : Occurrence) → Simulated a b p →
    MayOccur p o → Simulated a b (after_occurrence p o)
Simulated-occurrence a b p (at_near h) at may = Simulated-near a b p h at may
Simulated-occurrence a b p (at_far h) at may =
    Simulated-far b a (record { near = after_happening p.far h; far = p.near })
    (Simulated-near b a (seen_from_far p) h (Simulated-far a b p at) may)

Simulated-occurrences : (a b : Announced) (p : Ends) (os : List Occurrence) → Simulated a b p →
    AllMayOccur p os → Simulated a b (after_occurrences p os)
Simulated-occurrences a b p [] at may = at
Simulated-occurrences a b p (o ∷ os) at may =
    Simulated-occurrences a b (after_occurrence p o) os (Simulated-occurrence a b p o at may.0) may.1

-- a link to which nothing has happened
record Begins (own : Announced) (s : State) : Type 0 where
  own_is : s.own ≡ own
  unacked : s.unacked ≡ []
  oldest : s.oldest ≡ 1
  expected : s.expected ≡ 1
  window : KnowsWindow s.phase → ⊥
  size : KnowsSize s.phase → ⊥

first_begins : (own : Announced) (s : State) → IsFirst own s → Begins own s
first_begins own s (inl is) = subst (Begins own) (sym is) (record {
  own_is = refl;
  unacked = refl;
  oldest = refl;
  expected = refl;
  window = λ k. k;
  size = λ k. k;
})
first_begins own s (inr is) = subst (Begins own) (sym is) (record {
  own_is = refl;
  unacked = refl;
  oldest = refl;
  expected = refl;
  window = λ k. k;
  size = λ k. k;
})

idle : Wire
idle = record { acked = 0; taken = 0; flight = [] }

half_first : (a b : Announced) (s t : State) → Begins a s → Begins b t → Half (first_end s) (first_end t) idle
unfolding idle
half_first a b s t h k = record {
  unacked = h.unacked;
  oldest = h.oldest;
  taken = refl;
  expected = k.expected;
  passed = omega arith;
  flight = tt;
}

Simulated-first : (a b : Announced) (s t : State) → IsWindow a.window → IsWindow b.window →
    Begins a s → Begins b t → Simulated a b (first_ends s t)
unfolding idle
Simulated-first a b s t wa wb h k = record {
  out = idle;
  back = idle;
  running = record {
    window = wa;
    other = wb;
    reached = IsReached-start b.window a.window;
    sim = record {
      out_half = half_first a b s t h k;
      back_half = half_first b a t s k h;
      knows = record { window = λ x. absurd (h.window x); size = λ x. absurd (h.size x) };
      other_knows = record { window = λ x. absurd (k.window x); size = λ x. absurd (k.size x) };
      own = h.own_is;
      other_own = k.own_is;
      said = tt;
      other_said = tt;
    };
  };
}

pub simulated : (a b : Announced) (p : Ends) → IsWindow a.window → IsWindow b.window → IsRun a b p →
    Simulated a b p
simulated a b p wa wb run =
    subst (λ (q : Ends). Simulated a b q) run.leads
    (Simulated-occurrences a b (first_ends run.near_first run.far_first) run.occurrences
    (Simulated-first a b run.near_first run.far_first wa wb (first_begins a run.near_first run.near_is)
    (first_begins b run.far_first run.far_is)) run.allowed)

-- ---- what holds after each run

pub reads : (from to : End) (window : ℕ) (x : Wire) → Half from to x → Reads from to (direction window from.sent x)
reads from to window x h = record {
  sent = refl;
  unacked = h.unacked;
  oldest = h.oldest;
  taken = h.taken;
  expected = h.expected;
  passed = h.passed;
  flight = h.flight;
}

-- the machine at the start reads two first links
pub first_reads : (near far : Announced) (a b : State) → IsFirst near a → IsFirst far b →
    ReadsBoth (first_ends a b) (start far.window near.window)
unfolding idle
first_reads near far a b is_a is_b =
    let s = first_begins near a is_a in
    let t = first_begins far b is_b in (
      reads (first_end a) (first_end b) far.window idle (half_first near far a b s t),
      reads (first_end b) (first_end a) near.window idle (half_first far near b a t s),
    )

pub machine_runs : (near far : Announced) (p : Ends) → IsWindow near.window → IsWindow far.window →
    IsRun near far p →
    (m : Machine) × IsReached far.window near.window m × Reads p.near p.far m.out × Reads p.far p.near m.back
machine_runs near far p w v run =
    let h = simulated near far p w v run in (
      machine near far p.near p.far h.out h.back,
      h.running.reached,
      reads p.near p.far far.window h.out h.running.sim.out_half,
      reads p.far p.near near.window h.back h.running.sim.back_half,
    )

-- what holds of the near end holds of both
pub of_two : (P : End → End → Announced → Type 0) →
    ((a b : Announced) (e f : End) (out back : Wire) → Running a b e f out back → P e f b) → AlwaysOfTwo P
of_two P from near far p w v run =
    let h = simulated near far p w v run in
    let k = Simulated-far near far p h in (
      from near far p.near p.far h.out h.back h.running,
      from far near p.far p.near k.out k.back k.running,
    )

pub fronts : AlwaysOfTwo (λ e other announced. IsFrontOf e.taken other.sent)
fronts = of_two (λ e other announced. IsFrontOf e.taken other.sent)
    (λ a b e f out back h. (
      drop back.taken f.sent,
      ap (λ (l : List (List ℕ)). l ++ drop back.taken f.sent) h.sim.back_half.taken ∙ take-append-drop back.taken f.sent,
    ))

pub within : AlwaysOfTwo (λ e other announced. length e.link.unacked ≤ announced.window)
within = of_two (λ e other announced. length e.link.unacked ≤ announced.window)
    (λ a b e f out back h.
    let counts = always_counts b.window a.window (machine a b e f out back) h.other h.window h.reached in
    omega (arith, counts.0.2, ap length h.sim.out_half.unacked, length-drop out.acked e.sent))

pub windows : AlwaysOfTwo (λ e other announced. KnowsWindow e.link.phase → e.link.window ≡ announced.window)
windows = of_two (λ e other announced. KnowsWindow e.link.phase → e.link.window ≡ announced.window)
    (λ a b e f out back h. h.sim.knows.window)

pub owns : AlwaysOfTwo (λ e other announced. other.link.own ≡ announced)
owns = of_two (λ e other announced. other.link.own ≡ announced) (λ a b e f out back h. h.sim.other_own)

pub sizes : AlwaysOfTwo (λ e other announced. KnowsSize e.link.phase → e.link.size_code ≡ announced.size_code)
sizes = of_two (λ e other announced. KnowsSize e.link.phase → e.link.size_code ≡ announced.size_code)
    (λ a b e f out back h. h.sim.knows.size)
