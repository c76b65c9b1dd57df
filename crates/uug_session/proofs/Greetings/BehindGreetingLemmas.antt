-- What a node does behind its greeting: it never greets again, and what it emitted before stands in front.
use Rattle.std.proofs.Common.{◌≡◌, ◌≢◌, ℕ, zero, suc, Bool, false, List, ◌++◌, Option, refl, ap, ◌∙◌, append_assoc}
use Rattle.uug_session.specs.declared.greeting.Greeting.{Greeting}
use Rattle.uug_session.specs.Arriving.{Buffered, Arrival, all_taken, stopped, held_in, holds, takes_up, takes_up_to}
use Rattle.uug_session.specs.EndStep.{Stage, hailing, linked, ended, Emitted, EndEvent, EndState, Identity, packet_found_whole, end_step, linked_step, rises_at}
use Rattle.uug_session.specs.Finding.{Finding, finds_nothing, finds, finds_packet, finding}
use Rattle.uug_session.specs.Greeting.{number_by}
use Rattle.uug_conversation.specs.Holdings.{Holdings}
use Rattle.uug_conversation.specs.Keeper.{Keeper}
use Rattle.uug_session.specs.NodeArriving.{NodeEnd, fails_first, fails_later, node_taker, with_effect}
use Rattle.uug_conversation.specs.DialogueState.{DialogueState, end_keeper}
use Rattle.uug_session.proofs.NumberLemmas.{step_number}
use Rattle.uug_session.proofs.StepKeeps.{linked_leads, stage_leads}
use Rattle.uug_session.proofs.KeeperLemmas.{end_in, taken_keeps}

-- ---- what is emitted on the link stands behind what was emitted before

abbrev pub with_front : List Emitted → NodeEnd → NodeEnd
with_front front x = record { state = x.state; emitted = front ++ x.emitted; failures = x.failures }

abbrev pub came_behind : List Emitted → Arrival NodeEnd → Arrival NodeEnd
came_behind front (all_taken y) = all_taken (record { held = y.held; end = with_front front y.end })
came_behind front (stopped y) = stopped (record { held = y.held; end = with_front front y.end })

module _ (h : Holdings) (id : Identity) where
  abbrev takes_from : ℕ → (bytes : List ℕ) → EndState DialogueState → List Emitted → List Bool → Arrival NodeEnd
  takes_from n bytes e emitted failures =
      takes_up_to n (node_taker h id) (holds (node_taker h id) bytes (record { state = e; emitted = emitted; failures = failures }))

  front_up : (n : ℕ) → ((front : List Emitted) (bytes : List ℕ) (x : NodeEnd)
      → takes_up_to n (node_taker h id) (record { held = bytes; end = with_front front x }) ≡ came_behind front (takes_up_to n (node_taker h id) (record { held = bytes; end = x })))
      → (front : List Emitted) (x : NodeEnd) (found : Finding)
      → takes_up (takes_up_to n (node_taker h id)) (node_taker h id) found (with_front front x)
      ≡ came_behind front (takes_up (takes_up_to n (node_taker h id)) (node_taker h id) found x)
  front_up n more front x (finds_nothing rest) = refl
  front_up n more front x (finds event behind) =
      let e = end_step (end_keeper id.side h) id event x.state in
      ap (λ (emitted : List Emitted). takes_from n behind e.state emitted x.failures) (append_assoc front x.emitted e.emitted)
      ∙ more front (held_in e.state.stage behind) (with_effect e x.failures x)
  front_up n more front x (finds_packet p from behind) =
      let e = end_step (end_keeper id.side h) id (packet_found_whole (fails_first x.failures) p) x.state in
      ap (λ (emitted : List Emitted). takes_from n behind e.state emitted (fails_later x.failures)) (append_assoc front x.emitted e.emitted)
      ∙ more front (held_in e.state.stage behind) (with_effect e (fails_later x.failures) x)

  pub front_stays : (n : ℕ) (front : List Emitted) (bytes : List ℕ) (x : NodeEnd)
      → takes_up_to n (node_taker h id) (record { held = bytes; end = with_front front x }) ≡ came_behind front (takes_up_to n (node_taker h id) (record { held = bytes; end = x }))
  front_stays zero front bytes x = refl
  front_stays (suc n) front bytes x = front_up n (front_stays n) front x (finding x.state.stage bytes)

-- what came with this in front
pub record CameWithout (front : List Emitted) (came : Arrival NodeEnd) (now : Buffered NodeEnd) : Type 0 where
  pub later : List Emitted
  pub came_is : came ≡ all_taken (record { held = now.held; end = record { state = now.end.state; emitted = later; failures = now.end.failures } })
  pub emitted : front ++ later ≡ now.end.emitted

pub came_without : (front : List Emitted) (came : Arrival NodeEnd) (now : Buffered NodeEnd) → came_behind front came ≡ all_taken now → CameWithout front came now
came_without front (all_taken y) now is =
    let same : ◌≡◌ {A = Buffered NodeEnd} (record { held = y.held; end = with_front front y.end }) now = cc in
    record {
      later = y.end.emitted;
      came_is = ap (λ (z : Buffered NodeEnd). all_taken (record { held = z.held; end = record { state = z.end.state; emitted = y.end.emitted; failures = z.end.failures } })) same;
      emitted = ap (λ (z : Buffered NodeEnd). z.end.emitted) same;
    }
came_without front (stopped y) now is = cc

-- ---- behind the greeting there is no other

abbrev pub HasGreeted : Stage → Type 0
HasGreeted (hailing g) = ⊥
HasGreeted _ = Unit {0}

pub hails_not : (stage : Stage) → HasGreeted stage → (g : Greeting) → stage ≢ hailing g
hails_not (hailing other) is g e = absurd is
hails_not linked is g e = cc
hails_not (ended how) is g e = cc

pub linked_greeted : {C : Type 0} (k : Keeper C) (id : Identity) (event : EndEvent) (e : EndState C) → HasGreeted e.stage → HasGreeted (linked_step k id event e).state.stage
linked_greeted k id event e is = linked_leads k id e (λ x. HasGreeted x.state.stage) (λ took x c. tt) (λ parted how x c took none. tt) tt tt is event

step_greeted : (k : Keeper DialogueState) (id : Identity) (event : EndEvent) (e : EndState DialogueState) → HasGreeted e.stage → HasGreeted (end_step k id event e).state.stage
step_greeted k id event e is =
    stage_leads k id event e (λ x. HasGreeted x.state.stage) HasGreeted (λ g at. absurd at) (λ at. linked_greeted k id event e is) is e.stage is

abbrev pub CameGreeted : Arrival NodeEnd → Type 0
CameGreeted came = HasGreeted (end_in came).state.stage

pub stays_greeted : (h : Holdings) (id : Identity) (n : ℕ) (bytes : List ℕ) (x : NodeEnd) → HasGreeted x.state.stage
    → CameGreeted (takes_up_to n (node_taker h id) (record { held = bytes; end = x }))
stays_greeted h id n bytes x is =
    taken_keeps id h (λ e. HasGreeted e.stage) (step_greeted (end_keeper id.side h) id) n (record { held = bytes; end = x }) is

-- ---- and its number stays

abbrev pub CameWith : Option ℕ → Arrival NodeEnd → Type 0
CameWith number came = (end_in came).state.number ≡ number

nothing_rises : (id : Identity) (number : Option ℕ) (stage : Stage) (event : EndEvent) → HasGreeted stage → rises_at id number stage event ≡ false
nothing_rises id number (hailing g) event is = absurd is
nothing_rises id number linked event is = refl
nothing_rises id number (ended how) event is = refl

module _ (h : Holdings) (id : Identity) (number : Option ℕ) where
  keeps_number : (event : EndEvent) (e : EndState DialogueState) → HasGreeted e.stage → e.number ≡ number → (end_step (end_keeper id.side h) id event e).state.number ≡ number
  keeps_number event e is same =
      step_number (end_keeper id.side h) id event e ∙ ap (λ (b : Bool). number_by b e.number) (nothing_rises id e.number e.stage event is) ∙ same

  pub stays_with : (n : ℕ) (bytes : List ℕ) (x : NodeEnd) → HasGreeted x.state.stage → x.state.number ≡ number
      → CameWith number (takes_up_to n (node_taker h id) (record { held = bytes; end = x }))
  stays_with n bytes x is same =
      (taken_keeps id h (λ e. HasGreeted e.stage × (e.number ≡ number))
      (λ event e so. (step_greeted (end_keeper id.side h) id event e so.0, keeps_number event e so.0 so.1)) n (record { held = bytes; end = x }) (is, same)).1
