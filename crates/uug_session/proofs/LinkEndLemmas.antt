-- The session of an end whose link has ended is over.
use Rattle.std.proofs.Common.{◌≡◌, ◌≢◌, ◌⊎◌, ◌&&◌, ℕ, if◌then◌else◌, Bool, true, false, List, Option, inl, inr, refl, sym, subst, ◌∙◌}
use Rattle.uug_link.specs.declared.phase.Phase.{Phase}
use Rattle.uug_link.specs.declared.phase.Phase.TheVariants as phases
use Rattle.uug_link.specs.Announced.{Announced}
use Rattle.uug_link.specs.Outcomes.{MayAnswer, MovesPhase}
use Rattle.uug_link.specs.State.{State, IsStarting, is_halted}
use Rattle.uug_link.specs.Step.{Effect, OutcomeValue, nothing, up, taken, closed, gave_up, halted, answers_halted, on_event, step, to_begin, timed_out, to_send, to_close}
use Rattle.uug_session.specs.declared.phase.Phase.TheVariants as session_phases
use Rattle.uug_session.specs.EndStep.{Stage, hailing, linked, ended, EndState, EndEffect, Identity, is_up, speaks_by, goes_on, behind_link, late_link, EndEvent, end_step, begins_session, first_link, measure_of}
use Rattle.uug_session.specs.Engine.{IsEnded}
use Rattle.uug_conversation.specs.Keeper.{Keeper}
use Rattle.uug_session.specs.Phases.{EndsWithItsLink, phase_at}
use Rattle.uug_conversation.specs.declared.side.Side.{Side}
use Rattle.uug_conversation.specs.declared.side.Side.TheVariants.{Caller, Called}
use Rattle.uug_link.proofs.OutcomeLemmas.{answers_of, moves_of}
use Rattle.uug_session.proofs.StepKeeps.{speaks_so, takes_so, linked_by, hailing_leads, stage_leads}

-- ---- links

abbrev IsAlive : Phase → Type 0
IsAlive phase = phase ≢ phases.Halted

fresh_lives : IsAlive phases.Fresh
fresh_lives e = absurd cc

starting_lives : IsAlive phases.AwaitsInitA
starting_lives e = absurd cc

up_lives : IsAlive phases.Up
up_lives e = absurd cc

closing_lives : IsAlive phases.Closing
closing_lives e = absurd cc

lives_if : (phase : Phase) (s : State) (x : Effect) → IsAlive phase → IsAlive x.state.phase
    → IsAlive (if is_halted phase then answers_halted s else x).state.phase
lives_if phases.Halted s x lives h = absurd (lives refl)
lives_if phases.Fresh s x lives h = h
lives_if phases.AwaitsInitA s x lives h = h
lives_if phases.AwaitsInitB s x lives h = h
lives_if phases.AwaitsInitC s x lives h = h
lives_if phases.Up s x lives h = h
lives_if phases.Closing s x lives h = h

sent_lives : (s : State) (message : List ℕ) → IsAlive s.phase → IsAlive (step s (to_send message)).state.phase
sent_lives s message lives = lives_if s.phase s (on_event (to_send message) s) lives lives

closed_lives : (s : State) → IsAlive s.phase → IsAlive (step s to_close).state.phase
closed_lives s lives = lives_if s.phase s (on_event to_close s) lives closing_lives

begun_lives : (s : State) → IsAlive s.phase → IsAlive (step s to_begin).state.phase
begun_lives s lives = lives_if s.phase s (on_event to_begin s) lives starting_lives

-- where nothing is answered
moved_lives : (before after : Phase) → IsAlive before → ((after ≡ before) ⊎ (IsStarting before × IsStarting after)) → IsAlive after
moved_lives before after lives (inl same) = λ is. lives (sym same ∙ is)
moved_lives before after lives (inr starting) = λ is. subst IsStarting is starting.1

came_up : (after : Phase) → after ≡ phases.Up → IsAlive after
came_up after e = λ is. up_lives (sym e ∙ is)

first_lives : (side : Side) (own : Announced) → IsAlive (first_link side own).phase
first_lives Caller own = fresh_lives
first_lives Called own = starting_lives

-- ---- an end

module _ (C : Type 0) (k : Keeper C) where
  speaks_lives : (live : Bool) (s : State) (c : C) → IsAlive s.phase → IsAlive (speaks_by live k s c).link.phase
  speaks_lives live s c lives =
      speaks_so k (λ s c. IsAlive s.phase) (λ x. IsAlive x.link.phase) (λ s c lives. lives)
      (λ s c message room next lives. (sent_lives s message lives, λ x then_lives. then_lives)) (λ x lives. closed_lives x.link lives) live s c lives

  goes_on_lives : (number : Option ℕ) (took : Bool) (e : Effect) (c : C) → IsAlive e.state.phase → EndsWithItsLink (goes_on number k took e c).state
  goes_on_lives number took e c lives = speaks_lives (is_up e.state.phase) e.state c lives

  behind_lives : (number : Option ℕ) (id : Identity) (device_failed : Bool) (o : OutcomeValue) (before : Phase) (e : Effect) (message : List ℕ) (c : C)
      → IsAlive before → MovesPhase o before e.state.phase → EndsWithItsLink (behind_link number k id device_failed o e message c).state
  behind_lives number id device_failed nothing before e message c lives moves =
      goes_on_lives number false e c (moved_lives before e.state.phase lives moves.1)
  behind_lives number id device_failed up before e message c lives moves =
      goes_on_lives number false e (k.opened (measure_of e.state) c) (came_up e.state.phase moves.1)
  behind_lives number id device_failed taken before e message c lives moves =
      takes_so k id number (λ x. EndsWithItsLink x.state) (device_failed && k.asks_spool message c) e message c
      (goes_on_lives number true e (k.taking message c) (came_up e.state.phase moves.1)) (λ is. tt) (λ is. tt)
  behind_lives number id device_failed closed before e message c lives moves = λ is. tt
  behind_lives number id device_failed gave_up before e message c lives moves = λ is. tt
  behind_lives number id device_failed halted before e message c lives moves = absurd (lives moves.0)

  late_lives : (number : Option ℕ) (id : Identity) (has_parted : Bool) (o : OutcomeValue) (before : Phase) (e : Effect) (c : C) → IsAlive before
      → MayAnswer o timed_out → MovesPhase o before e.state.phase → EndsWithItsLink (late_link number id has_parted o e c).state
  late_lives number id has_parted nothing before e c lives may moves = moved_lives before e.state.phase lives moves.1
  late_lives number id has_parted up before e c lives may moves = absurd may
  late_lives number id has_parted taken before e c lives may moves = absurd may
  late_lives number id has_parted closed before e c lives may moves = absurd may
  late_lives number id has_parted gave_up before e c lives may moves = λ is. tt
  late_lives number id has_parted halted before e c lives may moves = absurd (lives moves.0)

  pub step_ends : (id : Identity) (event : EndEvent) (e : EndState C) → EndsWithItsLink e → EndsWithItsLink (end_step k id event e).state
  step_ends id event e ends =
      let R : EndEffect C → Type 0 = λ x. EndsWithItsLink x.state in
      let late = step e.link timed_out in
      stage_leads k id event e R (λ stage. e.link.phase ≡ phases.Halted → IsEnded stage)
      (λ g lives. hailing_leads id e R (λ number next says. lives) (λ number says is. begun_lives e.link lives) (λ number says. lives)
      (λ number how says is. tt) ends g event)
      (λ lives. linked_by k id e R
      (λ event failed message comes. let x = step e.link event in
      behind_lives e.number id failed x.outcome e.link.phase x message e.keeper lives (moves_of e.link event comes))
      (late_lives e.number id (k.has_parted e.keeper) late.outcome e.link.phase late e.keeper lives (answers_of e.link timed_out) (moves_of e.link timed_out tt))
      (λ is. tt) ends event)
      ends e.stage ends

pub begins_alive : (C : Type 0) (id : Identity) (own : Announced) (number : Option ℕ) (c : C) → EndsWithItsLink (begins_session id own number c).state
begins_alive C id own number c = first_lives id.side own

-- ---- how far it is

starting_phase : (stage : Stage) (p : Phase) → (p ≡ phases.Halted → IsEnded stage) → phase_at stage p ≡ session_phases.Starting → IsStarting p
starting_phase (hailing g) p ends e = absurd cc
starting_phase (ended how) p ends e = absurd cc
starting_phase linked phases.Fresh ends e = tt
starting_phase linked phases.AwaitsInitA ends e = tt
starting_phase linked phases.AwaitsInitB ends e = tt
starting_phase linked phases.AwaitsInitC ends e = tt
starting_phase linked phases.Up ends e = absurd cc
starting_phase linked phases.Closing ends e = absurd cc
starting_phase linked phases.Halted ends e = ends refl

pub starts : (C : Type 0) (e : EndState C) → EndsWithItsLink e → phase_at e.stage e.link.phase ≡ session_phases.Starting → IsStarting e.link.phase
starts C e ends is = starting_phase e.stage e.link.phase ends is
