-- How far an end is, as the program says it (this project's profile).
use Rattle.std.specs.Prelude.{◌≡◌, ℕ, Bool, true, false}
use Rattle.uug_link.specs.declared.phase.Phase.{Phase as LinkPhase}
use Rattle.uug_link.specs.declared.phase.Phase.TheVariants as link_phases
use Rattle.uug_session.specs.declared.end.End.TheVariants as ends
use Rattle.uug_session.specs.declared.phase.Phase.{Phase}
use Rattle.uug_session.specs.declared.phase.Phase.TheVariants as phases
use Rattle.uug_session.specs.EndStep.{Stage, hailing, linked, ended, EndState}
use Rattle.uug_session.specs.Engine.{IsEnded}

abbrev pub phase_of_link : LinkPhase → Phase
phase_of_link link_phases.Up = phases.Talking
phase_of_link link_phases.Closing = phases.Closing
phase_of_link _ = phases.Starting

-- how far an end is, by its session and its link
abbrev pub phase_at : Stage → LinkPhase → Phase
phase_at (hailing greeting) p = phases.Hail
phase_at linked p = phase_of_link p
phase_at (ended how) p = phases.Ended how

abbrev pub is_over : Phase → Bool
is_over (phases.Ended how) = true
is_over _ = false

abbrev pub is_done : Phase → Bool
is_done (phases.Ended ends.Done) = true
is_done _ = false

-- of the timeouts that its link has counted, those of an end that talks; of no other are any counted
abbrev pub timeouts_in : Phase → (timeouts : ℕ) → ℕ
timeouts_in phases.Talking timeouts = timeouts
timeouts_in _ timeouts = 0

-- where the link has ended, so has the session
abbrev pub EndsWithItsLink : {C : Type 0} → EndState C → Type 0
EndsWithItsLink e = e.link.phase ≡ link_phases.Halted → IsEnded e.stage
