-- What a call of a link leaves, and what it answers.
use Rattle.std.specs.Prelude.{◌≡◌, ◌+◌, ◌≤◌, ◌++◌, length, map, Option, Some, None, IfSome, IfNone, IsSome, Result, Ok, Err}
use Rattle.uug_link.specs.declared.outcome.LinkFault.{LinkFault}
use Rattle.uug_link.specs.declared.outcome.LinkFault.TheVariants.{Memory, GaveUp, Halted}
use Rattle.uug_link.specs.declared.outcome.Outcome.{Outcome}
use Rattle.uug_link.specs.declared.outcome.Outcome.TheVariants.{Nothing, Up, Taken, Closed}
use Rattle.uug_link.specs.declared.limits.TheConstants.{WINDOW_MAX}
use Rattle.uug_link.specs.Entries.{EntryValue, packet, Held}
use Rattle.uug_link.specs.State.{State}
use Rattle.uug_link.specs.Step.{Effect, Emission, OutcomeValue, nothing, up, taken, closed, gave_up, halted}
use Rattle.uug_packet.specs.Spelling.{canonical}

-- what a call answered, or None where it was refused memory
abbrev pub answered : Result Outcome LinkFault → Option OutcomeValue
answered (Ok Nothing) = Some nothing
answered (Ok Up) = Some up
answered (Ok Taken) = Some taken
answered (Ok Closed) = Some closed
answered (Err Memory) = None
answered (Err GaveUp) = Some gave_up
answered (Err Halted) = Some halted

-- the same of a call that has nothing to answer
abbrev pub done : {A E : Type 0} → Result A E → Option OutcomeValue
done (Ok x) = Some nothing
done (Err e) = None

-- an emission as the outbox holds it: the packet's canonical spelling
abbrev pub written : Emission → EntryValue
written e = packet (canonical e.packet) e.first

-- The call did what the step says: the link's next state, exactly its packets behind those that the outbox held, and
-- its answer. Or memory was refused and nothing has changed; that does not happen within what the outbox has to spare.
-- Each packet lowers what it has to spare by at most one, and there are no more than a window of them.
pub record Follows (e : Effect) (before after : State) (held held_after : Held) (answer : Option OutcomeValue) : Type 0 where
  pub state : IfSome answer (λ _. after ≡ e.state)
  pub emitted : IfSome answer (λ _. held_after.entries ≡ held.entries ++ map written e.emitted)
  pub outcome : IfSome answer (λ o. o ≡ e.outcome)
  pub unchanged : IfNone answer (after ≡ before)
  pub kept : IfNone answer (held_after.entries ≡ held.entries)
  pub memory : length e.emitted ≤ held.spare → IsSome answer
  pub spare : held.spare ≤ held_after.spare + length e.emitted
  pub spare_kept : IfNone answer (held.spare ≤ held_after.spare)
  pub few : length e.emitted ≤ WINDOW_MAX
