-- The bytes that an end holds, before and after a step that uses none of them.
use Rattle.std.proofs.Common.{◌≡◌, ℕ, ◌+◌, Bool, true, false, nat_lt, if◌then◌else◌, [], ap, refl, Option}
use Rattle.uug_link.specs.declared.limits.TheConstants.{TIMEOUTS_MAX}
use Rattle.uug_link.specs.State.{State}
use Rattle.uug_link.specs.Step.{Effect, OutcomeValue, nothing, up, taken, closed, gave_up, halted, step, timed_out}
use Rattle.uug_session.specs.Arriving.{held_in}
use Rattle.uug_session.specs.EndStep.{EndEffect, Identity, Stage, hailing, linked, ended, behind_greeting, late_link, stage_step, time_ran_out}
use Rattle.uug_session.specs.declared.end.End.TheVariants as ends
use Rattle.uug_session.specs.declared.greeting.Greeted.TheVariants.{GoesOn}
use Rattle.uug_session.specs.declared.greeting.Greeting.{Greeting}
use Rattle.uug_session.specs.Greeting.{fails}
use Rattle.uug_conversation.specs.Keeper.{Keeper}
use Rattle.uug_session.specs.Node.{NodeState, bytes_at}
use Rattle.uug_reader.specs.Reading.{Reading}
use Rattle.uug_conversation.specs.DialogueState.{DialogueState}
use Rattle.uug_session.specs.TextsHeld.{TextsHeld}

-- of its bytes it holds what an end holds that has come so far
abbrev HoldsOn : {C : Type 0} → EndEffect C → Stage → NodeState → Type 0
HoldsOn e stage n = bytes_at e.state.stage n ≡ held_in e.state.stage (bytes_at stage n)

pub same_bytes : (stage : Stage) (a b : NodeState) → a.texts ≡ b.texts → a.packets ≡ b.packets → bytes_at stage a ≡ bytes_at stage b
same_bytes (hailing g) a b texts packets = ap (λ (t : TextsHeld). t.bytes) texts
same_bytes linked a b texts packets = ap (λ (r : Reading). r.bytes) packets
same_bytes (ended how) a b texts packets = refl

greeting_late : (number : Option ℕ) (in_time : Bool) (id : Identity) (g : Greeting) (s : State) (c : DialogueState) (n : NodeState)
    → HoldsOn (behind_greeting number id (if in_time
    then record { says = []; greeted = GoesOn (record { awaited = g.awaited; timeouts = g.timeouts + 1 }); rises = false }
    else fails [] ends.GaveUp) s c) (hailing g) n
greeting_late number true id g s c n = refl
greeting_late number false id g s c n = refl

link_late : (number : Option ℕ) (id : Identity) (parted : Bool) (o : OutcomeValue) (e : Effect) (c : DialogueState) (n : NodeState)
    → HoldsOn (late_link number id parted o e c) linked n
link_late number id parted nothing e c n = refl
link_late number id parted up e c n = refl
link_late number id parted taken e c n = refl
link_late number id parted closed e c n = refl
link_late number id parted gave_up e c n = refl
link_late number id parted halted e c n = refl

pub held_late : (number : Option ℕ) (k : Keeper DialogueState) (id : Identity) (stage : Stage) (s : State) (c : DialogueState) (n : NodeState)
    → HoldsOn (stage_step k id stage time_ran_out (record { stage = stage; link = s; keeper = c; number = number })) stage n
held_late number k id (hailing g) s c n = greeting_late number (nat_lt (g.timeouts + 1) TIMEOUTS_MAX) id g s c n
held_late number k id linked s c n = link_late number id (k.has_parted c) (step s timed_out).outcome (step s timed_out) c n
held_late number k id (ended how) s c n = refl
