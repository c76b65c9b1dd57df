-- Whatever an end does, it has then said what it can, where the window of its link is one that may be announced.
use Rattle.std.proofs.Common.{◌≡◌, inl, ℕ, ◌≤◌, Bool, true, false, refl, sym, ◌∙◌, true≢false, Option}
use Rattle.uug_link.specs.Announced.{Announced}
use Rattle.uug_link.specs.declared.limits.TheConstants.{WINDOW_MAX}
use Rattle.uug_link.specs.declared.phase.Phase.{Phase}
use Rattle.uug_link.specs.declared.phase.Phase.TheVariants.{Fresh, AwaitsInitA, AwaitsInitB, AwaitsInitC, Up, Closing, Halted}
use Rattle.uug_link.specs.State.{State, IsUp}
use Rattle.uug_session.specs.EndStep.{EndEvent, EndState, Identity, Stage, begins_session, ended, end_step, hailing, is_up, linked}
use Rattle.uug_conversation.specs.Keeper.{Keeper}
use Rattle.uug_session.specs.Sending.{SaidAt}
use Rattle.uug_session.proofs.OverLemmas.{begins_open, stays_open}
use Rattle.uug_session.proofs.RoomLemmas.{begins_so, down_has_no_room, stays_said}
use Rattle.uug_line.specs.Speaking.{HasSpoken}

up_or_not : (phase : Phase) (live : Bool) → is_up phase ≡ live → live ≡ true → phase ≡ Up
up_or_not Fresh live is on = absurd (true≢false (sym on ∙ sym is))
up_or_not AwaitsInitA live is on = absurd (true≢false (sym on ∙ sym is))
up_or_not AwaitsInitB live is on = absurd (true≢false (sym on ∙ sym is))
up_or_not AwaitsInitC live is on = absurd (true≢false (sym on ∙ sym is))
up_or_not Up live is on = refl
up_or_not Closing live is on = absurd (true≢false (sym on ∙ sym is))
up_or_not Halted live is on = absurd (true≢false (sym on ∙ sym is))

down_said : {C : Type 0} (k : Keeper C) (stage : Stage) (s : State) (c : C) → is_up s.phase ≡ false → SaidAt k stage s c
down_said k (hailing g) s c down = down
down_said k linked s c down = inl (down_has_no_room s down)
down_said k (ended how) s c down = tt

spoken_by : {C : Type 0} (k : Keeper C) (id : Identity) (event : EndEvent) (e : EndState C) (live : Bool) →
    is_up (end_step k id event e).state.link.phase ≡ live →
    (IsUp (end_step k id event e).state.link → (end_step k id event e).state.link.window ≤ WINDOW_MAX) →
    HasSpoken k e → HasSpoken k (end_step k id event e).state
spoken_by k id event e true is within spoken = record {
  said = stays_said k id event e
      (within (up_or_not (end_step k id event e).state.link.phase true is refl)) spoken.said;
  goes_on = stays_open k id event e spoken.goes_on;
}
spoken_by k id event e false is within spoken =
    let after = (end_step k id event e).state in
    record {
      said = down_said k after.stage after.link after.keeper is;
      goes_on = stays_open k id event e spoken.goes_on;
    }

pub spoken_after : {C : Type 0} (k : Keeper C) (id : Identity) (event : EndEvent) (e : EndState C) →
    (IsUp (end_step k id event e).state.link → (end_step k id event e).state.link.window ≤ WINDOW_MAX) →
    HasSpoken k e → HasSpoken k (end_step k id event e).state
spoken_after k id event e within spoken =
    spoken_by k id event e (is_up (end_step k id event e).state.link.phase) refl within spoken

pub spoken_at_first : {C : Type 0} (k : Keeper C) (id : Identity) (own : Announced) (number : Option ℕ) (c : C) →
    HasSpoken k (begins_session id own number c).state
spoken_at_first k id own number c = record { said = begins_so k id own number c; goes_on = begins_open k id own number c }
