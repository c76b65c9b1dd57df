-- An end closes where all is over: behind what it says it asks, and the link is then up no more.
use Rattle.std.proofs.Common.{◌≡◌, ℕ, ◌+◌, Bool, true, false, if◌then◌else◌, nat_lt, Option, refl, sym, ◌∙◌, true≢false}
use Rattle.uug_link.specs.Announced.{Announced}
use Rattle.uug_link.specs.declared.limits.TheConstants.{TIMEOUTS_MAX}
use Rattle.uug_link.specs.State.{State, is_halted}
use Rattle.uug_link.specs.Step.{Effect, answers_halted, on_event, step, timed_out, to_begin, to_close}
use Rattle.uug_session.specs.EndStep.{EndEffect, EndEvent, EndState, Identity, Sending, begins_session, closes_by, end_step, first_link, goes_on, is_up, sends, speaks_by}
use Rattle.uug_conversation.specs.Keeper.{Keeper}
use Rattle.uug_session.specs.Sending.{HasClosedWhereItIsOver, GoesOnAt}
use Rattle.uug_conversation.specs.declared.side.Side.{Side}
use Rattle.uug_conversation.specs.declared.side.Side.TheVariants.{Caller, Called}
use Rattle.uug_session.proofs.RoomLemmas.{begun_is_down, halted_is_down, late_effect}
use Rattle.uug_session.proofs.StepKeeps.{linked_leads, hailing_leads, stage_leads}

-- a link that is down is no case of it
not_up : (live : Bool) (over : Bool) → live ≡ false → live ≡ true → over ≡ false
not_up live over down is = absurd (true≢false (sym is ∙ down))

-- ---- behind what is said

closed_is_down : (halts : Bool) (s : State) → is_halted s.phase ≡ halts
    → is_up (if halts then answers_halted s else on_event to_close s).state.phase ≡ false
closed_is_down true s is = halted_is_down s.phase is
closed_is_down false s is = refl

close_open : {C : Type 0} (over : Bool) (k : Keeper C) (x : Sending C) → k.is_over x.keeper ≡ over
    → is_up (closes_by over x).link.phase ≡ true → k.is_over (closes_by over x).keeper ≡ false
close_open false k x is live = is
close_open true k x is live =
    not_up (is_up (closes_by true x).link.phase) (k.is_over x.keeper)
    (closed_is_down (is_halted x.link.phase) x.link refl) live

speak_open : {C : Type 0} (live : Bool) (k : Keeper C) (s : State) (c : C) → is_up s.phase ≡ live
    → is_up (speaks_by live k s c).link.phase ≡ true → k.is_over (speaks_by live k s c).keeper ≡ false
speak_open false k s c is live = not_up (is_up s.phase) (k.is_over c) is live
speak_open true k s c is live = let x = sends k s c in close_open (k.is_over x.keeper) k x refl live

goes_on_open : {C : Type 0} (number : Option ℕ) (k : Keeper C) (took : Bool) (e : Effect) (c : C)
    → HasClosedWhereItIsOver k (goes_on number k took e c).state
goes_on_open number k took e c = speak_open (is_up e.state.phase) k e.state c refl

-- ---- timeouts

late_was_up_by : (lasts : Bool) (s : State) → is_up (late_effect lasts s).state.phase ≡ true → is_up s.phase ≡ true
late_was_up_by true s is = is
late_was_up_by false s is = absurd (true≢false (sym is))

late_was_up : (halts : Bool) (s : State)
    → is_up (if halts then answers_halted s else on_event timed_out s).state.phase ≡ true → is_up s.phase ≡ true
late_was_up true s is = is
late_was_up false s is = late_was_up_by (nat_lt (s.timeouts + 1) TIMEOUTS_MAX) s is

-- ---- a step

pub stays_open : {C : Type 0} (k : Keeper C) (id : Identity) (event : EndEvent) (e : EndState C)
    → HasClosedWhereItIsOver k e → HasClosedWhereItIsOver k (end_step k id event e).state
stays_open {C = C} k id event e was =
    let R : EndEffect C → Type 0 = λ x. HasClosedWhereItIsOver k x.state in
    stage_leads k id event e R (λ stage. GoesOnAt k stage e.link e.keeper)
    (λ g down. hailing_leads id e R (λ number next says. down)
    (λ number says is. not_up (is_up (step e.link to_begin).state.phase) (k.is_over e.keeper) (begun_is_down (is_halted e.link.phase) e.link refl))
    (λ number says. not_up (is_up e.link.phase) (k.is_over e.keeper) down) (λ number how says. tt) was g event)
    (λ before. linked_leads k id e R (λ took x c. goes_on_open e.number k took x c) (λ parted how x c took none. tt)
    (λ live. before (late_was_up (is_halted e.link.phase) e.link live)) tt was event)
    was e.stage was

first_open : (side : Side) (own : Announced) → is_up (first_link side own).phase ≡ false
first_open Caller own = refl
first_open Called own = refl

pub begins_open : {C : Type 0} (k : Keeper C) (id : Identity) (own : Announced) (number : Option ℕ) (c : C)
    → HasClosedWhereItIsOver k (begins_session id own number c).state
begins_open k id own number c = first_open id.side own
