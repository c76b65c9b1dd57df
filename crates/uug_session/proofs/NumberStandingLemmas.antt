-- The number of an end's conversations stands as its session does, whatever happens to the end.
use Rattle.std.proofs.Common.{◌≡◌, ◌⊎◌, ℕ, ◌+◌, nat_lt, if◌then◌else◌, Bool, true, false, List, [], ◌++◌, codes, Option, inl, inr, refl, sym, ap, subst}
use Rattle.std.specs.Prelude.{drop}
use Rattle.std.specs.Str.{bytes_eq}
use Rattle.uug_link.specs.declared.limits.TheConstants.{TIMEOUTS_MAX}
use Rattle.uug_link.specs.Announced.{Announced}
use Rattle.uug_link.specs.Entries.{EntryValue}
use Rattle.uug_link.specs.State.{State}
use Rattle.uug_link.specs.Step.{step, timed_out}
use Rattle.uug_talk.specs.Call.{number_in_call}
use Rattle.uug_session.specs.declared.end.End.{End}
use Rattle.uug_session.specs.declared.end.End.TheVariants as ends
use Rattle.uug_session.specs.declared.greeting.AwaitedText.{AwaitedText}
use Rattle.uug_session.specs.declared.greeting.AwaitedText.TheVariants.{CalledName, CallerName, Admission, Protocols, Choice}
use Rattle.uug_session.specs.declared.greeting.Greeted.{Greeted}
use Rattle.uug_session.specs.declared.greeting.Greeted.TheVariants.{GoesOn, LinkBegins, Ended}
use Rattle.uug_session.specs.declared.greeting.Greeting.{Greeting}
use Rattle.uug_session.specs.Arriving.{Buffered, Arrival}
use Rattle.uug_session.specs.EndStep.{Stage, hailing, linked, ended, Emitted, EndEvent, EndState, Identity, text_found, long_text_found, packet_found_whole, broken_found, time_ran_out, line_lost, begins_link, begins_session, end_step, greeted_so, hailing_step, how_it_ends, linked_step, stage_step}
use Rattle.uug_session.specs.Engine.{BeginsSession, Does, EngineState, bare, end_of, hung_up, stage_late, with_stage}
use Rattle.uug_session.specs.Greeting.{GreetingStep, begins_with, came_for, is_expected, name_in_caller_text, number_by, number_came, offers_g, risen, text_came, timed_out as greeting_timed_out}
use Rattle.uug_conversation.specs.Holdings.{Kept, Holdings}
use Rattle.uug_conversation.specs.Jobs.{Lists}
use Rattle.uug_conversation.specs.Keeper.{Keeper}
use Rattle.uug_session.specs.Node.{NodeState, effect_of}
use Rattle.uug_session.specs.NodeArriving.{NodeEnd, TakesAll, hearer_of}
use Rattle.uug_session.specs.NumberStanding.{EndsWithNumber, KeepsNumber, NumberStands, number_while}
use Rattle.uug_conversation.specs.DialogueState.{end_keeper}
use Rattle.uug_conversation.specs.DialogueValue.{DialogueValue, dialogue_has_parted}
use Rattle.uug_conversation.specs.declared.side.Side.{Side}
use Rattle.uug_conversation.specs.declared.side.Side.TheVariants.{Caller, Called}
use Rattle.uug_session.specs.WholeGreeting.{IsRefusal}
use Rattle.uug_session.proofs.KeeperLemmas.{end_in, piece_keeps}
use Rattle.uug_session.proofs.StepKeeps.{late_so, linked_leads}

-- of an end at its stage
abbrev Stands : {C : Type 0} (n : Option ℕ) → EndState C → Type 0
Stands n e = NumberStands n e.stage e.number

-- ---- on the link

-- a session that ends on its link was no refused call
over : (n now : Option ℕ) (parted : Bool) (how : End) → (IsRefusal how → ⊥) → now ≡ risen n → EndsWithNumber n (how_it_ends parted how) now
over n now true how none e = record { once = inr e; refused = λ is. absurd is }
over n now false how none e = record { once = inr e; refused = λ is. absurd (none is) }

on_link : {C : Type 0} (n : Option ℕ) (k : Keeper C) (id : Identity) (event : EndEvent) (e : EndState C) → e.number ≡ risen n
    → Stands n e → Stands n (linked_step k id event e).state
on_link n k id event e h same =
    linked_leads k id e (λ x. Stands n x.state) (λ took x c. h) (λ parted how x c took none. over n e.number parted how none h) h
    (over n e.number (k.has_parted e.keeper) ends.HungUp (λ is. is) h) same event

-- ---- in the greeting

-- what a text, or a timeout, leads to from there
abbrev LeadsTo : (n : Option ℕ) → Greeted → (now : Option ℕ) → Type 0
LeadsTo n (GoesOn g) now = now ≡ number_while g.awaited n
LeadsTo n LinkBegins now = now ≡ risen n
LeadsTo n (Ended how) now = EndsWithNumber n how now

abbrev Leads : (n now : Option ℕ) → GreetingStep → Type 0
Leads n now s = LeadsTo n s.greeted (number_by s.rises now)

either : {A : Type 0} (P : A → Type 0) (b : Bool) (x y : A) → P x → P y → P (if b then x else y)
either P true x y h k = h
either P false x y h k = k

refuses : (n now : Option ℕ) (how : End) → now ≡ n → EndsWithNumber n how now
refuses n now how h = record { once = inl h; refused = λ is. h }

let_in : (n now : Option ℕ) (expected : Bool) → now ≡ n → Leads n now (number_came expected)
let_in n now false h = refuses n now ends.BadSequence h
let_in n now true h = ap risen h

-- the end waits for this text
came : (awaited : AwaitedText) (n : Option ℕ) (me peer : List ℕ) (now : Option ℕ) (g : Greeting) (text : List ℕ)
    → now ≡ number_while awaited n → now ≡ number_while g.awaited n → Leads n now (came_for awaited me peer now g text)
came CalledName n me peer now g text h same =
    let P : GreetingStep → Type 0 = Leads n now in
    either P (bytes_eq text (codes "Shere")) _ _ h
    (either P (begins_with text (codes "Shere=")) _ _
    (either P (bytes_eq (drop 6 text) peer) _ _ h (refuses n now ends.WrongName h)) same)
came CallerName n me peer now g text h same =
    let P : GreetingStep → Type 0 = Leads n now in
    either P (begins_with text (codes "S")) _ _
    (either P (bytes_eq (name_in_caller_text text) peer) _ _
    (let_in n now (is_expected now (number_in_call text)) h) (refuses n now ends.Refused h)) same
came Admission n me peer now g text h same =
    let P : GreetingStep → Type 0 = Leads n now in
    either P (begins_with text (codes "ROK")) _ _ (ap risen h)
    (either P (begins_with text (codes "RBADSEQ")) _ _ (refuses n now ends.BadSequence h)
    (either P (begins_with text (codes "R")) _ _ (refuses n now ends.Refused h) same))
came Protocols n me peer now g text h same =
    let P : GreetingStep → Type 0 = Leads n now in
    either P (begins_with text (codes "P")) _ _
    (either P (offers_g text) _ _ h (record { once = inr h; refused = λ is. absurd is })) same
came Choice n me peer now g text h same =
    let P : GreetingStep → Type 0 = Leads n now in
    either P (bytes_eq text (codes "Ug")) _ _ h
    (either P (begins_with text (codes "U")) _ _ (record { once = inr h; refused = λ is. absurd is }) same)

once_while : (awaited : AwaitedText) (n now : Option ℕ) → now ≡ number_while awaited n → (now ≡ n) ⊎ (now ≡ risen n)
once_while CalledName n now h = inl h
once_while CallerName n now h = inl h
once_while Admission n now h = inl h
once_while Protocols n now h = inr h
once_while Choice n now h = inr h

-- it ends, and not since it was refused
breaks : (n now : Option ℕ) (g : Greeting) (how : End) → (IsRefusal how → ⊥) → now ≡ number_while g.awaited n → EndsWithNumber n how now
breaks n now g how none h = record { once = once_while g.awaited n now h; refused = λ is. absurd (none is) }

waited : (n now : Option ℕ) (g : Greeting) → now ≡ number_while g.awaited n → Leads n now (greeting_timed_out g)
waited n now g h = either (Leads n now) (nat_lt (g.timeouts + 1) TIMEOUTS_MAX) _ _ h (breaks n now g ends.GaveUp (λ is. is) h)

begun : {C : Type 0} (n number : Option ℕ) (side : Side) (s : State) (c : C) (said : List Emitted) → number ≡ risen n
    → Stands n (begins_link number side s c said).state
begun n number Caller s c said h = h
begun n number Called s c said h = h

greeted : {C : Type 0} (n number : Option ℕ) (id : Identity) (to : Greeted) (said : List Emitted) (s : State) (c : C) → LeadsTo n to number
    → Stands n (greeted_so number id to said s c).state
greeted n number id (GoesOn g) said s c h = h
greeted n number id LinkBegins said s c h = begun n number id.side s c said h
greeted n number id (Ended how) said s c h = h

in_greeting : {C : Type 0} (n : Option ℕ) (id : Identity) (g : Greeting) (event : EndEvent) (e : EndState C)
    → e.number ≡ number_while g.awaited n → Stands n e → Stands n (hailing_step id g event e).state
in_greeting n id g (text_found text) e h same =
    let s = text_came id.me id.peer e.number g text in
    greeted n (number_by s.rises e.number) id s.greeted _ e.link e.keeper (came g.awaited n id.me id.peer e.number g text h h)
in_greeting n id g long_text_found e h same = breaks n e.number g ends.BadTalk (λ is. is) h
in_greeting n id g time_ran_out e h same =
    let s = greeting_timed_out g in
    greeted n (number_by s.rises e.number) id s.greeted _ e.link e.keeper (waited n e.number g h)
in_greeting n id g line_lost e h same = breaks n e.number g ends.HungUp (λ is. is) h
in_greeting n id g (packet_found_whole failed p) e h same = same
in_greeting n id g broken_found e h same = same

-- ---- each step

at_stage : {C : Type 0} (n : Option ℕ) (k : Keeper C) (id : Identity) (stage : Stage) (event : EndEvent) (e : EndState C)
    → NumberStands n stage e.number → Stands n e → Stands n (stage_step k id stage event e).state
at_stage n k id (hailing g) event e h same = in_greeting n id g event e h same
at_stage n k id linked event e h same = on_link n k id event e h same
at_stage n k id (ended how) event e h same = same

stepped : {C : Type 0} (n : Option ℕ) (k : Keeper C) (id : Identity) (event : EndEvent) (e : EndState C)
    → Stands n e → Stands n (end_step k id event e).state
stepped n k id event e h = at_stage n k id e.stage event e h h

pub event_keeps : (h : Holdings) (kept : List Kept) (event : EndEvent) (e : EngineState) (number : Option ℕ)
    → NumberStands number e.stage e.number
    → NumberStands number (effect_of h kept event e).state.stage (effect_of h kept event e).state.number
event_keeps h kept event e number stands = stepped number (end_keeper e.identity.side h) e.identity event (end_of h kept e) stands

-- ---- bytes that come

pub takes_all_keeps : (h : Holdings) (kept kept_after : List Kept) (failure : Type 0) (bytes : List ℕ) (before after : NodeState)
    → TakesAll h kept kept_after failure bytes before after → KeepsNumber before.engine after.engine
takes_all_keeps h kept kept_after failure bytes before after g = record {
  stands = λ number stands.
      let from : Buffered NodeEnd = hearer_of h kept [] (g.course.failures ++ []) before in
      subst (λ (c : Arrival NodeEnd). Stands number (end_in c).state) (g.taken [] [])
      (piece_keeps before.engine.identity h (Stands number) (stepped number (end_keeper before.engine.identity.side h) before.engine.identity) bytes from stands);
}

-- ---- a timeout, and the line's end

late_at : {C : Type 0} (n number : Option ℕ) (id : Identity) (parted : Bool) (stage : Stage) (s : State) (c : C)
    → NumberStands n stage number → Stands n (stage_late number id parted stage s c).state
late_at n number id parted (hailing g) s c h =
    let w = greeting_timed_out g in
    greeted n (number_by w.rises number) id w.greeted _ s c (waited n number g h)
late_at n number id parted linked s c h =
    late_so id number (λ x. Stands n x.state) parted (step s timed_out).outcome (step s timed_out) c h (over n number parted ends.GaveUp (λ is. is) h)
late_at n number id parted (ended how) s c h = h

pub late_keeps : (before after : EngineState)
    → Does (stage_late before.number before.identity (dialogue_has_parted before.dialogue) before.stage before.link before.dialogue)
    (bare after) before after → KeepsNumber before after
late_keeps before after d = record {
  stands = λ number stands.
      subst (λ (e : EndState DialogueValue). Stands number e) (sym d.end)
      (late_at number before.number before.identity (dialogue_has_parted before.dialogue) before.stage before.link before.dialogue stands);
}

lost_at : (n number : Option ℕ) (parted : Bool) (stage : Stage) → NumberStands n stage number → NumberStands n (hung_up parted stage) number
lost_at n number parted (hailing g) h = breaks n number g ends.HungUp (λ is. is) h
lost_at n number parted linked h = over n number parted ends.HungUp (λ is. is) h
lost_at n number parted (ended how) h = h

pub lost_keeps : (e : EngineState) → KeepsNumber e (with_stage (hung_up (dialogue_has_parted e.dialogue) e.stage) e)
lost_keeps e = record { stands = λ number stands. lost_at number e.number (dialogue_has_parted e.dialogue) e.stage stands }

-- ---- a session begins

first : {C : Type 0} (side : Side) (me peer : List ℕ) (own : Announced) (number : Option ℕ) (c : C)
    → let id : Identity = record { side = side; me = me; peer = peer } in Stands number (begins_session id own number c).state
first Caller me peer own number c = refl
first Called me peer own number c = refl

pub begins_right : (id : Identity) (own : Announced) (number : Option ℕ) (l : Lists) (entries : List EntryValue) (after : EngineState)
    → BeginsSession id own number l entries after → NumberStands number after.stage after.number
begins_right id own number l entries after b =
    subst (λ (e : EndState DialogueValue). Stands number e) (sym b.end) (first id.side id.me id.peer own number after.dialogue)
