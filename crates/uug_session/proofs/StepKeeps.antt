-- Each case of an end's step once: what is so of all that the cases lead to is so of what the step leads to.
use Rattle.std.proofs.Common.{◌≡◌, ℕ, zero, suc, ◌&&◌, Bool, true, false, List, [], map, Option, Some, None, refl}
use Rattle.std.specs.Prelude.{⊤}
use Rattle.uug_link.specs.declared.limits.TheConstants.{WINDOW_MAX}
use Rattle.uug_link.specs.Outcomes.{IsComing}
use Rattle.uug_link.specs.State.{State}
use Rattle.uug_link.specs.Step.{Effect, Event, OutcomeValue, nothing, up, taken, closed, gave_up, halted, step, packet_found, bad_found, timed_out, to_send}
use Rattle.uug_talk.specs.Chunks.{Measure}
use Rattle.uug_session.specs.declared.end.End.{End}
use Rattle.uug_session.specs.declared.end.End.TheVariants as ends
use Rattle.uug_session.specs.declared.greeting.Greeted.{Greeted}
use Rattle.uug_session.specs.declared.greeting.Greeted.TheVariants.{GoesOn, LinkBegins, Ended}
use Rattle.uug_session.specs.declared.greeting.Greeting.{Greeting}
use Rattle.uug_session.specs.EndStep.{Stage, hailing, linked, ended, EndState, EndEffect, EndEvent, says_text, text_found, long_text_found, packet_found_whole, broken_found, time_ran_out, line_lost, Identity, Sending, sending_nothing, in_front, has_room, sends_next, sends_by, sends_up_to, sends, closes_by, speaks_by, ends_so, goes_on, goes_on_with, then_closes, talks_by, takes_by, behind_link, message_of, late_link, begins_link, greeted_so, how_it_ends, unmoved, hailing_step, linked_step, stage_step, measure_of}
use Rattle.uug_session.specs.Greeting.{number_by, text_came, long_text_came, timed_out as greeting_timed_out}
use Rattle.uug_session.specs.WholeGreeting.{IsRefusal}
use Rattle.uug_conversation.specs.Keeper.{Keeper}
use Rattle.uug_conversation.specs.declared.side.Side.{Side}
use Rattle.uug_conversation.specs.declared.side.Side.TheVariants.{Caller, Called}

-- ---- what an end says

-- what each message that is sent keeps is so when no more is said
module _ {C : Type 0} (k : Keeper C) (Before : State → C → Type 0) (Then : Sending C → Type 0)
    (silent : (s : State) (c : C) → Before s c → Then (sending_nothing s c))
    (sent : (s : State) (c : C) (message : List ℕ) → has_room s ≡ true → k.next c ≡ Some message → Before s c
    → Before (step s (to_send message)).state (k.sent c) × ((x : Sending C) → Then x → Then (in_front (step s (to_send message)).emitted x))) where
  abbrev Says : (State → C → Sending C) → Type 0
  Says more = (s : State) (c : C) → Before s c → Then (more s c)

  next_so : (more : State → C → Sending C) (next : Option (List ℕ)) (s : State) (c : C) → Says more → has_room s ≡ true → k.next c ≡ next
      → Before s c → Then (sends_next more k next s c)
  next_so more None s c says room is so = silent s c so
  next_so more (Some message) s c says room is so =
      let after = sent s c message room is so in
      after.1 (more (step s (to_send message)).state (k.sent c)) (says (step s (to_send message)).state (k.sent c) after.0)

  room_so : (more : State → C → Sending C) (room : Bool) (s : State) (c : C) → Says more → has_room s ≡ room → Before s c → Then (sends_by room more k s c)
  room_so more false s c says is so = silent s c so
  room_so more true s c says is so = next_so more (k.next c) s c says is refl so

  pub sends_so : (n : ℕ) → Says (sends_up_to n k)
  sends_so zero s c so = silent s c so
  sends_so (suc n) s c so = room_so (sends_up_to n k) (has_room s) s c (sends_so n) refl so

  closes_so : ((x : Sending C) → Then x → Then (closes_by true x)) → (over : Bool) (x : Sending C) → Then x → Then (closes_by over x)
  closes_so closing false x so = so
  closes_so closing true x so = closing x so

  pub speaks_so : ((x : Sending C) → Then x → Then (closes_by true x)) → (live : Bool) → Says (speaks_by live k)
  speaks_so closing false s c so = silent s c so
  speaks_so closing true s c so = closes_so closing (k.is_over (sends k s c).keeper) (sends k s c) (sends_so WINDOW_MAX s c so)

-- ---- behind the link's answer

module _ {C : Type 0} (k : Keeper C) (id : Identity) (number : Option ℕ) (R : EndEffect C → Type 0) where
  talks_so : (bad : Bool) (e : Effect) (before after : C) → R (goes_on number k true e after)
      → R (ends_so number id (k.has_parted before) ends.BadTalk (then_closes e) after true) → R (talks_by number bad k id e before after)
  talks_so true e before after goes breaks = breaks
  talks_so false e before after goes breaks = goes

  pub takes_so : (failed : Bool) (e : Effect) (message : List ℕ) (c : C) → R (goes_on number k true e (k.taking message c))
      → R (ends_so number id (k.has_parted c) ends.BadTalk (then_closes e) (k.taking message c) true)
      → R (ends_so number id (k.has_parted c) ends.SpoolFault (then_closes e) c true) → R (takes_by number failed k id e message c)
  takes_so true e message c goes breaks fails = fails
  takes_so false e message c goes breaks fails = talks_so (k.is_bad (k.taking message c)) e c (k.taking message c) goes breaks

pub late_so : {C : Type 0} (id : Identity) (number : Option ℕ) (R : EndEffect C → Type 0) (parted : Bool) (o : OutcomeValue) (e : Effect) (c : C)
    → R (goes_on_with number false e.emitted (sending_nothing e.state c)) → R (ends_so number id parted ends.GaveUp e c false)
    → R (late_link number id parted o e c)
late_so id number R parted gave_up e c waits gives_up = gives_up
late_so id number R parted _ e c waits gives_up = waits

-- ---- on the link

module _ {C : Type 0} (k : Keeper C) (id : Identity) (e : EndState C) (R : EndEffect C → Type 0) where
  pub linked_by : ((event : Event) (failed : Bool) (message : List ℕ) → IsComing event
      → R (behind_link e.number k id failed (step e.link event).outcome (step e.link event) message e.keeper))
      → R (late_link e.number id (k.has_parted e.keeper) (step e.link timed_out).outcome (step e.link timed_out) e.keeper)
      → R (greeted_so e.number id (Ended (how_it_ends (k.has_parted e.keeper) ends.HungUp)) [] e.link e.keeper)
      → R (unmoved e) → (event : EndEvent) → R (linked_step k id event e)
  linked_by comes late lost still (packet_found_whole failed p) = comes (packet_found p) failed (message_of p) tt
  linked_by comes late lost still broken_found = comes bad_found false [] tt
  linked_by comes late lost still time_ran_out = late
  linked_by comes late lost still line_lost = lost
  linked_by comes late lost still (text_found text) = still
  linked_by comes late lost still long_text_found = still

-- what the keeper's calls keep; no session that ends on the link was refused
module _ {C : Type 0} (k : Keeper C) (id : Identity) (e : EndState C) (R : EndEffect C → Type 0) (P : C → Type 0)
    (opened : (measure : Measure) (c : C) → P c → P (k.opened measure c))
    (takes : (message : List ℕ) (c : C) → P c → P (k.taking message c))
    (goes : (took : Bool) (x : Effect) (c : C) → P c → R (goes_on e.number k took x c))
    (over : (parted : Bool) (how : End) (x : Effect) (c : C) (took : Bool) → (IsRefusal how → ⊥) → P c → R (ends_so e.number id parted how x c took)) where
  behind_keeps : (failed : Bool) (o : OutcomeValue) (x : Effect) (message : List ℕ) (c : C) → P c → R (behind_link e.number k id failed o x message c)
  behind_keeps failed nothing x message c p = goes false x c p
  behind_keeps failed up x message c p = goes false x (k.opened (measure_of x.state) c) (opened (measure_of x.state) c p)
  behind_keeps failed taken x message c p =
      let after = takes message c p in
      takes_so k id e.number R (failed && k.asks_spool message c) x message c (goes true x (k.taking message c) after)
      (over (k.has_parted c) ends.BadTalk (then_closes x) (k.taking message c) true (λ is. is) after)
      (over (k.has_parted c) ends.SpoolFault (then_closes x) c true (λ is. is) p)
  behind_keeps failed closed x message c p = over (k.has_parted c) ends.PeerClosed x c false (λ is. is) p
  behind_keeps failed gave_up x message c p = over (k.has_parted c) ends.GaveUp x c false (λ is. is) p
  behind_keeps failed halted x message c p = goes false x c p

  pub linked_keeps : P e.keeper → R (goes_on_with e.number false (step e.link timed_out).emitted (sending_nothing (step e.link timed_out).state e.keeper))
      → R (greeted_so e.number id (Ended (how_it_ends (k.has_parted e.keeper) ends.HungUp)) [] e.link e.keeper)
      → R (unmoved e) → (event : EndEvent) → R (linked_step k id event e)
  linked_keeps p waits lost still event =
      let late = step e.link timed_out in
      linked_by k id e R (λ event failed message comes. behind_keeps failed (step e.link event).outcome (step e.link event) message e.keeper p)
      (late_so id e.number R (k.has_parted e.keeper) late.outcome late e.keeper waits
      (over (k.has_parted e.keeper) ends.GaveUp late e.keeper false (λ is. is) p))
      lost still event

-- whatever the keeper comes to
pub linked_leads : {C : Type 0} (k : Keeper C) (id : Identity) (e : EndState C) (R : EndEffect C → Type 0)
    → ((took : Bool) (x : Effect) (c : C) → R (goes_on e.number k took x c))
    → ((parted : Bool) (how : End) (x : Effect) (c : C) (took : Bool) → (IsRefusal how → ⊥) → R (ends_so e.number id parted how x c took))
    → R (goes_on_with e.number false (step e.link timed_out).emitted (sending_nothing (step e.link timed_out).state e.keeper))
    → R (greeted_so e.number id (Ended (how_it_ends (k.has_parted e.keeper) ends.HungUp)) [] e.link e.keeper)
    → R (unmoved e) → (event : EndEvent) → R (linked_step k id event e)
linked_leads {C = C} k id e R goes over waits lost still event =
    linked_keeps k id e R (λ (c : C). ⊤) (λ size c p. p) (λ message c p. p) (λ took x c p. goes took x c)
    (λ parted how x c took none p. over parted how x c took none) tt waits lost still event

-- ---- in the greeting, and at any stage

module _ {C : Type 0} (id : Identity) (e : EndState C) (R : EndEffect C → Type 0)
    (hails : (number : Option ℕ) (g : Greeting) (says : List (List ℕ)) → R (greeted_so number id (GoesOn g) (map says_text says) e.link e.keeper))
    (calls : (number : Option ℕ) (says : List (List ℕ)) → id.side ≡ Caller → R (begins_link number Caller e.link e.keeper (map says_text says)))
    (answers : (number : Option ℕ) (says : List (List ℕ)) → R (begins_link number Called e.link e.keeper (map says_text says)))
    (over : (number : Option ℕ) (how : End) (says : List (List ℕ)) → R (greeted_so number id (Ended how) (map says_text says) e.link e.keeper)) where
  begun_so : (number : Option ℕ) (side : Side) (says : List (List ℕ)) → id.side ≡ side → R (begins_link number side e.link e.keeper (map says_text says))
  begun_so number Caller says is = calls number says is
  begun_so number Called says is = answers number says

  greeted_leads : (number : Option ℕ) (to : Greeted) (says : List (List ℕ)) → R (greeted_so number id to (map says_text says) e.link e.keeper)
  greeted_leads number (GoesOn g) says = hails number g says
  greeted_leads number LinkBegins says = begun_so number id.side says refl
  greeted_leads number (Ended how) says = over number how says

  pub hailing_leads : R (unmoved e) → (g : Greeting) (event : EndEvent) → R (hailing_step id g event e)
  hailing_leads still g (text_found text) =
      let came = text_came id.me id.peer e.number g text in greeted_leads (number_by came.rises e.number) came.greeted came.says
  hailing_leads still g long_text_found = greeted_leads e.number long_text_came.greeted long_text_came.says
  hailing_leads still g time_ran_out =
      let came = greeting_timed_out g in greeted_leads (number_by came.rises e.number) came.greeted came.says
  hailing_leads still g line_lost = over e.number ends.HungUp []
  hailing_leads still g (packet_found_whole failed p) = still
  hailing_leads still g broken_found = still

-- of what is so at the stage
pub stage_leads : {C : Type 0} (k : Keeper C) (id : Identity) (event : EndEvent) (e : EndState C) (R : EndEffect C → Type 0) (At : Stage → Type 0)
    → ((g : Greeting) → At (hailing g) → R (hailing_step id g event e)) → (At linked → R (linked_step k id event e)) → R (unmoved e)
    → (stage : Stage) → At stage → R (stage_step k id stage event e)
stage_leads k id event e R At greets talks still (hailing g) at = greets g at
stage_leads k id event e R At greets talks still linked at = talks at
stage_leads k id event e R At greets talks still (ended how) at = still
