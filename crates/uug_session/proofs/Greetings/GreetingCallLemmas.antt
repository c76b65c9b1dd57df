-- How a node greets through whatever is called.
use Rattle.std.proofs.Common.{◌≡◌, ℕ, ◌+◌, Bool, true, false, nat_lt, if◌then◌else◌, List, [], ◌∷◌, ◌++◌, drop, map, Option, Some, None, refl, sym, ap, subst, ◌∙◌}
use Rattle.std.proofs.lemmas.List.{append_cancel_left, append-nil}
use Rattle.std.specs.Bool.{⊤}
use Rattle.uug_link.specs.Announced.{Announced}
use Rattle.uug_link.specs.Entries.{EntryValue}
use Rattle.uug_link.specs.State.{State}
use Rattle.uug_link.specs.declared.limits.TheConstants.{TIMEOUTS_MAX}
use Rattle.uug_reader.specs.Reading.{Reading}
use Rattle.uug_session.specs.declared.end.End.TheVariants as ends
use Rattle.uug_talk.specs.StreamTexts.{StandBefore}
use Rattle.uug_session.specs.declared.greeting.Greeted.{Greeted}
use Rattle.uug_session.specs.declared.greeting.Greeted.TheVariants.{GoesOn, LinkBegins, Ended}
use Rattle.uug_session.specs.declared.greeting.Greeting.{Greeting}
use Rattle.uug_session.specs.EndStep.{Stage, hailing, Emitted, EndEffect, EndState, Identity, begins_link, behind_greeting, greeted_so, says_text, stage_step, text_found}
use Rattle.uug_session.specs.Engine.{BeginsSession, CountsFaults, Does, EngineState, bare, end_of, entry_of, stage_late}
use Rattle.uug_session.specs.Greeting.{GreetingStep, fails, greeting_at_first, number_by, text_came, timed_out}
use Rattle.uug_session.specs.GreetingCalls.{Hearing, hears_text, hears_long_text, hears_nothing, greets_to, text_in, Brings, GreetsAt, DoesStep, GreetsOn, GreetsThrough}
use Rattle.uug_conversation.specs.Holdings.{Holdings}
use Rattle.uug_conversation.specs.Jobs.{Lists}
use Rattle.uug_session.specs.Node.{NodeState, ItemValue, text_item, packet_item, bad_item, ShowsItem, TakesItem, offered_at, searched_at, texts_searched}
use Rattle.uug_session.specs.NodeCalls.{Adds, Beside, Make, Makes, NodeCall, offers, looks, takes, refuses, times_out, refuses_timeout, clears, taken_in}
use Rattle.uug_session.specs.Sessions.{HoldsNothing}
use Rattle.uug_conversation.specs.DialogueState.{DialogueState, end_keeper}
use Rattle.uug_conversation.specs.DialogueValue.{DialogueValue, dialogue_has_parted}
use Rattle.uug_session.specs.TextsFound.{Taken}
use Rattle.uug_session.specs.TextsHeld.{TextsHeld, TextSearch, text_waits, text_stands, text_too_long, search_text}
use Rattle.uug_conversation.specs.declared.side.Side.{Side}
use Rattle.uug_conversation.specs.declared.side.Side.TheVariants.{Caller, Called}
use Rattle.uug_session.proofs.TextCallLemmas.{stands_dropped, taken_more, taken_right_behind, taken_searched, taken_too_long}

-- ---- a step as it is told

abbrev as_told : {C : Type 0} → EndEffect C → EndEffect (Unit {0})
as_told e = record { state = record { stage = e.state.stage; link = e.state.link; keeper = tt; number = e.state.number }; emitted = e.emitted; took = e.took }

link_told : {C : Type 0} (number : Option ℕ) (side : Side) (said : List Emitted) (s : State) (c : C)
    → as_told (begins_link number side s c said) ≡ begins_link number side s tt said
link_told number Caller said s c = refl
link_told number Called said s c = refl

greeted_told : {C : Type 0} (number : Option ℕ) (id : Identity) (greeted : Greeted) (said : List Emitted) (s : State) (c : C)
    → as_told (greeted_so number id greeted said s c) ≡ greeted_so number id greeted said s tt
greeted_told number id (GoesOn g) said s c = refl
greeted_told number id LinkBegins said s c = link_told number id.side said s c
greeted_told number id (Ended how) said s c = refl

-- how far the session is when the greeting came to this
abbrev stage_by : (number : Option ℕ) → Identity → Greeted → (says : List (List ℕ)) → State → Stage
stage_by number id greeted says s =
    let e : EndEffect (Unit {0}) = greeted_so number id greeted (map says_text says) s tt in
    e.state.stage

-- what is left where it goes on so
abbrev IsLeftBy : (texts : List (List ℕ)) → (came : List ℕ) → Greeted → NodeState → Type 0
IsLeftBy texts came (GoesOn g) n = Taken texts came n.texts.bytes
IsLeftBy texts came LinkBegins n = StandBefore texts n.packets.bytes came
IsLeftBy texts came (Ended how) n = ⊤

-- one call in the greeting
record CallStep (id : Identity) (call : NodeCall) (g : Greeting) (texts : List (List ℕ)) (came : List ℕ) (added : List EntryValue) (old new : NodeState) : Type 0 where
  x : Option Hearing
  brings : Brings call texts came x
  does : DoesStep id (greets_to id.me id.peer old.engine.number x g) added old new
  identity : new.engine.identity ≡ id
  left : IsLeftBy (texts ++ text_in x) (came ++ taken_in call) (greets_to id.me id.peer old.engine.number x g).greeted new

abbrev entries_of : NodeState → List EntryValue
entries_of n = n.engine.outbox.entries

none_added : (added : List EntryValue) (old new : NodeState) → entries_of new ≡ entries_of old → entries_of new ≡ entries_of old ++ added → added ≡ []
none_added added old new same adds =
    append_cancel_left (entries_of old) added [] (sym adds ∙ same ∙ sym (append-nil (entries_of old)))

-- a call that brings nothing to be heard
quiet_step : (id : Identity) (call : NodeCall) (g : Greeting) (texts : List (List ℕ)) (came : List ℕ) (added : List EntryValue) (old new : NodeState)
    → Brings call texts came None → new.engine.stage ≡ hailing g → new.engine.link ≡ old.engine.link → new.engine.number ≡ old.engine.number → new.engine.identity ≡ id → added ≡ []
    → Taken texts (came ++ taken_in call) new.texts.bytes → CallStep id call g texts came added old new
quiet_step id call g texts came added old new brings stage link number identity none taken = record {
  x = None;
  brings = brings;
  does = record { stage = stage; link = link; number = number; says = none };
  identity = identity;
  left = subst (λ (all : List (List ℕ)). Taken all (came ++ taken_in call) new.texts.bytes) (sym (append-nil texts)) taken;
}

-- what was taken is the same where no byte comes
still_taken : (texts : List (List ℕ)) (came : List ℕ) (old new : List ℕ) → new ≡ old → Taken texts came old → Taken texts (came ++ []) new
still_taken texts came old new is taken =
    subst (λ (bytes : List ℕ). Taken texts bytes new) (sym (append-nil came)) (subst (Taken texts came) (sym is) taken)

-- the end's step is the greeting's
step_done : {C : Type 0} (id : Identity) (step : GreetingStep) (added : List EntryValue) (old new : NodeState) (c : C) (end_after : EndState C)
    → end_after.stage ≡ new.engine.stage → end_after.link ≡ new.engine.link → end_after.number ≡ new.engine.number
    → Does (behind_greeting old.engine.number id step old.engine.link c) end_after old.engine new.engine
    → entries_of new ≡ entries_of old ++ added → DoesStep id step added old new
step_done {C = C} id step added old new c end_after stage link number does adds =
    let same = greeted_told (number_by step.rises old.engine.number) id step.greeted (map says_text step.says) old.engine.link c in
    record {
      stage = sym stage ∙ ap (λ (e : EndState C). e.stage) does.end ∙ ap (λ (e : EndEffect (Unit {0})). e.state.stage) same;
      link = sym link ∙ ap (λ (e : EndState C). e.link) does.end ∙ ap (λ (e : EndEffect (Unit {0})). e.state.link) same;
      number = sym number ∙ ap (λ (e : EndState C). e.number) does.end ∙ ap (λ (e : EndEffect (Unit {0})). e.state.number) same;
      says = append_cancel_left (entries_of old) added (map entry_of (behind_greeting old.engine.number id step old.engine.link c).emitted) (sym adds ∙ does.emitted)
          ∙ ap (λ (e : EndEffect (Unit {0})). map entry_of e.emitted) same;
    }

module _ (h : Holdings) (most : ℕ) where
  looked : (g : Greeting) (texts : List (List ℕ)) (came : List ℕ) (added : List EntryValue) (old new : NodeState)
      → old.engine.stage ≡ hailing g → Taken texts came old.texts.bytes → (r : TextSearch) → search_text old.texts.bytes ≡ r
      → new ≡ texts_searched r old → entries_of new ≡ entries_of old ++ added → CallStep old.engine.identity looks g texts came added old new
  looked g texts came added old new stage taken (text_waits rest) e is adds =
      quiet_step old.engine.identity looks g texts came added old new tt (ap (λ (n : NodeState). n.engine.stage) is ∙ stage)
      (ap (λ (n : NodeState). n.engine.link) is) (ap (λ (n : NodeState). n.engine.number) is) (ap (λ (n : NodeState). n.engine.identity) is)
      (none_added added old new (ap entries_of is) adds)
      (still_taken texts came rest new.texts.bytes (ap (λ (n : NodeState). n.texts.bytes) is)
      (taken_searched texts came old.texts.bytes (text_waits rest) (λ no. cc) e taken))
  looked g texts came added old new stage taken (text_stands text others) e is adds =
      quiet_step old.engine.identity looks g texts came added old new tt (ap (λ (n : NodeState). n.engine.stage) is ∙ stage)
      (ap (λ (n : NodeState). n.engine.link) is) (ap (λ (n : NodeState). n.engine.number) is) (ap (λ (n : NodeState). n.engine.identity) is)
      (none_added added old new (ap entries_of is) adds)
      (still_taken texts came others new.texts.bytes (ap (λ (n : NodeState). n.texts.bytes) is)
      (taken_searched texts came old.texts.bytes (text_stands text others) (λ no. cc) e taken))
  looked g texts came added old new stage taken text_too_long e is adds = record {
    x = Some hears_long_text;
    brings = taken_too_long texts came old.texts.bytes taken e;
    does = record {
      stage = ap (λ (n : NodeState). n.engine.stage) is;
      link = ap (λ (n : NodeState). n.engine.link) is;
      number = ap (λ (n : NodeState). n.engine.number) is;
      says = none_added added old new (ap entries_of is) adds;
    };
    identity = ap (λ (n : NodeState). n.engine.identity) is;
    left = tt;
  }

  -- by what becomes of the greeting at a text
  left_behind : (greeted : Greeted) (texts : List (List ℕ)) (came : List ℕ) (n : NodeState) → StandBefore texts n.texts.bytes came
      → n.packets.bytes ≡ n.texts.bytes → IsLeftBy texts came greeted n
  left_behind (GoesOn g) texts came n stand same = taken_right_behind texts came n.texts.bytes stand
  left_behind LinkBegins texts came n stand same = subst (λ (bytes : List ℕ). StandBefore texts bytes came) (sym same) stand
  left_behind (Ended how) texts came n stand same = tt

  took : (answer : Bool) (g : Greeting) (texts : List (List ℕ)) (came : List ℕ) (added : List EntryValue) (old new : Beside)
      → old.node.engine.stage ≡ hailing g → Taken texts came old.node.texts.bytes → (item : ItemValue)
      → ShowsItem (hailing g) old.node.texts old.node.packets item
      → TakesItem h old.kept new.kept (CountsFaults most old.faults new.faults) item old.node new.node answer
      → entries_of new.node ≡ entries_of old.node ++ added → CallStep old.node.engine.identity (takes answer) g texts came added old.node new.node
  took answer g texts came added old new stage taken (text_item text) shows t adds =
      let id = old.node.engine.identity in
      let number = old.node.engine.number in
      let step = text_came id.me id.peer number g text in
      let before = end_of h old.kept old.node.engine in
      let after = end_of h new.kept new.node.engine in
      let does : Does (behind_greeting number id step old.node.engine.link before.keeper) after old.node.engine new.node.engine =
      subst (λ (s : Stage). Does (stage_step (end_keeper id.side h) id s (text_found text) before) after old.node.engine new.node.engine) stage t.does in
      let held = ap (λ (r : TextsHeld). r.bytes) t.left.0 in
      let stand : StandBefore (texts ++ text ∷ []) new.node.texts.bytes (came ++ []) =
      subst (λ (bytes : List ℕ). StandBefore (texts ++ text ∷ []) bytes (came ++ [])) (sym held)
      (subst (StandBefore (texts ++ text ∷ []) (drop old.node.texts.shown_size old.node.texts.bytes)) (sym (append-nil came)) (stands_dropped texts came text old.node.texts shows taken)) in
      record {
        x = Some (hears_text text);
        brings = tt;
        does = step_done id step added old.node new.node before.keeper after refl refl refl does adds;
        identity = t.does.identity;
        left = left_behind step.greeted (texts ++ text ∷ []) (came ++ []) new.node stand
            (ap (λ (r : Reading). r.bytes) t.left.1 ∙ sym held);
      }
  took answer g texts came added old new stage taken (packet_item p) shows t adds = absurd shows
  took answer g texts came added old new stage taken bad_item shows t adds = absurd shows

  -- a timeout ends the session or lets it wait on
  abbrev late_step : (in_time : Bool) → Greeting → GreetingStep
  late_step in_time g =
      if in_time
      then record { says = []; greeted = GoesOn (record { awaited = g.awaited; timeouts = g.timeouts + 1 }); rises = false }
      else fails [] ends.GaveUp

  late_left : (in_time : Bool) (g : Greeting) (texts : List (List ℕ)) (came : List ℕ) (n : NodeState) → Taken texts came n.texts.bytes
      → IsLeftBy texts came (late_step in_time g).greeted n
  late_left true g texts came n taken = taken
  late_left false g texts came n taken = tt

  one_call : (call : NodeCall) (g : Greeting) (texts : List (List ℕ)) (came : List ℕ) (added : List EntryValue) (old new : Beside)
      → old.node.engine.stage ≡ hailing g → Taken texts came old.node.texts.bytes
      → Makes h most call old new → Adds call added old new → CallStep old.node.engine.identity call g texts came added old.node new.node
  one_call (offers bytes) g texts came added old new stage taken (is, same) adds =
      let there : new.node ≡ offered_at (hailing g) bytes old.node = is ∙ ap (λ (s : Stage). offered_at s bytes old.node) stage in
      let engine = ap (λ (n : NodeState). n.engine) there in
      quiet_step old.node.engine.identity (offers bytes) g texts came added old.node new.node refl
      (ap (λ (e : EngineState). e.stage) engine ∙ stage) (ap (λ (e : EngineState). e.link) engine) (ap (λ (e : EngineState). e.number) engine) (ap (λ (e : EngineState). e.identity) engine)
      (none_added added old.node new.node (ap (λ (e : EngineState). e.outbox.entries) engine) adds)
      (subst (Taken texts (came ++ bytes)) (sym (ap (λ (n : NodeState). n.texts.bytes) there)) (taken_more texts came old.node.texts.bytes bytes taken))
  one_call looks g texts came added old new stage taken (is, same) adds =
      looked g texts came added old.node new.node stage taken (search_text old.node.texts.bytes) refl
      (is ∙ ap (λ (s : Stage). searched_at s old.node) stage) adds
  one_call (takes answer) g texts came added old new stage taken (counts, (item, shows, t)) adds =
      took answer g texts came added old new stage taken item
      (subst (λ (s : Stage). ShowsItem s old.node.texts old.node.packets item) stage shows) t adds
  one_call refuses g texts came added old new stage taken (faults, same) adds =
      quiet_step old.node.engine.identity refuses g texts came added old.node new.node refl
      (ap (λ (e : EndState DialogueState). e.stage) same.does.end ∙ stage) (ap (λ (e : EndState DialogueState). e.link) same.does.end) (ap (λ (e : EndState DialogueState). e.number) same.does.end) same.does.identity
      (append_cancel_left (entries_of old.node) added [] (sym adds ∙ same.does.emitted))
      (still_taken texts came old.node.texts.bytes new.node.texts.bytes (ap (λ (r : TextsHeld). r.bytes) same.texts) taken)
  one_call times_out g texts came added old new stage taken (late, same) adds =
      let e = old.node.engine in
      let does : Does (behind_greeting e.number e.identity (timed_out g) e.link e.dialogue) (bare new.node.engine) e new.node.engine =
      subst (λ (s : Stage). Does (stage_late e.number e.identity (dialogue_has_parted e.dialogue) s e.link e.dialogue) (bare new.node.engine) e new.node.engine) stage late in
      let step = timed_out g in
      record {
        x = Some hears_nothing;
        brings = refl;
        does = step_done e.identity step added old.node new.node e.dialogue (bare new.node.engine) refl refl refl does adds;
        identity = late.identity;
        left = late_left (nat_lt (g.timeouts + 1) TIMEOUTS_MAX) g (texts ++ []) (came ++ []) new.node
            (subst (λ (all : List (List ℕ)). Taken all (came ++ []) new.node.texts.bytes) (sym (append-nil texts))
            (still_taken texts came old.node.texts.bytes new.node.texts.bytes (ap (λ (r : TextsHeld). r.bytes) same.texts) taken));
      }
  one_call refuses_timeout g texts came added old new stage taken (does, same) adds =
      quiet_step old.node.engine.identity refuses_timeout g texts came added old.node new.node refl
      (ap (λ (e : EndState DialogueValue). e.stage) does.end ∙ stage) (ap (λ (e : EndState DialogueValue). e.link) does.end) (ap (λ (e : EndState DialogueValue). e.number) does.end) does.identity
      (append_cancel_left (entries_of old.node) added [] (sym adds ∙ does.emitted))
      (still_taken texts came old.node.texts.bytes new.node.texts.bytes (ap (λ (r : TextsHeld). r.bytes) same.texts) taken)
  one_call clears g texts came added old new stage taken (is, same) adds =
      quiet_step old.node.engine.identity clears g texts came added old.node new.node refl
      (ap (λ (e : EngineState). e.stage) is ∙ stage) (ap (λ (e : EngineState). e.link) is) (ap (λ (e : EngineState). e.number) is) (ap (λ (e : EngineState). e.identity) is)
      adds.0
      (still_taken texts came old.node.texts.bytes new.node.texts.bytes (ap (λ (r : TextsHeld). r.bytes) same.texts) taken)

  module _ (id : Identity) where
    pub greets_through : (calls : List NodeCall) (texts : List (List ℕ)) (came : List ℕ) (added : List EntryValue) (old new : Beside) (g : Greeting)
        → GreetsAt id g texts came old.node → Make h most calls added old new → GreetsThrough h most id calls texts came added old new g
    greets_through [] texts came added old new g at made = (at, made.0, made.1)
    greets_through (call ∷ calls) texts came added old new g at (middle, first, more, is, makes, adds, rest) = (
      at,
      middle,
      first,
      more,
      is,
      step.x,
      step.brings,
      step.does,
      by_greeted (λ next here. greets_through calls (texts ++ text_in step.x) (came ++ taken_in call) more middle new next here rest)
          (greets_to id.me id.peer old.node.engine.number step.x g).greeted step.left step.does.stage,
    ) where
      step : CallStep id call g texts came first old.node middle.node
      step = subst (λ (i : Identity). CallStep i call g texts came first old.node middle.node) at.identity
          (one_call call g texts came first old middle at.stage at.taken makes adds)

      done : GreetingStep
      done = greets_to id.me id.peer old.node.engine.number step.x g

      by_greeted : ((next : Greeting) → GreetsAt id next (texts ++ text_in step.x) (came ++ taken_in call) middle.node
          → GreetsThrough h most id calls (texts ++ text_in step.x) (came ++ taken_in call) more middle new next)
          → (greeted : Greeted) → IsLeftBy (texts ++ text_in step.x) (came ++ taken_in call) greeted middle.node
          → middle.node.engine.stage ≡ stage_by (number_by done.rises old.node.engine.number) id greeted done.says old.node.engine.link
          → GreetsOn (GreetsThrough h most id calls (texts ++ text_in step.x) (came ++ taken_in call) more middle new)
          (Make h most calls more middle new) (texts ++ text_in step.x) (came ++ taken_in call) greeted middle.node
      by_greeted goes_on (GoesOn next) left stage = goes_on next (record { identity = step.identity; stage = stage; taken = left })
      by_greeted goes_on LinkBegins left stage = (left, rest)
      by_greeted goes_on (Ended how) left stage = rest

-- ---- a session begins

pub greets_first : (id : Identity) (own : Announced) (number : Option ℕ) (l : Lists) (entries : List EntryValue) (n : NodeState) → BeginsSession id own number l entries n.engine → HoldsNothing n
    → GreetsAt id (greeting_at_first id.side) [] [] n
greets_first id own number l entries n begins holds = record {
  identity = begins.identity;
  stage = ap (λ (e : EndState DialogueValue). e.stage) begins.end;
  taken = taken_right_behind [] [] n.texts.bytes (sym (ap (λ (r : TextsHeld). r.bytes) holds.texts));
}
