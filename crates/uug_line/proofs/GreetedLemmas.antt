-- How the texts that an end has used lead its greeting on, and to the link.
use Rattle.std.proofs.Common.{◌≡◌, ℕ, suc, Bool, true, false, if◌then◌else◌, List, [], ◌∷◌, ◌++◌, length, map, drop, codes, Option, ap, sym, subst, ◌∙◌, refl, arith}
use Rattle.std.specs.Bool.{⊤}
use Rattle.std.specs.Str.{bytes_eq}
use Rattle.uug_link.specs.State.{State}
use Rattle.uug_session.specs.declared.end.End.{End}
use Rattle.uug_session.specs.declared.end.End.TheVariants as ends
use Rattle.uug_session.specs.declared.greeting.AwaitedText.{AwaitedText}
use Rattle.uug_session.specs.declared.greeting.AwaitedText.TheVariants.{CalledName, CallerName, Admission, Protocols, Choice}
use Rattle.uug_session.specs.declared.greeting.Greeted.{Greeted}
use Rattle.uug_session.specs.declared.greeting.Greeted.TheVariants.{GoesOn, LinkBegins, Ended}
use Rattle.uug_session.specs.declared.greeting.Greeting.{Greeting}
use Rattle.uug_session.specs.EndStep.{Emitted, EndState, Identity, Stage, hailing, linked, ended, begins_link, greeted_so, says_text, stage_step, text_found}
use Rattle.uug_session.specs.Greeting.{GreetingStep, begins_with, came_for, fails, goes_on, begins, greeting_at_first, is_expected, lets_in, name_in_caller_text, number_by, number_came, offers_g, passes_over, text_came}
use Rattle.uug_conversation.specs.Keeper.{Keeper}
use Rattle.uug_conversation.specs.declared.side.Side.{Side}
use Rattle.uug_conversation.specs.declared.side.Side.TheVariants.{Caller, Called}
use Rattle.uug_session.specs.WholeGreeting.{GreetingRun, step_behind, texts_came}
use Rattle.uug_talk.specs.Call.{call_text, number_in_call}
use Rattle.uug_talk.specs.StreamTexts.{Rest}
use Rattle.uug_line.specs.Delivered.{GreetingFailed, GreetsOn, LinkBeganWith, greeted_by}

-- ---- how often nothing came changes nothing of what a text leads to

abbrev pub SameGreeted : Greeted → Greeted → Type 0
SameGreeted (GoesOn g) (GoesOn h) = g.awaited ≡ h.awaited
SameGreeted LinkBegins LinkBegins = ⊤
SameGreeted (Ended how) (Ended other) = how ≡ other
SameGreeted _ _ = ⊥

same_itself : (r : Greeted) → SameGreeted r r
same_itself (GoesOn g) = refl
same_itself LinkBegins = tt
same_itself (Ended how) = refl

same_if : (b : Bool) (x y z w : GreetingStep) → SameGreeted x.greeted z.greeted → SameGreeted y.greeted w.greeted
    → SameGreeted (if b then x else y).greeted (if b then z else w).greeted
same_if true x y z w first next = first
same_if false x y z w first next = next

-- where a text leads only by tests, or is skipped
by_tests : (b c : Bool) (x y : GreetingStep) (g h : Greeting) → g.awaited ≡ h.awaited
    → SameGreeted (if b then x else (if c then y else passes_over g)).greeted (if b then x else (if c then y else passes_over h)).greeted
by_tests b c x y g h same =
    same_if b x (if c then y else passes_over g) x (if c then y else passes_over h) (same_itself x.greeted)
    (same_if c y (passes_over g) y (passes_over h) (same_itself y.greeted) same)

by_test : (b : Bool) (x : GreetingStep) (g h : Greeting) → g.awaited ≡ h.awaited
    → SameGreeted (if b then x else passes_over g).greeted (if b then x else passes_over h).greeted
by_test b x g h same = same_if b x (passes_over g) x (passes_over h) (same_itself x.greeted) same

same_for : (a : AwaitedText) (me peer : List ℕ) (number : Option ℕ) (g h : Greeting) (text : List ℕ) → g.awaited ≡ h.awaited
    → SameGreeted (came_for a me peer number g text).greeted (came_for a me peer number h text).greeted
same_for CalledName me peer number g h text same =
    by_tests (bytes_eq text (codes "Shere")) (begins_with text (codes "Shere=")) (goes_on (call_text me number ∷ []) Admission)
    (if bytes_eq (drop 6 text) peer then goes_on (call_text me number ∷ []) Admission else fails [] ends.WrongName) g h same
same_for CallerName me peer number g h text same =
    by_test (begins_with text (codes "S"))
    (if bytes_eq (name_in_caller_text text) peer
    then number_came (is_expected number (number_in_call text))
    else fails (codes "RYou are unknown to me" ∷ []) ends.Refused) g h same
same_for Admission me peer number g h text same =
    let bad = begins_with text (codes "RBADSEQ") in
    let refused = begins_with text (codes "R") in
    let x : GreetingStep = fails [] ends.BadSequence in
    let y : GreetingStep = fails [] ends.Refused in
    let z : GreetingStep = lets_in [] Protocols in
    same_if (begins_with text (codes "ROK")) z (if bad then x else (if refused then y else passes_over g)) z
    (if bad then x else (if refused then y else passes_over h)) (same_itself z.greeted)
    (by_tests bad refused x y g h same)
same_for Protocols me peer number g h text same =
    by_test (begins_with text (codes "P"))
    (if offers_g text then begins (codes "Ug" ∷ []) else fails (codes "UN" ∷ []) ends.NoProtocol) g h same
same_for Choice me peer number g h text same =
    by_tests (bytes_eq text (codes "Ug")) (begins_with text (codes "U")) (begins []) (fails [] ends.NoProtocol) g h same

same_text : (me peer : List ℕ) (number : Option ℕ) (g h : Greeting) (text : List ℕ) → g.awaited ≡ h.awaited
    → SameGreeted (text_came me peer number g text).greeted (text_came me peer number h text).greeted
same_text me peer number g h text same =
    subst (λ (a : AwaitedText). SameGreeted (text_came me peer number g text).greeted (came_for a me peer number h text).greeted) same
    (same_for g.awaited me peer number g h text same)

-- the number rises at the one as at the other

rises_if : (b : Bool) (x y z w : GreetingStep) → x.rises ≡ z.rises → y.rises ≡ w.rises → (if b then x else y).rises ≡ (if b then z else w).rises
rises_if true x y z w first next = first
rises_if false x y z w first next = next

rises_for : (a : AwaitedText) (me peer : List ℕ) (number : Option ℕ) (g h : Greeting) (text : List ℕ)
    → (came_for a me peer number g text).rises ≡ (came_for a me peer number h text).rises
rises_for CalledName me peer number g h text =
    rises_if (bytes_eq text (codes "Shere")) _ _ _ _ refl (rises_if (begins_with text (codes "Shere=")) _ _ _ _ refl refl)
rises_for CallerName me peer number g h text = rises_if (begins_with text (codes "S")) _ _ _ _ refl refl
rises_for Admission me peer number g h text =
    rises_if (begins_with text (codes "ROK")) _ _ _ _ refl
    (rises_if (begins_with text (codes "RBADSEQ")) _ _ _ _ refl (rises_if (begins_with text (codes "R")) _ _ _ _ refl refl))
rises_for Protocols me peer number g h text = rises_if (begins_with text (codes "P")) _ _ _ _ refl refl
rises_for Choice me peer number g h text =
    rises_if (bytes_eq text (codes "Ug")) _ _ _ _ refl (rises_if (begins_with text (codes "U")) _ _ _ _ refl refl)

rises_alike : (me peer : List ℕ) (number : Option ℕ) (g h : Greeting) (text : List ℕ) → g.awaited ≡ h.awaited
    → (text_came me peer number g text).rises ≡ (text_came me peer number h text).rises
rises_alike me peer number g h text same =
    rises_for g.awaited me peer number g h text ∙ ap (λ (a : AwaitedText). (came_for a me peer number h text).rises) same

-- ---- one more text

-- all of so many texts were used, and led to this, and to this number
record LeadsTo (run : GreetingRun) (greeted : Greeted) (number : Option ℕ) (texts : ℕ) : Type 0 where
  greeted_is : run.greeted ≡ greeted
  number_is : run.number ≡ number
  used_is : run.used ≡ texts

-- where the greeting stands so, a text leads there
abbrev LedBy : (me peer : List ℕ) → GreetingRun → Option ℕ → Greeting → (text : List ℕ) → (texts : ℕ) → Type 0
LedBy me peer run number h text texts =
    let came = text_came me peer number h text in LeadsTo run came.greeted (number_by came.rises number) texts

last_text : (me peer : List ℕ) (says : List (List ℕ)) (number : Option ℕ) (r : Greeted)
    → LeadsTo (step_behind (texts_came me peer [] (Rest [])) says number r) r number 1
last_text me peer says number (GoesOn g) = record { greeted_is = refl; number_is = refl; used_is = refl }
last_text me peer says number LinkBegins = record { greeted_is = refl; number_is = refl; used_is = refl }
last_text me peer says number (Ended how) = record { greeted_is = refl; number_is = refl; used_is = refl }

text_behind : (me peer : List ℕ) (texts : List (List ℕ)) (text : List ℕ) (n : Option ℕ) (h : Greeting)
    → ((m : Option ℕ) (k : Greeting) → (texts_came me peer texts (Rest []) m k).greeted ≡ GoesOn h
    → (texts_came me peer texts (Rest []) m k).number ≡ n
    → LedBy me peer (texts_came me peer (texts ++ text ∷ []) (Rest []) m k) n h text (length (texts ++ text ∷ [])))
    → (says : List (List ℕ)) (m : Option ℕ) (r : Greeted) → (step_behind (texts_came me peer texts (Rest [])) says m r).greeted ≡ GoesOn h
    → (step_behind (texts_came me peer texts (Rest [])) says m r).number ≡ n
    → LedBy me peer (step_behind (texts_came me peer (texts ++ text ∷ []) (Rest [])) says m r) n h text (suc (length (texts ++ text ∷ [])))
text_behind me peer texts text n h more says m (GoesOn k) goes keeps =
    let later = more m k goes keeps in
    record { greeted_is = later.greeted_is; number_is = later.number_is; used_is = omega (arith, later.used_is) }
text_behind me peer texts text n h more says m LinkBegins goes keeps = absurd cc
text_behind me peer texts text n h more says m (Ended how) goes keeps = absurd cc

one_more : (me peer : List ℕ) (texts : List (List ℕ)) (text : List ℕ) (n : Option ℕ) (h : Greeting) (m : Option ℕ) (g : Greeting)
    → (texts_came me peer texts (Rest []) m g).greeted ≡ GoesOn h → (texts_came me peer texts (Rest []) m g).number ≡ n
    → LedBy me peer (texts_came me peer (texts ++ text ∷ []) (Rest []) m g) n h text (length (texts ++ text ∷ []))
one_more me peer [] text n h m g goes keeps =
    let same : g ≡ h = cc in
    subst (λ (l : Option ℕ). LedBy me peer (texts_came me peer (text ∷ []) (Rest []) m g) l h text 1) keeps
    (subst (λ (k : Greeting). LedBy me peer (texts_came me peer (text ∷ []) (Rest []) m g) m k text 1) same
    (last_text me peer (text_came me peer m g text).says (number_by (text_came me peer m g text).rises m) (text_came me peer m g text).greeted))
one_more me peer (first ∷ texts) text n h m g goes keeps =
    let came = text_came me peer m g first in
    text_behind me peer texts text n h (one_more me peer texts text n h) came.says (number_by came.rises m) came.greeted goes keeps

-- ---- where a text leads an end

-- behind these texts an end stands so, and keeps this number or none
abbrev pub StandsBehind : Identity → (brought : Option ℕ) → (texts : List (List ℕ)) → Stage → (kept : Option ℕ) → Type 0
StandsBehind id brought texts (hailing g) kept = GreetsOn id brought texts g.awaited kept
StandsBehind id brought texts linked kept = LinkBeganWith id brought texts kept
StandsBehind id brought texts (ended how) kept = GreetingFailed id brought texts how kept

link_begun : {C : Type 0} (number : Option ℕ) (side : Side) (link : State) (c : C) (said : List Emitted)
    → linked ≡ (begins_link number side link c said).state.stage
link_begun number Caller link c said = refl
link_begun number Called link c said = refl

begun_number : {C : Type 0} (number : Option ℕ) (side : Side) (link : State) (c : C) (said : List Emitted)
    → (begins_link number side link c said).state.number ≡ number
begun_number number Caller link c said = refl
begun_number number Called link c said = refl

greeted_number : {C : Type 0} (number : Option ℕ) (id : Identity) (how : Greeted) (said : List Emitted) (link : State) (c : C)
    → (greeted_so number id how said link c).state.number ≡ number
greeted_number number id (GoesOn g) said link c = refl
greeted_number number id LinkBegins said link c = begun_number number id.side link c said
greeted_number number id (Ended how) said link c = refl

greeted_behind : {C : Type 0} (id : Identity) (brought kept : Option ℕ) (texts : List (List ℕ)) (used so : Greeted) (said : List Emitted) (link : State) (c : C)
    → LeadsTo (greeted_by id brought texts) used kept (length texts) → SameGreeted used so
    → StandsBehind id brought texts (greeted_so kept id so said link c).state.stage kept
greeted_behind id brought kept texts (GoesOn g) (GoesOn h) said link c leads same =
    record { greeting = g; goes_on = leads.greeted_is; awaits = same; keeps = leads.number_is }
greeted_behind id brought kept texts LinkBegins LinkBegins said link c leads same =
    subst (λ (s : Stage). StandsBehind id brought texts s kept) (link_begun kept id.side link c said)
    (record { begins = leads.greeted_is; used = leads.used_is; keeps = leads.number_is })
greeted_behind id brought kept texts (Ended how) (Ended other) said link c leads same =
    record { fails = leads.greeted_is ∙ ap (λ (e : End). Ended e) same; used = leads.used_is; keeps = leads.number_is }
greeted_behind id brought kept texts (GoesOn g) LinkBegins said link c leads same = absurd same
greeted_behind id brought kept texts (GoesOn g) (Ended how) said link c leads same = absurd same
greeted_behind id brought kept texts LinkBegins (GoesOn h) said link c leads same = absurd same
greeted_behind id brought kept texts LinkBegins (Ended how) said link c leads same = absurd same
greeted_behind id brought kept texts (Ended how) (GoesOn h) said link c leads same = absurd same
greeted_behind id brought kept texts (Ended how) LinkBegins said link c leads same = absurd same

pub text_leads : {C : Type 0} (k : Keeper C) (id : Identity) (brought : Option ℕ) (texts : List (List ℕ)) (text : List ℕ) (g : Greeting) (e : EndState C)
    → GreetsOn id brought texts g.awaited e.number
    → let after = (stage_step k id (hailing g) (text_found text) e).state in StandsBehind id brought (texts ++ text ∷ []) after.stage after.number
text_leads k id brought texts text g e on =
    let came = text_came id.me id.peer e.number g text in
    let kept = number_by came.rises e.number in
    let leads = one_more id.me id.peer texts text e.number on.greeting brought (greeting_at_first id.side) on.goes_on on.keeps in
    let rises : number_by (text_came id.me id.peer e.number on.greeting text).rises e.number ≡ kept =
    ap (λ (b : Bool). number_by b e.number) (rises_alike id.me id.peer e.number on.greeting g text on.awaits) in
    subst (λ (n : Option ℕ). StandsBehind id brought (texts ++ text ∷ []) (stage_step k id (hailing g) (text_found text) e).state.stage n)
    (sym (greeted_number kept id came.greeted (map says_text came.says) e.link e.keeper))
    (greeted_behind id brought kept (texts ++ text ∷ []) (text_came id.me id.peer e.number on.greeting text).greeted came.greeted (map says_text came.says) e.link e.keeper
    (record { greeted_is = leads.greeted_is; number_is = leads.number_is ∙ rises; used_is = leads.used_is })
    (same_text id.me id.peer e.number on.greeting g text on.awaits))
