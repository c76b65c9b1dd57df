-- How a node greets through whatever is called, step by step: what it hears, or a timeout, what
-- it says to that, and how far it is then (this project's profile).
use Rattle.std.specs.Prelude.{◌≡◌, ℕ, List, [], ◌∷◌, ◌++◌, map, Option, Some, None, ⊤}
use Rattle.uug_link.specs.Entries.{EntryValue}
use Rattle.uug_talk.specs.StreamTexts.{StandBefore, TooLong, texts_of}
use Rattle.uug_session.specs.declared.greeting.Greeted.{Greeted}
use Rattle.uug_session.specs.declared.greeting.Greeted.TheVariants.{GoesOn, LinkBegins, Ended}
use Rattle.uug_session.specs.declared.greeting.Greeting.{Greeting}
use Rattle.uug_session.specs.EndStep.{EndEffect, Identity, behind_greeting, hailing}
use Rattle.uug_session.specs.Engine.{entry_of}
use Rattle.uug_session.specs.Greeting.{GreetingStep, long_text_came, passes_over, text_came, timed_out}
use Rattle.uug_conversation.specs.Holdings.{Holdings}
use Rattle.uug_session.specs.Node.{NodeState}
use Rattle.uug_session.specs.NodeCalls.{Beside, Make, NodeCall, looks, takes, times_out, taken_in}
use Rattle.uug_session.specs.TextsFound.{Taken}

-- what an end hears: a text, one that is too long, or nothing for some time
pub data Hearing : Type 0 where
  hears_text : (text : List ℕ) → Hearing
  hears_long_text : Hearing
  hears_nothing : Hearing

-- what it does then, by the table, where it keeps this number or none; where a call brings nothing to be heard, all stays
abbrev pub greets_to : (me peer : List ℕ) → (number : Option ℕ) → Option Hearing → Greeting → GreetingStep
greets_to me peer number (Some (hears_text text)) g = text_came me peer number g text
greets_to me peer number (Some hears_long_text) g = long_text_came
greets_to me peer number (Some hears_nothing) g = timed_out g
greets_to me peer number None g = passes_over g

-- the texts among it
abbrev pub text_in : Option Hearing → List (List ℕ)
text_in (Some (hears_text text)) = text ∷ []
text_in _ = []

-- What a call brings to be heard. A text is heard where it is taken up, one that is too long where it is found behind all
-- that were taken of the bytes that came.
abbrev pub BringsText : Option Hearing → Type 0
BringsText (Some (hears_text text)) = ⊤
BringsText _ = ⊥

abbrev pub BringsLongText : (texts : List (List ℕ)) → (came : List ℕ) → Option Hearing → Type 0
BringsLongText texts came (Some hears_long_text) = texts_of came ≡ record { texts = texts; end = TooLong }
BringsLongText texts came None = ⊤
BringsLongText texts came _ = ⊥

abbrev pub Brings : NodeCall → (texts : List (List ℕ)) → (came : List ℕ) → Option Hearing → Type 0
Brings looks texts came x = BringsLongText texts came x
Brings (takes took) texts came x = BringsText x
Brings times_out texts came x = x ≡ Some hears_nothing
Brings _ texts came x = x ≡ None

-- The node is at this stage of its greeting. It has taken these texts, the first of the bytes that came, and holds what is
-- left of them, but for what was skipped.
pub record GreetsAt (id : Identity) (g : Greeting) (texts : List (List ℕ)) (came : List ℕ) (n : NodeState) : Type 0 where
  pub identity : n.engine.identity ≡ id
  pub stage : n.engine.stage ≡ hailing g
  pub taken : Taken texts came n.texts.bytes

-- what a step of the greeting emits, and to what it leads, whatever the end keeps of its conversation
abbrev pub told_of : Identity → GreetingStep → NodeState → EndEffect (Unit {0})
told_of id step n = behind_greeting n.engine.number id step n.engine.link tt

-- the step was done: just what it says was added to the outbox, and the end is as it says
pub record DoesStep (id : Identity) (step : GreetingStep) (added : List EntryValue) (old new : NodeState) : Type 0 where
  pub stage : new.engine.stage ≡ (told_of id step old).state.stage
  pub link : new.engine.link ≡ (told_of id step old).state.link
  pub number : new.engine.number ≡ (told_of id step old).state.number
  pub says : added ≡ map entry_of (told_of id step old).emitted

-- How it goes on: the greeting does, or with exactly the bytes behind the last text the link begins, or the session is
-- over. What is called then is no part of the greeting.
abbrev pub GreetsOn : (more : Greeting → Type 0) → (over : Type 0) → (texts : List (List ℕ)) → (came : List ℕ) → Greeted → NodeState → Type 0
GreetsOn more over texts came (GoesOn g) n = more g
GreetsOn more over texts came LinkBegins n = StandBefore texts n.packets.bytes came × over
GreetsOn more over texts came (Ended how) n = over

-- one call after the other
abbrev pub GreetsThrough : (h : Holdings) → (most : ℕ) → Identity → List NodeCall → (texts : List (List ℕ)) → (came : List ℕ) → (added : List EntryValue) → (old new : Beside) → Greeting → Type 0
GreetsThrough h most id [] texts came added old new g =
    GreetsAt id g texts came old.node × (old ≡ new) × (added ≡ [])
GreetsThrough h most id (call ∷ calls) texts came added old new g =
    GreetsAt id g texts came old.node
    × (middle : Beside) × (first more : List EntryValue) × (added ≡ first ++ more)
    × (x : Option Hearing) × Brings call texts came x
    × DoesStep id (greets_to id.me id.peer old.node.engine.number x g) first old.node middle.node
    × GreetsOn (GreetsThrough h most id calls (texts ++ text_in x) (came ++ taken_in call) more middle new)
    (Make h most calls more middle new) (texts ++ text_in x) (came ++ taken_in call)
    (greets_to id.me id.peer old.node.engine.number x g).greeted middle.node
