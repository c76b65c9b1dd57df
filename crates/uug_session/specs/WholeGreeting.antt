-- The whole greeting of an end: what it says first, and then one step for each text of the bytes that are delivered to
-- it. Taylor UUCP manual, "UUCP Protocol".
use Rattle.std.specs.Prelude.{◌≡◌, ℕ, ◌+◌, ◌≤◌, Bool, List, [], ◌∷◌, ◌++◌, take, codes, Option, IfSome}
use Rattle.std.specs.List.{list_any}
use Rattle.std.specs.Str.{bytes_eq}
use Rattle.uug_talk.specs.declared.call.TheConstants.{NUMBER_MAX}
use Rattle.uug_talk.specs.StreamTexts.{StreamTexts, TextsEnd, Rest, TooLong, HasTexts, StandBefore, texts_of}
use Rattle.uug_session.specs.declared.end.End.{End}
use Rattle.uug_session.specs.declared.end.End.TheVariants as ends
use Rattle.uug_session.specs.declared.greeting.Greeted.{Greeted}
use Rattle.uug_session.specs.declared.greeting.Greeted.TheVariants.{GoesOn, LinkBegins, Ended}
use Rattle.uug_session.specs.declared.greeting.Greeting.{Greeting}
use Rattle.uug_session.specs.Greeting.{greeting_at_first, first_texts, long_text_came, number_by, text_came}
use Rattle.uug_talk.specs.Texts.{written_text}
use Rattle.uug_conversation.specs.declared.side.Side.{Side}
use Rattle.uug_conversation.specs.declared.side.Side.TheVariants.{Caller, Called}

-- what an end says, one text after another, what becomes of its greeting, how many texts it used for that, and the number
-- of its conversations that it then keeps
pub record GreetingRun : Type 0 where
  pub says : List (List ℕ)
  pub greeted : Greeted
  pub used : ℕ
  pub number : Option ℕ

-- a text was used first, at which the end said this
abbrev pub behind_text : (says : List (List ℕ)) → GreetingRun → GreetingRun
behind_text says run = record { says = says ++ run.says; greeted = run.greeted; used = run.used + 1; number = run.number }

-- with no text left: the end waits, or has ended at one that is too long
abbrev pub with_no_text : TextsEnd → (number : Option ℕ) → Greeting → GreetingRun
with_no_text (Rest bytes) number g = record { says = []; greeted = GoesOn g; used = 0; number = number }
with_no_text TooLong number g =
    record { says = long_text_came.says; greeted = long_text_came.greeted; used = 0; number = number }

-- a text led to this; the texts behind it count only if the greeting goes on
abbrev pub step_behind : (more : (number : Option ℕ) → Greeting → GreetingRun) → (says : List (List ℕ)) → (number : Option ℕ) → Greeted → GreetingRun
step_behind more says number (GoesOn g) = behind_text says (more number g)
step_behind more says number LinkBegins = record { says = says; greeted = LinkBegins; used = 1; number = number }
step_behind more says number (Ended how) = record { says = says; greeted = Ended how; used = 1; number = number }

abbrev pub texts_came : (me peer : List ℕ) → List (List ℕ) → TextsEnd → (number : Option ℕ) → Greeting → GreetingRun
texts_came me peer [] end number g = with_no_text end number g
texts_came me peer (text ∷ texts) end number g =
    step_behind (texts_came me peer texts end) (text_came me peer number g text).says
    (number_by (text_came me peer number g text).rises number) (text_came me peer number g text).greeted

-- What the bytes that are delivered from a stage of the greeting on make of it, where the end keeps this number or none, and
-- the bytes behind the last text that was used.
pub record GreetsBy (me peer : List ℕ) (number : Option ℕ) (g : Greeting) (delivered : List ℕ) (run : GreetingRun) (behind : List ℕ) : Type 0 where
  pub found : StreamTexts
  pub texts : HasTexts delivered found
  pub came : run ≡ texts_came me peer found.texts found.end number g
  pub left : StandBefore (take run.used found.texts) behind delivered

-- the same as a function
abbrev pub greeting_run : (me peer : List ℕ) → (number : Option ℕ) → Greeting → (delivered : List ℕ) → GreetingRun
greeting_run me peer number g delivered = texts_came me peer (texts_of delivered).texts (texts_of delivered).end number g

-- ---- from the start

-- an end said this before anything was delivered
abbrev pub saying_first : (says : List (List ℕ)) → GreetingRun → GreetingRun
saying_first says run = record { says = says ++ run.says; greeted = run.greeted; used = run.used; number = run.number }

-- The whole greeting of an end, by its side, its name, the other's, the number that it keeps, and all bytes delivered:
-- everything that it says, what it says first in front; what becomes of the greeting, and of the number; and the bytes behind
-- the last text that was used.
pub record Greets (side : Side) (me peer : List ℕ) (number : Option ℕ) (delivered : List ℕ) (run : GreetingRun) (behind : List ℕ) : Type 0 where
  pub heard : GreetingRun
  pub greets : GreetsBy me peer number (greeting_at_first side) delivered heard behind
  pub whole : run ≡ saying_first (first_texts side me) heard

-- the same as a function
abbrev pub whole_greeting : Side → (me peer : List ℕ) → (number : Option ℕ) → (delivered : List ℕ) → GreetingRun
whole_greeting side me peer number delivered =
    saying_first (first_texts side me) (greeting_run me peer number (greeting_at_first side) delivered)

-- ---- in pieces

-- a run, and one behind it
abbrev pub run_behind : GreetingRun → GreetingRun → GreetingRun
run_behind first later =
    record { says = first.says ++ later.says; greeted = later.greeted; used = first.used + later.used; number = later.number }

-- the link has begun, or the session has ended
abbrev pub IsOver : Greeted → Type 0
IsOver (GoesOn g) = ⊥
IsOver LinkBegins = Unit {0}
IsOver (Ended how) = Unit {0}

-- ---- two ends

-- the bytes of several texts
abbrev pub written_texts : List (List ℕ) → List ℕ
written_texts [] = []
written_texts (text ∷ texts) = written_text text ++ written_texts texts

-- A caller that means one end, and a called end that expects one, each with a number or none, greet each other over a clean
-- line: to each is delivered what the other says, all of it and nothing else.
pub record GreetEachOther (caller_name meant called_name expected : List ℕ) (caller_number called_number : Option ℕ) (at_caller at_called : GreetingRun) : Type 0 where
  pub caller_left : List ℕ
  pub called_left : List ℕ
  pub caller_hears : Greets Caller caller_name meant caller_number (written_texts at_called.says) at_caller caller_left
  pub called_hears : Greets Called called_name expected called_number (written_texts at_caller.says) at_called called_left

-- how two greetings ended, and the numbers that the ends then keep
pub record BecomeOf (at_caller at_called : GreetingRun) (caller_greeted called_greeted : Greeted) (caller_number called_number : Option ℕ) : Type 0 where
  pub caller_is : at_caller.greeted ≡ caller_greeted
  pub called_is : at_called.greeted ≡ called_greeted
  pub caller_keeps : at_caller.number ≡ caller_number
  pub called_keeps : at_called.number ≡ called_number

-- a number of a conversation, or none
abbrev pub IsNumber : Option ℕ → Type 0
IsNumber number = IfSome number (λ n. n ≤ NUMBER_MAX)

-- ---- numbers

-- a called end that says this has let the caller in
abbrev pub has_let_in : (says : List (List ℕ)) → Bool
has_let_in says = list_any (λ text. bytes_eq text (codes "ROK")) says

-- the call was refused: the caller reached another end than it meant, or was not let in
abbrev pub IsRefusal : End → Type 0
IsRefusal ends.Refused = Unit {0}
IsRefusal ends.WrongName = Unit {0}
IsRefusal ends.BadSequence = Unit {0}
IsRefusal _ = ⊥
