-- The greeting: the texts that two ends exchange before the link begins. Taylor UUCP manual, "UUCP Protocol"; that a text
-- which is not awaited is skipped, the count of timeouts, and when the number of an end's conversations rises, is this
-- project's profile.
use Rattle.std.specs.Prelude.{ℕ, ◌+◌, ◌%◌, Bool, true, false, ◌==◌, nat_eq, nat_lt, if◌then◌else◌, List, [], ◌∷◌, ◌++◌, take, drop, codes, Option, Some, None}
use Rattle.std.specs.List.{starts_with, list_any, position_or_len}
use Rattle.std.specs.Str.{bytes_eq}
use Rattle.uug_link.specs.declared.limits.TheConstants.{TIMEOUTS_MAX}
use Rattle.uug_talk.specs.Call.{call_text, number_in_call}
use Rattle.uug_talk.specs.Words.{is_space}
use Rattle.uug_session.specs.declared.end.End.{End}
use Rattle.uug_session.specs.declared.end.End.TheVariants as ends
use Rattle.uug_session.specs.declared.greeting.AwaitedText.{AwaitedText}
use Rattle.uug_session.specs.declared.greeting.AwaitedText.TheVariants.{CalledName, CallerName, Admission, Protocols, Choice}
use Rattle.uug_session.specs.declared.greeting.Greeted.{Greeted}
use Rattle.uug_session.specs.declared.greeting.Greeted.TheVariants.{GoesOn, LinkBegins, Ended}
use Rattle.uug_session.specs.declared.greeting.Greeting.{Greeting}
use Rattle.uug_conversation.specs.declared.side.Side.{Side}
use Rattle.uug_conversation.specs.declared.side.Side.TheVariants.{Caller, Called}

-- what an end says at once, what becomes of its greeting, and whether the number of its conversations rises
pub record GreetingStep : Type 0 where
  pub says : List (List ℕ)
  pub greeted : Greeted
  pub rises : Bool

-- an end that waits for a text, with no timeout yet
abbrev pub first_greeting : AwaitedText → Greeting
first_greeting awaited = record { awaited = awaited; timeouts = 0 }

-- the text is not the awaited one: nothing changes, the count of timeouts neither
abbrev pub passes_over : Greeting → GreetingStep
passes_over g = record { says = []; greeted = GoesOn g; rises = false }

abbrev pub goes_on : (says : List (List ℕ)) → AwaitedText → GreetingStep
goes_on says awaited = record { says = says; greeted = GoesOn (first_greeting awaited); rises = false }

-- the called end lets the caller in, or the caller hears so: the greeting goes on, and the number rises
abbrev pub lets_in : (says : List (List ℕ)) → AwaitedText → GreetingStep
lets_in says awaited = record { says = says; greeted = GoesOn (first_greeting awaited); rises = true }

abbrev pub begins : (says : List (List ℕ)) → GreetingStep
begins says = record { says = says; greeted = LinkBegins; rises = false }

abbrev pub fails : (says : List (List ℕ)) → End → GreetingStep
fails says how = record { says = says; greeted = Ended how; rises = false }

-- ---- the number of an end's conversations

-- behind the greatest one comes 0
abbrev pub next_number : ℕ → ℕ
next_number number = (number + 1) % 4294967296

-- where one is kept
abbrev pub risen : Option ℕ → Option ℕ
risen None = None
risen (Some number) = Some (next_number number)

-- by whether it rises
abbrev pub number_by : (rises : Bool) → Option ℕ → Option ℕ
number_by false number = number
number_by true number = risen number

-- A called end that keeps a number expects the same one of the caller; one that keeps none expects any, and none.
abbrev pub is_expected : (kept told : Option ℕ) → Bool
is_expected None told = true
is_expected (Some number) None = false
is_expected (Some number) (Some told) = told == number

-- ---- the texts

abbrev pub called_text : (name : List ℕ) → List ℕ
called_text name = codes "Shere=" ++ name

-- the text begins so
abbrev pub begins_with : List ℕ → List ℕ → Bool
begins_with text front = starts_with nat_eq text front

-- the name in a caller's text: up to the first space, what follows is read past
abbrev pub name_in_caller_text : List ℕ → List ℕ
name_in_caller_text text = let behind = drop 1 text in take (position_or_len is_space behind) behind

-- one of the protocols that are offered is g, the one that both ends know here
abbrev pub offers_g : List ℕ → Bool
offers_g text = list_any (λ letter. letter == 103) (drop 1 text)

-- ---- a session begins

-- each end waits for the other's name
abbrev pub greeting_at_first : Side → Greeting
greeting_at_first Caller = first_greeting CalledName
greeting_at_first Called = first_greeting CallerName

-- what an end says before anything is delivered to it: the called end says its name
abbrev pub first_texts : Side → (me : List ℕ) → List (List ℕ)
first_texts Caller me = []
first_texts Called me = called_text me ∷ []

-- ---- the table

-- The caller waits for the called end's name. It need not be told; where it is, it is the one that was called. The caller
-- says its own, with its number where it keeps one.
abbrev pub called_name_came : (me peer : List ℕ) → (number : Option ℕ) → Greeting → List ℕ → GreetingStep
called_name_came me peer number g text =
    if bytes_eq text (codes "Shere") then goes_on (call_text me number ∷ []) Admission else
    (if begins_with text (codes "Shere=")
    then (if bytes_eq (drop 6 text) peer then goes_on (call_text me number ∷ []) Admission else fails [] ends.WrongName)
    else passes_over g)

-- by whether the caller tells the number that is expected
abbrev pub number_came : (is_expected : Bool) → GreetingStep
number_came false = fails (codes "RBADSEQ" ∷ []) ends.BadSequence
number_came true = lets_in (codes "ROK" ∷ codes "Pg" ∷ []) Choice

-- The called end waits for the caller's name, and lets in the caller that it expects, with the number that it expects. The
-- name is looked at first.
abbrev pub caller_name_came : (peer : List ℕ) → (number : Option ℕ) → Greeting → List ℕ → GreetingStep
caller_name_came peer number g text =
    if begins_with text (codes "S")
    then (if bytes_eq (name_in_caller_text text) peer
    then number_came (is_expected number (number_in_call text))
    else fails (codes "RYou are unknown to me" ∷ []) ends.Refused)
    else passes_over g

-- The caller waits to be let in.
abbrev pub admission_came : Greeting → List ℕ → GreetingStep
admission_came g text =
    if begins_with text (codes "ROK") then lets_in [] Protocols else
    (if begins_with text (codes "RBADSEQ") then fails [] ends.BadSequence else
    (if begins_with text (codes "R") then fails [] ends.Refused else passes_over g))

-- The caller waits for the protocols that the called end offers, and chooses g.
abbrev pub protocols_came : Greeting → List ℕ → GreetingStep
protocols_came g text =
    if begins_with text (codes "P")
    then (if offers_g text then begins (codes "Ug" ∷ []) else fails (codes "UN" ∷ []) ends.NoProtocol)
    else passes_over g

-- The called end waits for the caller's choice, which is g or none.
abbrev pub choice_came : Greeting → List ℕ → GreetingStep
choice_came g text =
    if bytes_eq text (codes "Ug") then begins [] else
    (if begins_with text (codes "U") then fails [] ends.NoProtocol else passes_over g)

abbrev pub came_for : AwaitedText → (me peer : List ℕ) → (number : Option ℕ) → Greeting → List ℕ → GreetingStep
came_for CalledName me peer number g text = called_name_came me peer number g text
came_for CallerName me peer number g text = caller_name_came peer number g text
came_for Admission me peer number g text = admission_came g text
came_for Protocols me peer number g text = protocols_came g text
came_for Choice me peer number g text = choice_came g text

-- a text came, to the end that is called me, speaks to peer, and keeps this number or none
abbrev pub text_came : (me peer : List ℕ) → (number : Option ℕ) → Greeting → List ℕ → GreetingStep
text_came me peer number g text = came_for g.awaited me peer number g text

-- a text came that was too long
abbrev pub long_text_came : GreetingStep
long_text_came = fails [] ends.BadTalk

-- nothing came for some time
abbrev pub timed_out : Greeting → GreetingStep
timed_out g =
    if nat_lt (g.timeouts + 1) TIMEOUTS_MAX
    then record { says = []; greeted = GoesOn (record { awaited = g.awaited; timeouts = g.timeouts + 1 }); rises = false }
    else fails [] ends.GaveUp
