-- Greetings whose course is known, so that a wrong definition does not check: a is the caller, b the end that is called.
use Rattle.std.proofs.Common.{◌≡◌, ℕ, ◌+◌, false, List, [], ◌∷◌, ◌++◌, map, replicate, codes, Option, None, Some, refl}
use Rattle.std.specs.Fmt.{digits}
use Rattle.uug_link.specs.Announced.{Announced}
use Rattle.uug_talk.specs.Call.{first_told}
use Rattle.uug_talk.specs.declared.hail.TheConstants.{HAIL_MAX}
use Rattle.uug_session.specs.declared.end.End.TheVariants.{Refused, WrongName, NoProtocol, GaveUp, BadTalk, BadSequence}
use Rattle.uug_session.specs.declared.greeting.AwaitedText.{AwaitedText}
use Rattle.uug_session.specs.declared.greeting.AwaitedText.TheVariants.{CalledName, CallerName, Admission, Protocols, Choice}
use Rattle.uug_session.specs.declared.greeting.Greeted.{Greeted}
use Rattle.uug_session.specs.declared.greeting.Greeted.TheVariants.{GoesOn, LinkBegins, Ended}
use Rattle.uug_session.specs.declared.greeting.Greeting.{Greeting}
use Rattle.uug_session.specs.EndStep.{hailing, says_text, EndEffect, Identity, begins_session}
use Rattle.uug_session.specs.Greeting.{GreetingStep, first_greeting, lets_in, text_came, timed_out}
use Rattle.uug_talk.specs.Texts.{written_text}
use Rattle.uug_conversation.specs.declared.side.Side.{Side}
use Rattle.uug_conversation.specs.declared.side.Side.TheVariants.{Caller, Called}
use Rattle.uug_session.specs.WholeGreeting.{GreetingRun, whole_greeting}

abbrev at_caller : List ℕ → GreetingRun
at_caller delivered = whole_greeting Caller (codes "a") (codes "b") None delivered

abbrev at_called : List ℕ → GreetingRun
at_called delivered = whole_greeting Called (codes "b") (codes "a") None delivered

abbrev run : List (List ℕ) → Greeted → ℕ → GreetingRun
run says greeted used = record { says = says; greeted = greeted; used = used; number = None }

-- behind chatter, a text that ends with a line feed
abbrev called_name : List ℕ
called_name = codes "login:" ++ 16 ∷ codes "Shere=b" ++ 10 ∷ []

-- what the caller has heard when it has chosen, but for the protocols
abbrev let_in : List ℕ
let_in = called_name ++ written_text (codes "ROKN07")

pub record AreCallerRuns : Type 0 where
  pub nothing_came : at_caller [] ≡ run [] (GoesOn (first_greeting CalledName)) 0
  pub told : at_caller called_name ≡ run (codes "Sa" ∷ []) (GoesOn (first_greeting Admission)) 1
  pub untold : at_caller (written_text (codes "Shere")) ≡ run (codes "Sa" ∷ []) (GoesOn (first_greeting Admission)) 1
  pub other_name : at_caller (written_text (codes "Shere=c")) ≡ run [] (Ended WrongName) 1
  pub longer_name : at_caller (written_text (codes "Shere=bb")) ≡ run [] (Ended WrongName) 1
  pub other_text : at_caller (written_text (codes "Sherex")) ≡ run [] (GoesOn (first_greeting CalledName)) 1
  pub admitted : at_caller let_in ≡ run (codes "Sa" ∷ []) (GoesOn (first_greeting Protocols)) 2
  pub locked_out : at_caller (called_name ++ written_text (codes "RLCK")) ≡ run (codes "Sa" ∷ []) (Ended Refused) 2
  pub passed_over : at_caller (called_name ++ written_text (codes "Pg") ++ written_text (codes "ROK")) ≡ run (codes "Sa" ∷ []) (GoesOn (first_greeting Protocols)) 3
  pub chosen : at_caller (let_in ++ written_text (codes "Pitg")) ≡ run (codes "Sa" ∷ codes "Ug" ∷ []) LinkBegins 3
  pub none_to_choose : at_caller (let_in ++ written_text (codes "Pit")) ≡ run (codes "Sa" ∷ codes "UN" ∷ []) (Ended NoProtocol) 3
  -- what comes behind is the link's
  pub link_behind : at_caller (let_in ++ written_text (codes "Pg") ++ written_text (codes "RLCK")) ≡ run (codes "Sa" ∷ codes "Ug" ∷ []) LinkBegins 3
  pub too_long : at_caller (called_name ++ 16 ∷ replicate (HAIL_MAX + 1) 120) ≡ run (codes "Sa" ∷ []) (Ended BadTalk) 1

pub caller_runs : AreCallerRuns
caller_runs = record {
  nothing_came = refl;
  told = refl;
  untold = refl;
  other_name = refl;
  longer_name = refl;
  other_text = refl;
  admitted = refl;
  locked_out = refl;
  passed_over = refl;
  chosen = refl;
  none_to_choose = refl;
  link_behind = refl;
  too_long = refl;
}

-- in front of all else that the called end says
abbrev says_its_name : List ℕ
says_its_name = codes "Shere=b"

pub record AreCalledRuns : Type 0 where
  pub nothing_came : at_called [] ≡ run (says_its_name ∷ []) (GoesOn (first_greeting CallerName)) 0
  pub known : at_called (written_text (codes "Sa")) ≡ run (says_its_name ∷ codes "ROK" ∷ codes "Pg" ∷ []) (GoesOn (first_greeting Choice)) 1
  pub with_options : at_called (written_text (codes "Sa -Q0 -N07")) ≡ run (says_its_name ∷ codes "ROK" ∷ codes "Pg" ∷ []) (GoesOn (first_greeting Choice)) 1
  pub unknown : at_called (written_text (codes "Sz")) ≡ run (says_its_name ∷ codes "RYou are unknown to me" ∷ []) (Ended Refused) 1
  pub longer_name : at_called (written_text (codes "Saa")) ≡ run (says_its_name ∷ codes "RYou are unknown to me" ∷ []) (Ended Refused) 1
  pub passed_over : at_called (written_text (codes "Ug")) ≡ run (says_its_name ∷ []) (GoesOn (first_greeting CallerName)) 1
  pub begins : at_called (written_text (codes "Sa") ++ written_text (codes "Ug")) ≡ run (says_its_name ∷ codes "ROK" ∷ codes "Pg" ∷ []) LinkBegins 2
  pub longer_choice : at_called (written_text (codes "Sa") ++ written_text (codes "Ugx")) ≡ run (says_its_name ∷ codes "ROK" ∷ codes "Pg" ∷ []) (Ended NoProtocol) 2
  pub no_protocol : at_called (written_text (codes "Sa") ++ written_text (codes "UN")) ≡ run (says_its_name ∷ codes "ROK" ∷ codes "Pg" ∷ []) (Ended NoProtocol) 2

pub called_runs : AreCalledRuns
called_runs = record {
  nothing_came = refl;
  known = refl;
  with_options = refl;
  unknown = refl;
  longer_name = refl;
  passed_over = refl;
  begins = refl;
  longer_choice = refl;
  no_protocol = refl;
}

-- ---- ends that keep a number

abbrev caller_with : Option ℕ → List ℕ → GreetingRun
caller_with number delivered = whole_greeting Caller (codes "a") (codes "b") number delivered

abbrev called_with : Option ℕ → List ℕ → GreetingRun
called_with number delivered = whole_greeting Called (codes "b") (codes "a") number delivered

abbrev numbered_run : Option ℕ → List (List ℕ) → Greeted → ℕ → GreetingRun
numbered_run number says greeted used = record { says = says; greeted = greeted; used = used; number = number }

-- it has said its name and its number, and keeps this one
pub record AreNumberedCallerRuns : Type 0 where
  pub told : caller_with (Some 7) called_name ≡ numbered_run (Some 7) (codes "Sa -Q7" ∷ []) (GoesOn (first_greeting Admission)) 1
  pub admitted : caller_with (Some 7) let_in ≡ numbered_run (Some 8) (codes "Sa -Q7" ∷ []) (GoesOn (first_greeting Protocols)) 2
  pub greatest : caller_with (Some 4294967295) let_in ≡ numbered_run (Some 0) (codes "Sa -Q4294967295" ∷ []) (GoesOn (first_greeting Protocols)) 2
  pub chosen : caller_with (Some 7) (let_in ++ written_text (codes "Pg")) ≡ numbered_run (Some 8) (codes "Sa -Q7" ∷ codes "Ug" ∷ []) LinkBegins 3
  pub other_number : caller_with (Some 7) (called_name ++ written_text (codes "RBADSEQ")) ≡ numbered_run (Some 7) (codes "Sa -Q7" ∷ []) (Ended BadSequence) 2
  pub more_behind : caller_with (Some 7) (called_name ++ written_text (codes "RBADSEQx")) ≡ numbered_run (Some 7) (codes "Sa -Q7" ∷ []) (Ended BadSequence) 2
  pub none_told : caller_with None (called_name ++ written_text (codes "RBADSEQ")) ≡ numbered_run None (codes "Sa" ∷ []) (Ended BadSequence) 2
  pub locked_out : caller_with (Some 7) (called_name ++ written_text (codes "RLCK")) ≡ numbered_run (Some 7) (codes "Sa -Q7" ∷ []) (Ended Refused) 2

pub numbered_caller_runs : AreNumberedCallerRuns
unfolding digits
numbered_caller_runs = record {
  told = refl;
  admitted = refl;
  greatest = refl;
  chosen = refl;
  other_number = refl;
  more_behind = refl;
  none_told = refl;
  locked_out = refl;
}

abbrev lets_it_in : List (List ℕ)
lets_it_in = says_its_name ∷ codes "ROK" ∷ codes "Pg" ∷ []

abbrev bad_number : List (List ℕ)
bad_number = says_its_name ∷ codes "RBADSEQ" ∷ []

pub record AreNumberedCalledRuns : Type 0 where
  pub same : called_with (Some 7) (written_text (codes "Sa -Q7")) ≡ numbered_run (Some 8) lets_it_in (GoesOn (first_greeting Choice)) 1
  pub begins : called_with (Some 7) (written_text (codes "Sa -Q7") ++ written_text (codes "Ug")) ≡ numbered_run (Some 8) lets_it_in LinkBegins 2
  pub greatest : called_with (Some 4294967295) (written_text (codes "Sa -Q4294967295")) ≡ numbered_run (Some 0) lets_it_in (GoesOn (first_greeting Choice)) 1
  pub other : called_with (Some 9) (written_text (codes "Sa -Q7")) ≡ numbered_run (Some 9) bad_number (Ended BadSequence) 1
  pub none : called_with (Some 7) (written_text (codes "Sa")) ≡ numbered_run (Some 7) bad_number (Ended BadSequence) 1
  -- the name is looked at first
  pub unknown : called_with (Some 7) (written_text (codes "Sz -Q7")) ≡ numbered_run (Some 7) (says_its_name ∷ codes "RYou are unknown to me" ∷ []) (Ended Refused) 1
  pub behind_others : called_with (Some 7) (written_text (codes "Sa -N07 -Qx -Q7")) ≡ numbered_run (Some 8) lets_it_in (GoesOn (first_greeting Choice)) 1
  -- the first counts
  pub second : called_with (Some 7) (written_text (codes "Sa -Q8 -Q7")) ≡ numbered_run (Some 7) bad_number (Ended BadSequence) 1
  pub too_great : called_with (Some 0) (written_text (codes "Sa -Q4294967296")) ≡ numbered_run (Some 0) bad_number (Ended BadSequence) 1
  pub too_long : called_with (Some 7) (written_text (codes "Sa -Q00000000007")) ≡ numbered_run (Some 7) bad_number (Ended BadSequence) 1
  -- one that keeps none reads it past
  pub read_past : called_with None (written_text (codes "Sa -Q7")) ≡ numbered_run None lets_it_in (GoesOn (first_greeting Choice)) 1

pub numbered_called_runs : AreNumberedCalledRuns
unfolding first_told
numbered_called_runs = record {
  same = refl;
  begins = refl;
  greatest = refl;
  other = refl;
  none = refl;
  unknown = refl;
  behind_others = refl;
  second = refl;
  too_great = refl;
  too_long = refl;
  read_past = refl;
}

-- ---- a session begins with the greeting of an end to which nothing was delivered

pub record BeginsGreeting {C : Type 0} (id : Identity) (number : Option ℕ) (e : EndEffect C) : Type 0 where
  pub says : e.emitted ≡ map says_text (whole_greeting id.side id.me id.peer number []).says
  pub awaited : Greeting
  pub stands : e.state.stage ≡ hailing awaited
  pub goes_on : (whole_greeting id.side id.me id.peer number []).greeted ≡ GoesOn awaited
  pub keeps : e.state.number ≡ (whole_greeting id.side id.me id.peer number []).number

pub begins_greeting : {C : Type 0} (side : Side) (me peer : List ℕ) (own : Announced) (number : Option ℕ) (c : C)
    → let id : Identity = record { side = side; me = me; peer = peer } in BeginsGreeting id number (begins_session id own number c)
begins_greeting Caller me peer own number c = record { says = refl; awaited = first_greeting CalledName; stands = refl; goes_on = refl; keeps = refl }
begins_greeting Called me peer own number c = record { says = refl; awaited = first_greeting CallerName; stands = refl; goes_on = refl; keeps = refl }

-- ---- timeouts

abbrev waiting_for : AwaitedText → ℕ → Greeting
waiting_for awaited timeouts = record { awaited = awaited; timeouts = timeouts }

abbrev step : List (List ℕ) → Greeted → GreetingStep
step says greeted = record { says = says; greeted = greeted; rises = false }

pub record AreTimeouts : Type 0 where
  pub first : timed_out (waiting_for CalledName 0) ≡ step [] (GoesOn (waiting_for CalledName 1))
  pub seventh : timed_out (waiting_for CalledName 6) ≡ step [] (GoesOn (waiting_for CalledName 7))
  pub eighth : timed_out (waiting_for CalledName 7) ≡ step [] (Ended GaveUp)
  pub awaited : text_came (codes "b") (codes "a") None (waiting_for CallerName 5) (codes "Sa") ≡ lets_in (codes "ROK" ∷ codes "Pg" ∷ []) Choice
  pub passed_over : text_came (codes "b") (codes "a") None (waiting_for CallerName 5) (codes "Ug") ≡ step [] (GoesOn (waiting_for CallerName 5))

pub timeouts : AreTimeouts
timeouts = record { first = refl; seventh = refl; eighth = refl; awaited = refl; passed_over = refl }
