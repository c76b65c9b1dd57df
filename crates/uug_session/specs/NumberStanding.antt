-- Where the number of an end's conversations stands, from the start of a session to its end (this project's profile).
use Rattle.std.specs.Prelude.{◌≡◌, ◌⊎◌, ℕ, Option}
use Rattle.uug_session.specs.declared.end.End.{End}
use Rattle.uug_session.specs.declared.greeting.AwaitedText.{AwaitedText}
use Rattle.uug_session.specs.declared.greeting.AwaitedText.TheVariants.{CalledName, CallerName, Admission, Protocols, Choice}
use Rattle.uug_session.specs.Engine.{EngineState}
use Rattle.uug_session.specs.EndStep.{Stage, hailing, linked, ended}
use Rattle.uug_session.specs.Greeting.{risen}
use Rattle.uug_session.specs.WholeGreeting.{IsRefusal}

-- as it was until the caller is let in, or hears that it is, and the next one behind that
abbrev pub number_while : AwaitedText → Option ℕ → Option ℕ
number_while CalledName number = number
number_while CallerName number = number
number_while Admission number = number
number_while Protocols number = risen number
number_while Choice number = risen number

-- when the session is over: it has risen once at most, and where the call was refused it has not
pub record EndsWithNumber (number : Option ℕ) (how : End) (now : Option ℕ) : Type 0 where
  pub once : (now ≡ number) ⊎ (now ≡ risen number)
  pub refused : IsRefusal how → now ≡ number

-- of an end that kept this number, or none, when its session began
abbrev pub NumberStands : (number : Option ℕ) → Stage → (now : Option ℕ) → Type 0
NumberStands number (hailing greeting) now = now ≡ number_while greeting.awaited number
NumberStands number linked now = now ≡ risen number
NumberStands number (ended how) now = EndsWithNumber number how now

-- Whatever happened to the end between: it stands as the session does, where it stood so before.
pub record KeepsNumber (before after : EngineState) : Type 0 where
  pub stands : (number : Option ℕ) → NumberStands number before.stage before.number
      → NumberStands number after.stage after.number
