-- Steps that may be refused, one after another: the first refusal is the answer.
use Rattle.std.specs.Prelude.{Result, Ok, Err}
use Rattle.uug_talk.specs.declared.error.BadText.{BadText}

infixl 10 ◌>>=◌
abbrev pub ◌>>=◌ : {A B : Type 0} → Result A BadText → (A → Result B BadText) → Result B BadText
(Ok x) >>= f = f x
(Err e) >>= f = Err e
