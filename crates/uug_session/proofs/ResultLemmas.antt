-- A call that is left by an error says nothing of what it would have answered.
use Rattle.std.proofs.Common.{Result, Ok, Err, IfOk}
use Rattle.std.proofs.lemmas.Bool.{false≢true}
use Rattle.std.specs.Result.{IsErr}

pub err_says_nothing : {T E : Type 0} (Q : T → Type 0) (r : Result T E) → IsErr r → IfOk r Q
err_says_nothing Q (Ok x) e = absurd (false≢true e)
err_says_nothing Q (Err x) e = tt
