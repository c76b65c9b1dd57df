use Rattle.std.proofs.Common.{◌≡◌, ◌<◌, ◌++◌, ℕ, List, length, codes, Result, Ok, Err, None, refl, sym, arith}
use Rattle.std.specs.Result.{result_ok}
use Rattle.uug_talk.proofs.NameLemmas.{IsName-read}
use Rattle.uug_talk.specs.Name.{name_of, name_read}
use Rattle.uug_talk.specs.declared.error.BadText.{BadText}
use Rattle.uug_talk.specs.declared.name.TheConstants.{NAME_MAX}
use Rattle.uug_taylor_run.proofs.work.home_name.Goals as goal

too_long : (bytes : List ℕ) → NAME_MAX < length bytes → name_of bytes ≡ None
too_long bytes long = by (name_read bytes) refl where
  by : (r : Result (List ℕ) BadText) → name_read bytes ≡ r → result_ok r ≡ None
  by (Ok name) e = absurd (omega (arith, long, (IsName-read bytes name e).short))
  by (Err fault) e = refl

pub returns-then-rest-ge-NAME_MAX : goal.returns-then-rest-ge-NAME_MAX
returns-then-rest-ge-NAME_MAX c = sym (too_long (codes "~" ++ c.args.rest.now) (omega (arith, c.if-rest-ge-NAME_MAX.true)))
