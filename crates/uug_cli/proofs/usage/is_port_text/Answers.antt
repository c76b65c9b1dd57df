use Rattle.std.proofs.Common.{◌≡◌, ◌∙◌, ap, refl, Result, Ok, Err}
use Rattle.std.specs.Prelude.{is_ok, is_some}
use Rattle.std.specs.Result.{result_ok}
use Rattle.uug_transfer.proofs.LineNameLemmas.{port_is}
use Rattle.uug_cli.proofs.usage.is_port_text.Goals as goal

ok_is_some : {T E : Type 0} (r : Result T E) → is_ok r ≡ is_some (result_ok r)
ok_is_some (Ok x) = refl
ok_is_some (Err e) = refl

pub returns : goal.returns
returns c = c.is_ok.ensures.value ∙ ok_is_some c.parse.result ∙ ap is_some (port_is c.args.text.now c.parse.result c.parse.ensures.value.0)
