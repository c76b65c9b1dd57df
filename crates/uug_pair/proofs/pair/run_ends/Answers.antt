use Rattle.std.proofs.Common.{refl}
use Rattle.uug_transfer.proofs.LedLemmas.{led_same}
use Rattle.uug_pair.proofs.pair.run_ends.Goals as goal

pub returns-in_err-line-clause-caller_led : goal.returns-in_err-line-clause-caller_led
returns-in_err-line-clause-caller_led g c = led_same _ _ refl refl refl

pub returns-in_err-line-clause-called_led : goal.returns-in_err-line-clause-called_led
returns-in_err-line-clause-called_led g c = led_same _ _ refl refl refl
