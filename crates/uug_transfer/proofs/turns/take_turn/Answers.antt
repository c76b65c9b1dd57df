use Rattle.std.proofs.Common.{refl}
use Rattle.uug_transfer.proofs.LedLemmas.{led_same}
use Rattle.uug_transfer.proofs.turns.take_turn.Goals as goal

pub returns-in_err-time_out-clause-called_led : goal.returns-in_err-time_out-clause-called_led
returns-in_err-time_out-clause-called_led g c = led_same _ _ refl refl refl

pub returns-in_err-move_end-clause-called_led : goal.returns-in_err-move_end-clause-called_led
returns-in_err-move_end-clause-called_led g c = led_same _ _ refl refl refl
