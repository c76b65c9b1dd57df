use Rattle.uug_transfer.proofs.LedLemmas.{led_later}
use Rattle.uug_transfer.proofs.turns.run_turns.Goals as goal

pub returns-clause-caller_led : goal.returns-clause-caller_led
returns-clause-caller_led g c = led_later _ _ _ c.take_turns-result.ensures.caller_led c.hang_up.ensures.led

pub returns-clause-called_led : goal.returns-clause-called_led
returns-clause-called_led g c = led_later _ _ _ c.take_turns-result.ensures.called_led c.hang_up-2.ensures.led
