use Rattle.std.proofs.Common.{◌∙◌, refl}
use Rattle.uug_transfer.proofs.LedLemmas.{led_later, led_same}
use Rattle.uug_transfer.proofs.turns.take_turns.Goals as goal

pub loop-init : goal.loop-init
loop-init g c = record {
  caller_led = led_same _ _ refl refl refl;
  called_led = led_same _ _ refl refl refl;
  room = c.requires;
  calm = refl;
}

pub loop-preserved : goal.loop-preserved
loop-preserved g c = record {
  caller_led = led_later _ _ _ c.loop.invariant.caller_led c.take_turn.ensures.caller_led;
  called_led = led_later _ _ _ c.loop.invariant.called_led c.take_turn.ensures.called_led;
  room = c.in_ok-take_turn.ensures.room;
  calm = c.in_ok-take_turn.ensures.calm ∙ c.loop.invariant.calm;
}

pub returns-in_err-take_turn-clause-caller_led : goal.returns-in_err-take_turn-clause-caller_led
returns-in_err-take_turn-clause-caller_led g c = led_later _ _ _ c.loop.invariant.caller_led c.take_turn.ensures.caller_led

pub returns-in_err-take_turn-clause-called_led : goal.returns-in_err-take_turn-clause-called_led
returns-in_err-take_turn-clause-called_led g c = led_later _ _ _ c.loop.invariant.called_led c.take_turn.ensures.called_led
