use Rattle.std.proofs.Common.{◌∙◌, refl}
use Rattle.uug_transfer.proofs.LedLemmas.{led_later, led_same}
use Rattle.uug_transfer.proofs.RoomLemmas.{room_where_read}
use Rattle.uug_transfer.proofs.turns.take_unread.Goals as goal

pub loop-at-init : goal.loop-at-init
loop-at-init g c = record {
  led = led_same _ _ refl refl refl;
  room = c.requires.room;
  calm = refl;
}

pub loop-at-preserved : goal.loop-at-preserved
loop-at-preserved g c = record {
  led = led_later _ _ _ c.loop-at.invariant.led c.arrive.ensures.led;
  room = room_where_read _ _ c.args.at c.in_ok-count.count c.loop-at.invariant.room c.in_ok-count.ensures.count c.in_ok-count.ensures.other;
  calm = c.in_ok-count.ensures.calm ∙ c.loop-at.invariant.calm;
}

pub returns-in_err-arrive-clause-led : goal.returns-in_err-arrive-clause-led
returns-in_err-arrive-clause-led g c = led_later _ _ _ c.loop-at.invariant.led c.arrive.ensures.led
