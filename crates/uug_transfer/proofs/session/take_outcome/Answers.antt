use Rattle.std.proofs.Common.{refl}
use Rattle.uug_transfer.proofs.LedLemmas.{led_same}
use Rattle.uug_transfer.proofs.session.take_outcome.Goals as goal

pub returns-in-Eof-clause-led : goal.returns-in-Eof-clause-led
returns-in-Eof-clause-led g c = led_same _ _ refl refl refl
