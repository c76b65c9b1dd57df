use Rattle.std.proofs.Common.{refl}
use Rattle.uug_talk.proofs.OrderLemmas.{order_of-spelled}
use Rattle.uug_talk.proofs.WriteLemmas.{ReadsOrder-written}
use Rattle.uug_talk.proofs.laws.written_orders_are_read.Goals as goal

pub returns : goal.returns
returns c = λ order names mode. order_of-spelled _ order (ReadsOrder-written _ order names mode refl)
