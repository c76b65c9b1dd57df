use Rattle.std.proofs.Common.{◌≡◌, ◌++◌, replicate}
use Rattle.uug_packet.proofs.encoding.append_zeros.Given as goal

abbrev pub invariant-zeros : goal.invariant-zeros
invariant-zeros l = l.out.items ≡ l.fn.out.items ++ replicate l.counter 0
