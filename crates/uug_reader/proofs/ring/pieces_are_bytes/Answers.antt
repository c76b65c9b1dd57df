use Rattle.std.proofs.Common.{arith}
use Rattle.uug_reader.proofs.PlaceLemmas.{AreBytes-append}
use Rattle.uug_reader.proofs.ring.pieces_are_bytes.Goals as goal

pub returns : goal.returns
returns c =
    AreBytes-append c.args.front.now c.args.back.now (λ i. omega (arith, c.type_inv.front i)) (λ i. omega (arith, c.type_inv.back i))
