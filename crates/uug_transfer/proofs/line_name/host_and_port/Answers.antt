use Rattle.std.proofs.Common.{ℕ, List, Option, unwrap_or, ap, Some, None, arith}
use Rattle.uug_store.proofs.LastPlaceLemmas.{split_at_last}
use Rattle.uug_transfer.specs.LineNames.{loopback}
use Rattle.uug_transfer.proofs.line_name.host_and_port.Goals as goal

pub returns-in-Some : goal.returns-in-Some
returns-in-Some c =
    ap (λ (o : Option (List ℕ × List ℕ)). unwrap_or o (loopback, c.args.address.now))
    (split_at_last 58 c.args.address.now (Some (c.in-Some.host, c.in-Some.port)) c.in-Some.ensures.cases (omega arith))

pub returns-in-None : goal.returns-in-None
returns-in-None c =
    ap (λ (o : Option (List ℕ × List ℕ)). unwrap_or o (loopback, c.args.address.now))
    (split_at_last 58 c.args.address.now None c.in-None.ensures.cases (omega arith))
