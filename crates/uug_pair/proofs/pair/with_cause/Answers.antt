use Rattle.std.proofs.Common.{rules}
use Rattle.uug_pair.proofs.PairLemmas.{session_fault}
use Rattle.uug_pair.proofs.pair.with_cause.Goals as goal

pub returns-in-Err-clause-no_other : goal.returns-in-Err-clause-no_other
returns-in-Err-clause-no_other c = session_fault c.in-Err.fault c.args.first c.with.result c.with.ensures (search rules) (search rules)
