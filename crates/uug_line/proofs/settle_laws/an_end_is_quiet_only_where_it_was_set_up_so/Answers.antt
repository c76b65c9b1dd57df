use Rattle.uug_line.proofs.Clean.Law.{owns}
use Rattle.uug_line.proofs.QuietLemmas.{asks_no_more}
use Rattle.uug_line.proofs.settle_laws.an_end_is_quiet_only_where_it_was_set_up_so.Goals as goal

pub returns-clause-own : goal.returns-clause-own
returns-clause-own c = owns

pub returns-clause-asks : goal.returns-clause-asks
returns-clause-asks c = asks_no_more
