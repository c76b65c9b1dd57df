use Rattle.uug_session.proofs.ToldLemmas.{next_is, parted_is}
use Rattle.uug_session.proofs.told_laws.an_end_is_told_by_two_numbers.Goals as goal

pub returns-clause-next : goal.returns-clause-next
returns-clause-next c me a b own others struck failed kept = next_is me a b own others

pub returns-clause-parted : goal.returns-clause-parted
returns-clause-parted c me a b own others struck failed kept = parted_is me a b own others
