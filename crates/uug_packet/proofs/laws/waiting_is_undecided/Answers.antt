use Rattle.uug_packet.proofs.PrefixLemmas.{Waits-shorter, waits_cut-spelling, waits_not-spelling, waits_not-broken, IsBroken-longer, IsBroken-shorter, settled}
use Rattle.uug_packet.proofs.laws.waiting_is_undecided.Goals as goal

pub returns-clause-shorter : goal.returns-clause-shorter
returns-clause-shorter c = Waits-shorter

pub returns-clause-cut : goal.returns-clause-cut
returns-clause-cut c = waits_cut-spelling

pub returns-clause-packet : goal.returns-clause-packet
returns-clause-packet c = waits_not-spelling

pub returns-clause-broken : goal.returns-clause-broken
returns-clause-broken c = waits_not-broken

pub returns-clause-longer : goal.returns-clause-longer
returns-clause-longer c = IsBroken-longer

pub returns-clause-front : goal.returns-clause-front
returns-clause-front c = settled

pub returns-clause-settled : goal.returns-clause-settled
returns-clause-settled c = IsBroken-shorter
