use Rattle.uug_packet.proofs.WellFormedLemmas.{IsWellFormed-spelled, IsWellFormed-decoded, IsSpelling-well_formed, decoded-well_formed}
use Rattle.uug_packet.proofs.laws.packets_are_well_formed.Goals as goal

pub returns-clause-spelled : goal.returns-clause-spelled
returns-clause-spelled c = IsWellFormed-spelled

pub returns-clause-decoded : goal.returns-clause-decoded
returns-clause-decoded c = IsWellFormed-decoded

pub returns-clause-written : goal.returns-clause-written
returns-clause-written c = IsSpelling-well_formed

pub returns-clause-read : goal.returns-clause-read
returns-clause-read c = decoded-well_formed
