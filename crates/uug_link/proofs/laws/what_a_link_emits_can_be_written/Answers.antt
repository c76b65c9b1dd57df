use Rattle.uug_link.proofs.InRangeLemmas.{announcement_right, range_at_first, range_stays, emits_well_formed}
use Rattle.uug_link.proofs.laws.what_a_link_emits_can_be_written.Goals as goal

pub returns : goal.returns
returns c = record { right = announcement_right; first = range_at_first; stays = range_stays; emitted = emits_well_formed }
