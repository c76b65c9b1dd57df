use Rattle.uug_reader.proofs.CallLemmas.{shown_stays, shown_is_dropped}
use Rattle.uug_reader.proofs.laws.shown_is_dropped.Goals as goal

pub returns : goal.returns
returns c = record { stays = shown_stays; same = shown_is_dropped }
