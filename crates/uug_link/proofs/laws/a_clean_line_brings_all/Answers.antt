use Rattle.uug_link.proofs.OnTheWayLemmas.{hears_so, repeats_so, sends_so, still_brings}
use Rattle.uug_link.proofs.laws.a_clean_line_brings_all.Goals as goal

pub returns : goal.returns
returns c = record { hears = hears_so; still = still_brings; sends = sends_so; repeats = repeats_so }
