use Rattle.uug_taylor_queue.proofs.ArrivalLemmas.{comes_whole}
use Rattle.uug_taylor_queue.proofs.laws.what_comes_is_whole.Goals as goal

pub returns : goal.returns
returns c = comes_whole
