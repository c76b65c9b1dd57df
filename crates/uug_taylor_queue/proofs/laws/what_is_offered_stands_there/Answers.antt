use Rattle.uug_taylor_queue.specs.OpenLines.{jobs_of}
use Rattle.uug_taylor_queue.proofs.OpenLinesLemmas.{front_is_less}
use Rattle.uug_taylor_queue.proofs.laws.what_is_offered_stands_there.Goals as goal

pub returns : goal.returns
returns c = λ lines count job. front_is_less count (jobs_of lines) job
