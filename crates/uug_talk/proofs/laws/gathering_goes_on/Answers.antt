use Rattle.std.proofs.Common.{sym}
use Rattle.uug_talk.proofs.GatherLemmas.{gathered_push}
use Rattle.uug_talk.proofs.laws.gathering_goes_on.Goals as goal

pub returns : goal.returns
returns c = λ kind messages message n. sym (gathered_push kind messages message n)
