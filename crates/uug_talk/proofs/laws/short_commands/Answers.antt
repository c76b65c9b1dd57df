use Rattle.std.proofs.Common.{refl}
use Rattle.uug_talk.proofs.ChunkLemmas.{short_beside}
use Rattle.uug_talk.proofs.laws.short_commands.Goals as goal

pub returns-clause-filled : goal.returns-clause-filled
returns-clause-filled c = λ size text. refl

pub returns-clause-short : goal.returns-clause-short
returns-clause-short c = short_beside
