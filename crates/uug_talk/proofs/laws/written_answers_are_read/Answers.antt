use Rattle.std.proofs.Common.{refl}
use Rattle.uug_talk.proofs.AnswerLemmas.{answer_of-spelled}
use Rattle.uug_talk.proofs.WriteLemmas.{ReadsAnswer-written}
use Rattle.uug_talk.proofs.laws.written_answers_are_read.Goals as goal

pub returns : goal.returns
returns c = λ answer written. answer_of-spelled _ answer (ReadsAnswer-written _ answer written refl)
