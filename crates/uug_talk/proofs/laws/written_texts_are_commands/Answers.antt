use Rattle.std.proofs.Common.{refl}
use Rattle.uug_talk.proofs.WriteLemmas.{IsCommandText-order, IsCommandText-answer}
use Rattle.uug_talk.proofs.laws.written_texts_are_commands.Goals as goal

pub returns-clause-order : goal.returns-clause-order
returns-clause-order c = λ order names mode. IsCommandText-order _ order names refl

pub returns-clause-answer : goal.returns-clause-answer
returns-clause-answer c = λ answer written. IsCommandText-answer _ answer written refl
