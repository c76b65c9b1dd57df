use Rattle.std.proofs.Common.{◌∙◌}
use Rattle.uug_talk.proofs.AnswerLemmas.{found_answer, answer_of-spelled}
use Rattle.uug_talk.proofs.RefusedLemmas.{refused_answer}
use Rattle.uug_talk.proofs.answer.read_answer.Goals as goal

pub returns-clause-found : goal.returns-clause-found
returns-clause-found c = found_answer c.args.text.now _ c.read_letters.ensures

pub returns-clause-only : goal.returns-clause-only
returns-clause-only c = λ answer h. c.read_letters.ensures ∙ answer_of-spelled c.args.text.now answer h

pub returns-clause-refused : goal.returns-clause-refused
returns-clause-refused c = refused_answer c.args.text.now _ c.read_letters.ensures
