use Rattle.uug_talk.proofs.WriteLemmas.{ReadsAnswer-written, IsCommandText-answer}
use Rattle.uug_talk.proofs.answer.write_answer.Goals as goal

pub returns-clause-read_back : goal.returns-clause-read_back
returns-clause-read_back c = ReadsAnswer-written _ c.args.answer.now c.requires c.spell_answer.ensures

pub returns-clause-command : goal.returns-clause-command
returns-clause-command c = IsCommandText-answer _ c.args.answer.now c.requires c.spell_answer.ensures
