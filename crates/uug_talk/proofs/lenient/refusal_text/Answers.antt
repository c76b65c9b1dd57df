use Rattle.uug_talk.proofs.WriteLemmas.{IsCommandText-refusal}
use Rattle.uug_talk.proofs.lenient.refusal_text.Goals as goal

pub returns-clause-command : goal.returns-clause-command
returns-clause-command c = IsCommandText-refusal _ c.args.letter c.requires c.spell_refusal.ensures
