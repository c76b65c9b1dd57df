use Rattle.uug_talk.proofs.GatherLemmas.{joined_when_ok}
use Rattle.uug_talk.proofs.gather.Gather.push.Goals as goal

pub returns-clause-joined : goal.returns-clause-joined
returns-clause-joined g c = joined_when_ok _ c.args.self.now c.add.new.self c.args.message.now c.requires c.add.ensures.ok
