use Rattle.uug_talk.proofs.GatherLemmas.{behind_push}
use Rattle.uug_talk.proofs.GathersBackLemmas.{file_behind}
use Rattle.uug_talk.proofs.laws.file_goes_on_behind_its_front.Goals as goal

pub returns-clause-next : goal.returns-clause-next
returns-clause-next c = behind_push

pub returns-clause-whole : goal.returns-clause-whole
returns-clause-whole c = file_behind
