use Rattle.uug_talk.proofs.ChunkLemmas.{command_fits, file_fits}
use Rattle.uug_talk.proofs.laws.messages_fit.Goals as goal

pub returns-clause-command : goal.returns-clause-command
returns-clause-command c = command_fits

pub returns-clause-file : goal.returns-clause-file
returns-clause-file c = file_fits
