use Rattle.uug_conversation.proofs.OwnEntryLemmas.{more_jobs, of_sessions}
use Rattle.uug_conversation.proofs.stored_laws.own_entries_of_sessions.Goals as goal

pub returns-clause-joined : goal.returns-clause-joined
returns-clause-joined c = of_sessions

pub returns-clause-more_jobs : goal.returns-clause-more_jobs
returns-clause-more_jobs c h others jobs more givers receivers entries inside = more_jobs h others jobs more inside givers receivers entries
