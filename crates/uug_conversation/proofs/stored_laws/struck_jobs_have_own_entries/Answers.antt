use Rattle.uug_conversation.proofs.StoredLemmas.{called_store, caller_store}
use Rattle.uug_conversation.proofs.stored_laws.struck_jobs_have_own_entries.Goals as goal

pub returns-clause-called_store : goal.returns-clause-called_store
returns-clause-called_store c = called_store

pub returns-clause-caller_store : goal.returns-clause-caller_store
returns-clause-caller_store c = caller_store
