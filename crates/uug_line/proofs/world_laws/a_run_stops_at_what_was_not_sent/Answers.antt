use Rattle.uug_line.specs.RunKeeper.{by_themselves}
use Rattle.uug_line.proofs.VerdictLemmas.{arrivals_are_places, nothing_left, fooled_by_unsent, unsent_when_fooled, stopped_at}
use Rattle.uug_line.proofs.world_laws.a_run_stops_at_what_was_not_sent.Goals as goal

pub returns-clause-places : goal.returns-clause-places
returns-clause-places c setup events = arrivals_are_places by_themselves setup events

pub returns-clause-clean : goal.returns-clause-clean
returns-clause-clean c setup events clean side = nothing_left by_themselves setup events clean side

pub returns-clause-fooled : goal.returns-clause-fooled
returns-clause-fooled c setup events side = (
  λ fooled. unsent_when_fooled by_themselves setup events fooled.0 side fooled.1,
  fooled_by_unsent by_themselves setup events side,
)

pub returns-clause-stopped : goal.returns-clause-stopped
returns-clause-stopped c setup events number side fooled = stopped_at by_themselves setup events number side fooled
