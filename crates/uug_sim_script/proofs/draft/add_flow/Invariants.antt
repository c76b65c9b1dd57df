use Rattle.std.proofs.Common.{◌≡◌, ◌++◌}
use Rattle.uug_sim_script.specs.Script.{flow_events}
use Rattle.uug_sim_script.proofs.draft.add_flow.Given as goal

abbrev pub invariant-loop : goal.invariant-loop
invariant-loop g l = l.events.items ≡ l.fn.events.items ++ flow_events l.counter
