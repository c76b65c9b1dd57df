use Rattle.std.proofs.Common.{rules}
use Rattle.uug_config.proofs.task.read_terms.Goals as goal

-- the speed was found within its range
pub invariant_of-result : goal.invariant_of-result
invariant_of-result c = record { of_speed = c.is_within-else-not-is_within.ensures.0 (search rules) }
