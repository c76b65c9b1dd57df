use Rattle.std.proofs.Common.{◌≡◌, true, length}
use Rattle.uug_taylor_queue.specs.Places.{is_path_from}
use Rattle.uug_taylor_queue.proofs.places.is_list.Given as goal

-- what is left decides
abbrev pub invariant-loop-rest : goal.invariant-loop-rest
invariant-loop-rest l = is_path_from l.at_start l.rest ≡ is_path_from true l.bytes

abbrev pub decreases-loop-rest : goal.decreases-loop-rest
decreases-loop-rest l = length l.rest
