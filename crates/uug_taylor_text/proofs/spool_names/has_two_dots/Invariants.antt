use Rattle.std.proofs.Common.{◌≡◌, length}
use Rattle.uug_taylor_text.specs.SpoolNames.{has_two_dots}
use Rattle.uug_taylor_text.proofs.spool_names.has_two_dots.Given as goal

-- what is left decides
abbrev pub invariant-loop-rest : goal.invariant-loop-rest
invariant-loop-rest l = has_two_dots l.rest ≡ has_two_dots l.fn.name

abbrev pub decreases-loop-rest : goal.decreases-loop-rest
decreases-loop-rest l = length l.rest
