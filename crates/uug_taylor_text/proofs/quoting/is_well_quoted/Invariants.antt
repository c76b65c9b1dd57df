use Rattle.std.proofs.Common.{◌≡◌, length}
use Rattle.uug_taylor_text.specs.Quoting.{is_well_quoted}
use Rattle.uug_taylor_text.proofs.quoting.is_well_quoted.Given as goal

-- what is left decides
abbrev pub invariant-loop-rest : goal.invariant-loop-rest
invariant-loop-rest l = is_well_quoted l.rest ≡ is_well_quoted l.fn.word

abbrev pub decreases-loop-rest : goal.decreases-loop-rest
decreases-loop-rest l = length l.rest
