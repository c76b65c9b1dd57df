use Rattle.std.proofs.Common.{suc, ◌-◌, List}
use Rattle.uug_line.specs.declared.event.Event.{Event}
use Rattle.uug_line.specs.Belongings.{SetupValue}
use Rattle.uug_line.specs.RunValue.{run_value}
use Rattle.uug_line.specs.Code.Settling.{MayFinish, parts_weight}
use Rattle.uug_line.proofs.Clean.Loop.{Nearing}
use Rattle.uug_line.proofs.running.RunSoFar.finish.Given as goal

-- the rounds that are left lead to the end
abbrev pub invariant-loop-alloc : goal.invariant-loop-alloc
invariant-loop-alloc g l = (setup : SetupValue) (events : List Event) → MayFinish setup events (run_value l.fn.self)
    → Nearing setup events (run_value l.self)

abbrev pub decreases-loop-alloc : goal.decreases-loop-alloc
decreases-loop-alloc g l = suc 340282366920938463463374607431768211455 - parts_weight (run_value l.self)
