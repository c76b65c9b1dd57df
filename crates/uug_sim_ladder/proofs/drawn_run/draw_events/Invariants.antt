use Rattle.uug_line.specs.Setup.{setup_of}
use Rattle.uug_sim_ladder.specs.Code.Progress.{progress_shown}
use Rattle.uug_sim_ladder.proofs.FrontLemmas.{Stands}
use Rattle.uug_sim_ladder.proofs.drawn_run.draw_events.Given as goal

-- the first events have happened, and are drawn
abbrev pub invariant-loop-number : goal.invariant-loop-number
invariant-loop-number g l =
    Stands (setup_of l.fn.setup) l.events l.number l.progress.run (progress_shown l.progress)
