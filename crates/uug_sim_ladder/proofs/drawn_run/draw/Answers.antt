use Rattle.uug_sim_ladder.specs.Rungs.{ladder_shown}
use Rattle.uug_sim_ladder.proofs.ArrivalLemmas.{nothing_comes_before}
use Rattle.uug_sim_ladder.proofs.drawn_run.draw.Goals as goal

pub returns-clause-order : goal.returns-clause-order
returns-clause-order g c =
    nothing_comes_before c.args.text.now (ladder_shown {A = g.row.A.Denot} c.in_ok-ladder.field-0.ladder) c.in_ok-ladder.ensures.ladder
