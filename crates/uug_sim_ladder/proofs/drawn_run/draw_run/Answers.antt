use Rattle.uug_sim_play.proofs.PlayedLemmas.{runs}
use Rattle.uug_sim_script.specs.ScriptOf.{script_said}
use Rattle.uug_sim_ladder.specs.Rungs.{ladder_shown}
use Rattle.uug_sim_ladder.proofs.FrontLemmas.{is_ladder}
use Rattle.uug_sim_ladder.proofs.drawn_run.draw_run.Goals as goal

pub returns-clause-ladder : goal.returns-clause-ladder
returns-clause-ladder g c =
    is_ladder c.args.text.now (script_said c.in_ok-setup.field-0) c.as_slice.result.now (ladder_shown {A = g.row.A.Denot} c.in-Some.drawn.ladder)
    c.in_ok-setup.ensures.script c.as_slice.ensures.value c.in-Some.ensures.drawn

pub returns-clause-run : goal.returns-clause-run
returns-clause-run g c =
    runs c.args.text.now (script_said c.in_ok-setup.field-0) c.as_slice.result.now c.in-Some.drawn.report
    c.in_ok-setup.ensures.script c.as_slice.ensures.value c.in-Some.ensures.run
