use Rattle.uug_sim_script.specs.ScriptOf.{script_said}
use Rattle.uug_sim_play.proofs.PlayedLemmas.{runs}
use Rattle.uug_sim_play.proofs.played.run_script.Goals as goal

pub returns-in-Ok-run-clause-of : goal.returns-in-Ok-run-clause-of
returns-in-Ok-run-clause-of g c =
    runs c.args.text.now (script_said c.in-Ok.script) c.as_slice.result.now c.in-Ok-run.report
    c.in-Ok.ensures.script c.as_slice.ensures.value c.in-Ok-run.ensures.of
