use Rattle.uug_sim_play.proofs.PlayedLemmas.{plays}
use Rattle.uug_sim_play.proofs.played.play_script.Goals as goal

pub returns-in-Ok-clause-played : goal.returns-in-Ok-clause-played
returns-in-Ok-clause-played g c =
    plays c.args.text.now _ _ c.in_ok-report.report c.in_ok-report.ensures.of c.in-Ok.ensures.text c.in-Ok.ensures.status
