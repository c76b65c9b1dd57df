use Rattle.std.proofs.Common.{string_bytes}
use Rattle.uug_sim_play.proofs.PlayedLemmas.{plays_verbosely, plays_with_reasons}
use Rattle.uug_sim_play.proofs.played.play_script_verbosely.Goals as goal

pub returns-in-Ok-clause-verbosely : goal.returns-in-Ok-clause-verbosely
returns-in-Ok-clause-verbosely g c =
    plays_with_reasons c.args.text.now _ _ _ c.in_ok-report.report c.in_ok-report.ensures.of c.in-Ok.ensures.text
    c.in-Ok.ensures.reasons c.in-Ok.ensures.status

pub returns-in-Ok-clause-played : goal.returns-in-Ok-clause-played
returns-in-Ok-clause-played g c =
    plays_verbosely c.args.text.now _ (string_bytes c.in-Ok.played.reasons) _ (returns-in-Ok-clause-verbosely g c)
