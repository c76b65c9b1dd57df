use Rattle.uug_sim_play.proofs.SettledLemmas.{settles}
use Rattle.uug_sim_play.proofs.settled.settle_script.Goals as goal

pub returns-in-Ok-clause-settled : goal.returns-in-Ok-clause-settled
returns-in-Ok-clause-settled g c =
    settles c.args.text.now _ _ c.in_ok-report.report c.in_ok-report.ensures.of c.in-Ok.ensures
