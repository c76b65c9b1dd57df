use Rattle.uug_line.proofs.Standing.{run_goes, report_is}
use Rattle.uug_line.proofs.world_laws.a_run_is_the_world.Goals as goal

pub returns-clause-run : goal.returns-clause-run
returns-clause-run c setup events sound =
    (run_goes setup sound events).counted_is

pub returns-clause-report : goal.returns-clause-report
returns-clause-report c setup events sound =
    report_is setup sound events
