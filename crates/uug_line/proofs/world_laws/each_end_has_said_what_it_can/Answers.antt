use Rattle.uug_line.proofs.Standing.{all_spoken}
use Rattle.uug_line.proofs.world_laws.each_end_has_said_what_it_can.Goals as goal

pub returns : goal.returns
returns c setup events sound =
    all_spoken setup sound events
