use Rattle.uug_line.proofs.Clean.Law.{settles}
use Rattle.uug_line.proofs.settle_laws.two_ends_finish_on_a_clean_line.Goals as goal

pub returns : goal.returns
returns c setup events types may =
    settles setup events types may
