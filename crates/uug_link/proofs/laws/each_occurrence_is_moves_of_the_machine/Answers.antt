use Rattle.uug_link.proofs.TwoLinksRuns.{first_reads}
use Rattle.uug_link.proofs.MovesRuns.{occurrence_moves, run_moves}
use Rattle.uug_link.proofs.MovesAlone.{occurrence_alone}
use Rattle.uug_link.proofs.laws.each_occurrence_is_moves_of_the_machine.Goals as goal

pub returns : goal.returns
returns c = record { start = first_reads; moves = occurrence_moves; alone = occurrence_alone; whole = run_moves }
