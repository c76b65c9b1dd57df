use Rattle.uug_link.proofs.FieldLemmas.{smallest_out}
use Rattle.uug_link.proofs.SmallestLemmas.{smallest_holds}
use Rattle.uug_link.proofs.laws.messages_go_out_in_the_smallest_field.Goals as goal

pub returns : goal.returns
returns c = record { smallest = smallest_out; holds = smallest_holds }
