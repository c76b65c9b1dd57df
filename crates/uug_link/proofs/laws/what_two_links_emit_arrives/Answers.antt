use Rattle.uug_link.proofs.CountsRuns.{acks_count, counted}
use Rattle.uug_link.proofs.WrittenRuns.{always_written}
use Rattle.uug_link.proofs.laws.what_two_links_emit_arrives.Goals as goal

pub returns : goal.returns
returns c = record { written = always_written; counted = counted; acknowledges = acks_count }
