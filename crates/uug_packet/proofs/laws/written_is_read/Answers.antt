use Rattle.uug_packet.specs.Spelling.{canonical}
use Rattle.uug_packet.proofs.DecodedLemmas.{decoded-spelling, IsSpelling-canonical}
use Rattle.uug_packet.proofs.laws.written_is_read.Goals as goal

pub returns-clause-spelled : goal.returns-clause-spelled
returns-clause-spelled c = IsSpelling-canonical

pub returns-clause-read : goal.returns-clause-read
returns-clause-read c p w rest h = decoded-spelling p (canonical p) rest (IsSpelling-canonical p w h)
