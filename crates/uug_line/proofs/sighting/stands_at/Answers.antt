use Rattle.std.proofs.Common.{◌≡◌, ◌↔◌, IsTrue, List, ℕ, sym, subst}
use Rattle.uug_packet.specs.Packet.{shown}
use Rattle.uug_packet.specs.Spelling.{canonical}
use Rattle.uug_packet.specs.WellFormed.{IsWritten}
use Rattle.uug_line.proofs.SightingLemmas.{stands_there, written_there}
use Rattle.uug_line.proofs.sighting.stands_at.Goals as goal

pub is_written-requires-clause-bytes : goal.is_written-requires-clause-bytes
is_written-requires-clause-bytes g c =
    subst IsWritten (sym c.as_slice.ensures.value)
    (written_there c.args.others.now c.args.i c.index-others-i.result c.requires.within c.index-others-i.is c.requires.written)

pub returns : goal.returns
returns g c =
    let packet : List ℕ = canonical (shown c.args.packet.now) in
    stands_there packet c.args.others.now c.args.i c.index-others-i.result c.is_written.result c.requires.within c.index-others-i.is
    (subst (λ (x : List ℕ). IsTrue c.is_written.result ↔ (x ≡ packet)) c.as_slice.ensures.value c.is_written.ensures)
