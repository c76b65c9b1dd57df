use Rattle.std.proofs.Common.{arith, length-take, take}
use Rattle.uug_reader.proofs.PlaceLemmas.{Holds-pushed}
use Rattle.uug_reader.proofs.reader.Reader.push.Goals as goal

pub invariant_of-self : goal.invariant_of-self
invariant_of-self g c =
    let fill = c.fill_from_slice in
    Holds-pushed c.self.inside.ring fill.new.self c.self.inside.beside.items
    (take fill.result c.args.piece.now) c.self.inside.shown c.self.invariant fill.ensures.items
    (omega (arith, fill.ensures.count, length-take fill.result c.args.piece.now, c.self.invariant.fits, c.self.invariant.room))
