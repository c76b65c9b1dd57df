use Rattle.std.proofs.Common.{arith}
use Rattle.uug_packet.proofs.FieldLemmas.{field_size-least, field_size-most}
use Rattle.uug_packet.proofs.field.field_size.Goals as goal

pub returns-clause-least : goal.returns-clause-least
returns-clause-least c =
    omega (arith, field_size-least c.args.k c.requires.low, field_size-most c.args.k c.requires.high)

pub returns-clause-most : goal.returns-clause-most
returns-clause-most c =
    omega (arith, field_size-least c.args.k c.requires.low, field_size-most c.args.k c.requires.high)
