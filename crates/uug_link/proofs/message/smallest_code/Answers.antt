use Rattle.uug_link.proofs.SmallestLemmas.{same_code}
use Rattle.uug_link.proofs.message.smallest_code.Goals as goal

pub returns-clause-value : goal.returns-clause-value
returns-clause-value c =
    same_code c.args.len c.field_code.result c.field_code.ensures.low c.field_code.ensures.holds c.requires
    c.field_code.ensures.least
