use Rattle.std.proofs.Common.{◌∙◌, ap, arith}
use Rattle.uug_store.specs.NumberText.{number_in}
use Rattle.uug_store.proofs.NumberTextLemmas.{written_is_read}
use Rattle.uug_store.proofs.number_text.number_line.Goals as goal

pub returns-clause-read_back : goal.returns-clause-read_back
returns-clause-read_back c =
    ap number_in c.written_line.ensures.text ∙ written_is_read c.args.number (omega (arith, c.written_line.ensures.within))
