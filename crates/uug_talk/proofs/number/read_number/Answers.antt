use Rattle.std.proofs.Common.{sym}
use Rattle.uug_talk.proofs.NumberLemmas.{numeral_is_text, number_not_found}
use Rattle.uug_talk.proofs.number.read_number.Goals as goal

pub unreachable-requires : goal.unreachable-requires
unreachable-requires c =
    c.in_default.ensures.cases.0 (numeral_is_text c.args.word.now (sym c.if-not-is_numeral.ensures))

pub returns-in_default-parse-2-clause-exact : goal.returns-in_default-parse-2-clause-exact
returns-in_default-parse-2-clause-exact c =
    number_not_found c.args.most c.args.word.now c.in-Ok.digits.now c.parse.result _ (sym c.if-not-is_numeral.ensures)
    c.in-Ok.ensures.cases.0 c.ranges.most.fits c.parse.ensures.value.0 c.in_default-parse.is
