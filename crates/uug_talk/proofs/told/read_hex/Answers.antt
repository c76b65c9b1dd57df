use Rattle.std.proofs.Common.{sym, ◌∙◌}
use Rattle.uug_talk.proofs.DigitLemmas.{numeral_is_text}
use Rattle.uug_talk.proofs.ReadLemmas.{parsed}
use Rattle.uug_talk.proofs.told.read_hex.Goals as goal

pub unreachable-requires : goal.unreachable-requires
unreachable-requires c =
    c.in_default.ensures.cases.0 (numeral_is_text c.args.word.now (sym c.if-not-is_hex_numeral.ensures))

pub returns : goal.returns
returns c =
    c.ok.ensures.value
    ∙ parsed c.args.word.now c.in-Ok.digits.now c.from_str_radix.result (sym c.if-not-is_hex_numeral.ensures)
    c.in-Ok.ensures.cases.0 c.from_str_radix.ensures.value
