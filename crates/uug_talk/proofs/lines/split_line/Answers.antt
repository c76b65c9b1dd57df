use Rattle.std.proofs.Common.{refl, arith}
use Rattle.std.proofs.lemmas.Bool.Decides.{nat_tests}
use Rattle.uug_talk.proofs.LineLemmas.{one_line, first_line}
use Rattle.uug_talk.proofs.lines.split_line.Goals as goal

pub returns-in-empty-clause-lines : goal.returns-in-empty-clause-lines
returns-in-empty-clause-lines c =
    one_line c.args.text.now _ _ c.line_len.result c.line_len.ensures.value (grind (arith, nat_tests)) c.split_at.ensures.front
    c.split_at.ensures.back (omega arith)

pub returns-in-len1-up-clause-lines : goal.returns-in-len1-up-clause-lines
returns-in-len1-up-clause-lines c =
    first_line c.args.text.now _ c.split_at.result.1.now _ c.line_len.result c.line_len.ensures.value c.split_at.ensures.front
    c.split_at.ensures.back (omega arith) refl
