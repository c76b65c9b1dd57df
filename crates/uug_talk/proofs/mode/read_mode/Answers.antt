use Rattle.std.proofs.Common.{sym, ap, ◌∙◌, Ok}
use Rattle.uug_talk.proofs.ModeLemmas.{mode_read-of}
use Rattle.uug_talk.proofs.mode.read_mode.Goals as goal

pub returns-then-is_mode_word-clause-exact : goal.returns-then-is_mode_word-clause-exact
returns-then-is_mode_word-clause-exact c =
    ap Ok c.octal.ensures ∙ sym (mode_read-of c.args.word.now (c.is_mode_word.ensures.0 c.if-is_mode_word.true))
