use Rattle.std.proofs.Common.{rules}
use Rattle.uug_sim_script.proofs.RemarkLemmas.{told_is_text}
use Rattle.uug_sim_script.proofs.remark.add_word.Goals as goal

pub unreachable-requires : goal.unreachable-requires
unreachable-requires g c = c.in_default.ensures.cases.0 (told_is_text c.args.word.now (search rules))
