use Rattle.uug_sim_script.proofs.ReportLemmas.{mode_is_text}
use Rattle.uug_sim_script.proofs.report.add_stored_line.Goals as goal

pub unreachable-requires : goal.unreachable-requires
unreachable-requires g c = c.in_default.ensures.cases.0 (mode_is_text c.args.file.now.mode _ c.mode_digits-digits.ensures)
