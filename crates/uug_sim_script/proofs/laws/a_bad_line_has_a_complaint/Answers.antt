use Rattle.uug_sim_script.proofs.TableLemmas.{bad_line_complains, read_text_says, text_says_read, wrong_says_nothing}
use Rattle.uug_sim_script.proofs.laws.a_bad_line_has_a_complaint.Goals as goal

pub returns-clause-good : goal.returns-clause-good
returns-clause-good c = text_says_read

pub returns-clause-says : goal.returns-clause-says
returns-clause-says c = read_text_says

pub returns-clause-bad : goal.returns-clause-bad
returns-clause-bad c = bad_line_complains

pub returns-clause-complaint : goal.returns-clause-complaint
returns-clause-complaint c = wrong_says_nothing
