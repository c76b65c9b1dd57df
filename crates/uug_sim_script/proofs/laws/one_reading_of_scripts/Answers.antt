use Rattle.uug_sim_script.proofs.ScriptTableLemmas.{script_is_read, first_bad_is_read, read_is_script, read_is_first_bad}
use Rattle.uug_sim_script.proofs.laws.one_reading_of_scripts.Goals as goal

pub returns-clause-script : goal.returns-clause-script
returns-clause-script c = script_is_read

pub returns-clause-bad : goal.returns-clause-bad
returns-clause-bad c = first_bad_is_read

pub returns-clause-read_script : goal.returns-clause-read_script
returns-clause-read_script c = read_is_script

pub returns-clause-read_bad : goal.returns-clause-read_bad
returns-clause-read_bad c = read_is_first_bad
