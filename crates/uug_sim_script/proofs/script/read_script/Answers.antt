use Rattle.uug_sim_script.proofs.AfreshLemmas.{found_begins}
use Rattle.uug_sim_script.proofs.ScriptTableLemmas.{script_found, bad_found}
use Rattle.uug_sim_script.proofs.script.read_script.Goals as goal

pub returns-clause-script : goal.returns-clause-script
returns-clause-script g c = script_found c.args.text.now _ c.read_lines.ensures.script

pub returns-clause-afresh : goal.returns-clause-afresh
returns-clause-afresh g c = found_begins c.args.text.now _ (script_found c.args.text.now _ c.read_lines.ensures.script)

pub returns-clause-bad : goal.returns-clause-bad
returns-clause-bad g c = bad_found c.args.text.now _ c.read_lines.ensures.fault
