use Rattle.uug_sim_script.proofs.HexWordLemmas.{hex_matches}
use Rattle.uug_sim_script.proofs.taking.is_hex.Goals as goal

pub returns : goal.returns
returns c = hex_matches c.args.word.now c.looks_hex.result c.looks_hex.ensures
