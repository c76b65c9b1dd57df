use Rattle.std.proofs.Common.{rules}
use Rattle.uug_sim_ladder.proofs.ActsLemmas.{behind_first}
use Rattle.uug_sim_ladder.proofs.acts.behind.Goals as goal

pub returns : goal.returns
returns g c = behind_first c.args.packets.now c.args.count c.min.result (search rules)
