use Rattle.std.proofs.Common.{rules}
use Rattle.uug_sim_ladder.proofs.ActsLemmas.{rest_behind}
use Rattle.uug_sim_ladder.proofs.acts.new_on.Goals as goal

pub returns : goal.returns
returns g c = rest_behind c.args.line.now _ c.min.result (search rules)
