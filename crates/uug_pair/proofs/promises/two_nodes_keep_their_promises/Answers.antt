use Rattle.uug_pair.proofs.TwoNodesLaw.{nodes_keep, nodes_stand}
use Rattle.uug_pair.proofs.promises.two_nodes_keep_their_promises.Goals as goal

pub returns-clause-stand : goal.returns-clause-stand
returns-clause-stand c ends order kept nodes have side =
    nodes_stand ends order kept nodes have side

pub returns-clause-stored : goal.returns-clause-stored
returns-clause-stored c ends order kept nodes sound none have giver =
    nodes_keep ends order kept nodes sound none have giver
