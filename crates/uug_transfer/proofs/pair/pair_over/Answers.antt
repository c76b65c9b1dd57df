use Rattle.std.proofs.Common.{ℕ, ap, Err}
use Rattle.uug_transfer.specs.BufferedNodes.{node_in}
use Rattle.uug_transfer.proofs.EndLemmas.{both_left, left_behind_line}
use Rattle.uug_transfer.proofs.pair.pair_over.Goals as goal

pub returns-in-Err-clause-files : goal.returns-in-Err-clause-files
returns-in-Err-clause-files g c =
    both_left {T = ℕ} (Err c.in-Err.fault) _ _ _ _ _ _ _ _ _ _ (ap (λ buffered. node_in buffered) c.in-Err.ensures.caller)
    (ap (λ buffered. node_in buffered) c.in-Err.ensures.called) c.in-Err.ensures.files

pub returns-in-Err-Line-clause-files : goal.returns-in-Err-Line-clause-files
returns-in-Err-Line-clause-files g c =
    left_behind_line ℕ c.leave-left.result _ _ _ _ c.fault_behind_line.ensures c.leave-left.ensures.no_other
    (both_left c.leave-left.result _ _ _ _ _ _ _ _ _ _ (ap (λ buffered. node_in buffered) c.leave-left.ensures.caller)
    (ap (λ buffered. node_in buffered) c.leave-left.ensures.called) c.leave-left.ensures.files)
