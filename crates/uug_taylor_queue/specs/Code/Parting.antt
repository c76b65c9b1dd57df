-- Lines in the order of their removal, and those that stay.
use Rattle.std.specs.Prelude.{◌≡◌, ◌≤◌, ◌+◌, ℕ, zero, suc, List, [], ◌∷◌, ◌++◌, length, take, drop}
use Rattle.uug_conversation.specs.declared.job.Job.{Job}
use Rattle.uug_taylor_text.specs.Operations.{Op}
use Rattle.uug_taylor_queue.specs.OverOrder.{gone_lines, lines_after, settled_ops, store_ops}
use Rattle.uug_taylor_queue.specs.declared.open_line.OpenLine.{OpenLine}
use Rattle.uug_taylor_queue.specs.declared.open_line.Outcome.{Outcome}
use Rattle.uug_taylor_queue.specs.declared.open_line.Outcome.TheVariants.{Done, Failed}
use Rattle.uug_taylor_queue.specs.declared.parted.Parted.{Parted}

-- the first n of these lines are removed with this outcome, one after the other
abbrev pub first_ops : Outcome → ℕ → List OpenLine → List Op
first_ops outcome zero lines = []
first_ops outcome (suc n) [] = []
first_ops outcome (suc n) (line ∷ more) = settled_ops outcome line more ++ first_ops outcome n more

abbrev pub parted_ops : {A B : Type 0} → Parted A B → List Op
parted_ops p = first_ops Done p.done p.order.items ++ first_ops Failed p.failed (drop p.done p.order.items)

pub record IsParted {A B : Type 0} (struck failed : List Job) (lines : List OpenLine) (p : Parted A B) : Type 0 where
  pub fits : p.done ≤ length p.order.items
  pub fits_both : p.done + p.failed ≤ length p.order.items
  pub gone : take (p.done + p.failed) p.order.items ≡ gone_lines struck failed lines
  pub ops : parted_ops p ≡ store_ops struck failed lines
  pub left : p.left.items ≡ lines_after struck failed lines
