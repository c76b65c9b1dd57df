-- The order of C. files is one, by that of grades and that of names.
use Rattle.std.proofs.Common.{◌≡◌, ℕ, List, ap, ◌∙◌}
use Rattle.std.specs.Cmp.{IsTotalOrder, nat_cmp_total, on_total, then_total}
use Rattle.std.specs.Cmp.Lexicographic.{slice_cmp, bytes_decides, nat_list_cmp_total, options_total, texts_ties}
use Rattle.std.specs.Ordering.{is_eq, ordering_then, nat_cmp}
use Rattle.std.specs.declared.cmp.Ordering.{Ordering}
use Rattle.std.specs.declared.cmp.Ordering.TheVariants.{Less, Equal, Greater}
use Rattle.uug_taylor_text.specs.WorkOrder.{grade_of, work_order}

pub one_order : IsTotalOrder work_order
one_order = then_total (on_total grade_of (options_total nat_cmp_total)) nat_list_cmp_total

-- where the first order does not tell two apart and the second one decides
second : (first next : Ordering) → ordering_then first next ≡ Equal → next ≡ Equal
second Equal next h = h
second Less next h = absurd cc
second Greater next h = absurd cc

pub on_a_par : (name other : List ℕ) → work_order name other ≡ Equal → name ≡ other
on_a_par name other h =
    let names : slice_cmp nat_cmp name other ≡ Equal = second _ _ h in
    (bytes_decides name other).0 (texts_ties name other ∙ ap is_eq names)
