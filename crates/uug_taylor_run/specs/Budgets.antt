-- How much of the work that waits for a system a session offers (this project's profile).
use Rattle.std.specs.Borrow.{Bor}
use Rattle.std.specs.Prelude.{◌&&◌, ◌||◌, ◌-◌, [], ◌∷◌, not, ℕ, Bool, true, false, List, Option, Some, None, nat_le, nat_lt}
use Rattle.uug_taylor_text.specs.WorkOrder.{grade_of}
use Rattle.uug_taylor_run.specs.declared.work.Budget.{Budget}

abbrev pub is_as_high : (grade : Option ℕ) (lowest : List ℕ) → Bool
is_as_high None lowest = false
is_as_high (Some grade) [] = false
is_as_high (Some grade) (lowest ∷ more) = nat_le grade lowest

-- a C. file is offered if its grade is `lowest` or higher; without a lowest grade, all are
abbrev pub is_offered : (lowest : Option (Bor (List ℕ))) (name : List ℕ) → Bool
is_offered None name = true
is_offered (Some lowest) name = is_as_high (grade_of name) lowest.now

-- whether a job with a file of this size is offered: the first one always is, and any other if there is room
abbrev pub budget_fits : Budget → (size : ℕ) → Bool
budget_fits b size = b.is_first || (nat_le size b.bytes && nat_lt 0 b.jobs)

abbrev pub budget_after : Budget → (size : ℕ) → Budget
budget_after b size = record {
  bytes = b.bytes - size;
  jobs = b.jobs - 1;
  limit = b.limit;
  is_first = false;
  is_full = b.is_full || not (budget_fits b size);
}
