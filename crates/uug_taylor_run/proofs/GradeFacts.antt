-- Grades that are known, so that a wrong definition does not check.
use Rattle.std.proofs.Common.{◌≡◌, codes, None, true, false, refl}
use Rattle.uug_taylor_text.specs.WorkOrder.{grade_of}
use Rattle.uug_taylor_run.specs.Budgets.{is_as_high, is_offered}

record AreOffered : Type 0 where
  same : is_as_high (grade_of (codes "C.CABCD")) (codes "C") ≡ true
  higher : is_as_high (grade_of (codes "C.9ABCD")) (codes "C") ≡ true
  lower : is_as_high (grade_of (codes "C.aABCD")) (codes "C") ≡ false
  none : is_as_high (grade_of (codes "C.0ABCD")) (codes "-") ≡ false
  nothing : is_as_high (grade_of (codes "C.0ABCD")) (codes "") ≡ false
  no_job : is_as_high (grade_of (codes "TMP")) (codes "z") ≡ false
  all : is_offered None (codes "C.zABCD") ≡ true

offered : AreOffered
offered = record { same = refl; higher = refl; lower = refl; none = refl; nothing = refl; no_job = refl; all = refl }
