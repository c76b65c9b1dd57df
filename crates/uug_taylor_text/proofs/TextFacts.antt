-- Grades and execution files as they were found on a disk, so that a wrong definition does not check.
use Rattle.std.proofs.Common.{◌≡◌, ℕ, List, [], ◌∷◌, ◌++◌, codes, Some, None, refl}
use Rattle.std.specs.declared.cmp.Ordering.TheVariants.{Less, Greater}
use Rattle.uug_talk.specs.Lines.{ended}
use Rattle.uug_taylor_text.specs.CommandLines.{FieldWords, FileWords}
use Rattle.uug_taylor_text.specs.ExecutionTexts.{execution_target, execution_temp, execution_text}
use Rattle.uug_taylor_text.specs.WorkOrder.{grade_of, work_order}

record AreGrades : Type 0 where
  usual : grade_of (codes "C.NCBAQriAAGAs") ≡ Some 78
  short : grade_of (codes "C.A") ≡ Some 65
  unwritten : grade_of (codes "TMP0000012345") ≡ None
  none : grade_of (codes "C.") ≡ None
  no_letter : grade_of (codes "C..x") ≡ None
  digits_first : work_order (codes "C.9x") (codes "C.Aa") ≡ Less
  capitals_first : work_order (codes "C.Nx") (codes "C.aa") ≡ Less
  by_name : work_order (codes "C.Nb") (codes "C.Na") ≡ Greater

grades : AreGrades
grades = record {
  usual = refl;
  short = refl;
  unwritten = refl;
  none = refl;
  no_letter = refl;
  digits_first = refl;
  capitals_first = refl;
  by_name = refl;
}

abbrev mail : (options : List ℕ) → FieldWords
mail options = record {
  source = codes "D.0001";
  target = codes "D.alphaN0001";
  user = codes "uucp";
  options = options;
}

abbrev copy : (notify : List ℕ) → FileWords
copy notify = record { temp = codes "D.0001"; mode = 438; notify = notify }

record AreExecutions : Type 0 where
  target : execution_target (codes "D.alphaN0001") ≡ Some (codes "X.alphaN0001")
  temp : execution_temp (codes "D.0001") ≡ Some (codes "D.X0001")
  other : execution_target (codes "~/x") ≡ None
  plain : execution_text (codes "alpha") (mail (codes "-C")) (copy []) (codes "rmail" ∷ codes "u" ∷ [])
      ≡ ended (codes "U uucp alpha") ++ ended (codes "F D.alphaN0001") ++ ended (codes "I D.alphaN0001") ++ ended (codes "C rmail u")
  asked : execution_text (codes "alpha") (mail (codes "-CNZR")) (copy (codes "a@b")) (codes "rmail" ∷ [])
      ≡ ended (codes "U uucp alpha") ++ ended (codes "F D.alphaN0001") ++ ended (codes "I D.alphaN0001") ++ ended (codes "N") ++ ended (codes "Z")
      ++ ended (codes "R a@b") ++ ended (codes "C rmail")

executions : AreExecutions
executions = record {
  target = refl;
  temp = refl;
  other = refl;
  plain = refl;
  asked = refl;
}
