-- What is said of numbers that differ, so that a wrong definition does not check.
use Rattle.std.proofs.Common.{◌≡◌, [], ◌∷◌, ◌++◌, codes, Some, None, refl}
use Rattle.std.specs.Fmt.{digits}
use Rattle.uug_session.specs.declared.end.End.TheVariants.{BadSequence, Done}
use Rattle.uug_session.specs.declared.phase.Phase.TheVariants.{Ended}
use Rattle.uug_observe.specs.NumberRemarks.{numbers_remark}

record AreSaid : Type 0 where
  both : numbers_remark (Ended BadSequence) (Some 5) (Some 17) ≡ codes "uucpair: the number of this end is 5, that of the other end 17 (write the same number to both number files, or remove both, while neither end runs)" ++ 10 ∷ []
  own : numbers_remark (Ended BadSequence) (Some 5) None ≡ codes "uucpair: the number of this end is 5 (write the same number to both number files, or remove both, while neither end runs)" ++ 10 ∷ []
  none : numbers_remark (Ended BadSequence) None None ≡ codes "uucpair: this end keeps no number (write the same number to both number files, or remove both, while neither end runs)" ++ 10 ∷ []
  done : numbers_remark (Ended Done) (Some 5) (Some 5) ≡ []

said : AreSaid
unfolding digits
said = record { both = refl; own = refl; none = refl; done = refl }
