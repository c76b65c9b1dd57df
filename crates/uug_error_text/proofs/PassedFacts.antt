-- Works out the remarks on bytes past a greeting, so that a wrong definition does not check.
use Rattle.std.proofs.Common.{◌≡◌, [], ◌∷◌, ◌++◌, codes, false, true, refl}
use Rattle.std.specs.Fmt.{digits}
use Rattle.uug_error_text.specs.PassedWords.{passed_remark}

record AreSaid : Type 0 where
  none : passed_remark (record { count = 0; has_high = false; has_flow = false }) ≡ codes "uucpair: nothing came after the greeting (the other end is gone, or the line drops bytes: stty raw pass8, at both ends)" ++ 10 ∷ []
  seven : passed_remark (record { count = 6; has_high = false; has_flow = true }) ≡ codes "uucpair: 6 bytes came after the greeting, all seven-bit (the line has to pass eight bits: stty raw pass8, at both ends)" ++ 10 ∷ []
  flow : passed_remark (record { count = 1000; has_high = true; has_flow = false }) ≡ codes "uucpair: 1000 bytes came after the greeting, none of them XON or XOFF (flow control may drop these: stty raw -ixon -ixoff, at both ends)" ++ 10 ∷ []
  few : passed_remark (record { count = 999; has_high = true; has_flow = false }) ≡ []
  all : passed_remark (record { count = 1000; has_high = true; has_flow = true }) ≡ []

said : AreSaid
unfolding digits
said = record { none = refl; seven = refl; flow = refl; few = refl; all = refl }
