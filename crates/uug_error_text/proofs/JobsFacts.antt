-- What is said of lines of jobs, so that a wrong definition does not check.
use Rattle.std.proofs.Common.{◌≡◌, [], ◌∷◌, ◌++◌, codes, refl}
use Rattle.std.specs.Fmt.{digits}
use Rattle.uug_error_text.specs.JobsWords.{jobs_remark}

record AreSaid : Type 0 where
  order : jobs_remark (codes "a") (codes "# mine" ++ (10 ∷ codes "put x y")) 2 ≡ codes "uucpair: a/jobs: line 2: \"put\" is neither send nor request" ++ 10 ∷ []
  few : jobs_remark (codes "a") (codes "send x") 1 ≡ codes "uucpair: a/jobs: line 1: TARGET and USER are missing" ++ 10 ∷ []
  many : jobs_remark (codes "a") (codes "send my file y me") 1 ≡ codes "uucpair: a/jobs: line 1: \"me\" is one word too many: names have no spaces" ++ 10 ∷ []
  name : jobs_remark (codes "a") (codes "send x " ++ (7 ∷ codes " me")) 1 ≡ codes "uucpair: a/jobs: line 1: \"\\x07\" is not a name: 1 to 200 printable characters" ++ 10 ∷ []
  carriage : jobs_remark (codes "a") (codes "send x y me" ++ (13 ∷ 10 ∷ codes "put")) 1 ≡ codes "uucpair: a/jobs: line 1: it ends in CR LF: end lines with LF alone" ++ 10 ∷ []
  tabbed : jobs_remark (codes "a") (codes "send x" ++ (9 ∷ codes "y me")) 1 ≡ codes "uucpair: a/jobs: line 1: it has a tab: separate words with spaces only" ++ 10 ∷ []
  other : jobs_remark (codes "a") (codes "put x y") 2 ≡ []
  good : jobs_remark (codes "a") (codes "send x y me") 1 ≡ []

said : AreSaid
unfolding digits
said = record { order = refl; few = refl; many = refl; name = refl; carriage = refl; tabbed = refl; other = refl; good = refl }
