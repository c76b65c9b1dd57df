-- The remark on a job that sends to the target of another one (this project's profile).
use Rattle.std.specs.Prelude.{ℕ, List, ◌++◌, codes}
use Rattle.uug_talk.specs.Lines.{ended}

abbrev pub rival_remark : (target : List ℕ) → List ℕ
rival_remark target = codes "uucpair: another job sends to " ++ (target ++ ended (codes ", and this one replaces its file"))
