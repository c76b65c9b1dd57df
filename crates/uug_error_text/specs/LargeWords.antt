-- The words for a job's file that exceeds the limit of its own end (this project's profile).
use Rattle.std.specs.Fmt.{decimal}
use Rattle.std.specs.Prelude.{ℕ, List, ◌++◌, codes}
use Rattle.uug_talk.specs.Lines.{ended}

-- the escaped path, the size and the limit, as a line
abbrev pub large_line : (shown : List ℕ) → (size limit : ℕ) → List ℕ
large_line shown size limit =
    codes "uucpair: " ++ (shown ++ (codes ": " ++ (decimal size ++ (codes " bytes, over the limit of "
    ++ (decimal limit ++ ended (codes " (--file-limit); the job will be given up"))))))
