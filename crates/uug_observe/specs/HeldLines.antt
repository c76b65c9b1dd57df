-- Spells the remark on a device that another run holds (this project's profile).
use Rattle.std.specs.Fmt.{decimal}
use Rattle.std.specs.Prelude.{ℕ, List, [], ◌++◌, codes}
use Rattle.uug_io_lock.specs.declared.holder.Holder.{Holder}
use Rattle.uug_io_lock.specs.declared.holder.Holder.TheVariants.{Process, Nobody, Unknown}
use Rattle.uug_scan.specs.Detailed.{escaped}
use Rattle.uug_talk.specs.Lines.{ended}

abbrev pub held_words : (number : ℕ) → (path : List ℕ) → List ℕ
held_words number path = codes "process " ++ (decimal number ++ (codes " holds it, by " ++ (escaped path ++ codes ": call again when that has ended")))

abbrev pub between : (front path behind : List ℕ) → List ℕ
between front path behind = front ++ (escaped path ++ behind)

-- by the holder of the lock file at this path
abbrev pub words_of : Holder → (path device : List ℕ) → List ℕ
words_of (Process number) path device = held_words number path
words_of Unknown path device = between (codes "by ") path (codes ", which names no process: remove that file if nobody uses the line")
words_of Nobody path device = between (codes "it has no lock file: fuser ") device (codes " shows who has it open")

abbrev pub held_remark : Holder → (path device : List ℕ) → List ℕ
held_remark holder path device = codes "uucpair: " ++ ended (words_of holder path device)
