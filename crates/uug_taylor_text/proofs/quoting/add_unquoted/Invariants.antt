use Rattle.std.proofs.Common.{◌≡◌, ◌++◌, length}
use Rattle.uug_taylor_text.specs.Quoting.{unquoted}
use Rattle.uug_taylor_text.proofs.quoting.add_unquoted.Given as goal

-- what was appended, and what the rest stands for, is what the word stands for
abbrev pub invariant-loop-byte : goal.invariant-loop-byte
invariant-loop-byte g l = l.text.items ++ unquoted l.rest ≡ l.fn.text.items ++ unquoted l.fn.word

abbrev pub decreases-loop-byte : goal.decreases-loop-byte
decreases-loop-byte g l = length l.rest
