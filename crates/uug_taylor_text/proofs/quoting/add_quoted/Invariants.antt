use Rattle.std.proofs.Common.{◌≡◌, ◌++◌, drop}
use Rattle.uug_taylor_text.specs.Quoting.{quoted}
use Rattle.uug_taylor_text.proofs.quoting.add_quoted.Given as goal

abbrev pub invariant-loop-byte : goal.invariant-loop-byte
invariant-loop-byte g l = l.word.items ++ quoted (drop l.byte-index l.name) ≡ l.fn.word.items ++ quoted l.name
