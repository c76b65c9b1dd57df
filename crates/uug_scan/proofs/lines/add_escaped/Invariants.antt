use Rattle.std.proofs.Common.{◌≡◌, ◌++◌, drop, string_bytes}
use Rattle.uug_scan.specs.Detailed.{escaped}
use Rattle.uug_scan.proofs.lines.add_escaped.Given as goal

-- with the bytes that are left, the whole text is appended
abbrev pub invariant-loop-byte : goal.invariant-loop-byte
invariant-loop-byte g l = string_bytes l.lines ++ escaped (drop l.byte-index l.text) ≡ string_bytes l.fn.lines ++ escaped l.text
