use Rattle.std.proofs.Common.{◌≡◌, ◌++◌, drop, string_bytes}
use Rattle.uug_io_pending.specs.StatusJson.{bytes_words}
use Rattle.uug_io_pending.proofs.json.add_bytes.Given as goal

abbrev pub invariant-loop-byte : goal.invariant-loop-byte
invariant-loop-byte g l = string_bytes l.text ++ bytes_words (drop l.byte-index l.bytes) ≡ string_bytes l.fn.text ++ bytes_words l.bytes
