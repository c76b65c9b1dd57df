use Rattle.std.proofs.Common.{◌≡◌, ◌++◌, drop, string_bytes}
use Rattle.uug_io_pending.specs.StatusJson.{held_rest}
use Rattle.uug_io_pending.proofs.json.add_held_rest.Given as goal

abbrev pub invariant-loop-file : goal.invariant-loop-file
invariant-loop-file g l = string_bytes l.text ++ held_rest (drop l.file-index l.more) ≡ string_bytes l.fn.text ++ held_rest l.more
