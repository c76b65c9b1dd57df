use Rattle.std.proofs.Common.{◌≡◌, ◌++◌, drop, string_bytes}
use Rattle.uug_io_pending.specs.StatusJson.{failed_rest}
use Rattle.uug_io_pending.proofs.json.add_failed_rest.Given as goal

abbrev pub invariant-loop-job : goal.invariant-loop-job
invariant-loop-job g l = string_bytes l.text ++ failed_rest (drop l.job-index l.more) ≡ string_bytes l.fn.text ++ failed_rest l.more
