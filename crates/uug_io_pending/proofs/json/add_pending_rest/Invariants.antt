use Rattle.std.proofs.Common.{◌≡◌, ◌++◌, drop, string_bytes}
use Rattle.uug_io_pending.specs.StatusJson.{pending_rest}
use Rattle.uug_io_pending.proofs.json.add_pending_rest.Given as goal

abbrev pub invariant-loop-job : goal.invariant-loop-job
invariant-loop-job g l = string_bytes l.text ++ pending_rest (drop l.job-index l.more) ≡ string_bytes l.fn.text ++ pending_rest l.more
