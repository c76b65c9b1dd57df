use Rattle.std.proofs.Common.{◌≡◌, ◌++◌, drop}
use Rattle.uug_taylor_queue.specs.OpenLines.{jobs_of}
use Rattle.uug_taylor_queue.proofs.command_file.jobs_of.Given as goal

-- the jobs so far, and those of the lines behind, are all
abbrev pub invariant-loop-line : goal.invariant-loop-line
invariant-loop-line g l = l.jobs.items ++ jobs_of (drop l.line-index l.lines) ≡ jobs_of l.lines
