use Rattle.std.proofs.Common.{length}
use Rattle.uug_taylor_run.proofs.large_files.tell_in.Given as goal

abbrev pub decreases-loop-line : goal.decreases-loop-line
decreases-loop-line g l = length l.rest
