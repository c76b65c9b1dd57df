-- A call over a spool: its task, and a call that got no line (this project's profile).
use Rattle.std.specs.Borrow.{Bor}
use Rattle.std.specs.Prelude.{◌≡◌, ℕ, Bool, List, Option, Some, None, Result, Err}
use Rattle.uug_error.specs.declared.failure.Cause.{Cause}
use Rattle.uug_error.specs.declared.failure.Resource.{Resource}
use Rattle.uug_error.specs.declared.failure.Resource.TheVariants.{Line}
use Rattle.uug_error.specs.declared.run_fault.RunFault.{RunFault}
use Rattle.uug_error.specs.declared.run_fault.RunFault.TheVariants.{System}
use Rattle.uug_taylor_run.specs.declared.spool_call.SpoolCall.{SpoolCall}
use Rattle.uug_run.specs.SpoolLocks.{is_in_use}
use Rattle.uug_config.specs.Tasks.{IsTask}
use Rattle.uug_config.specs.declared.task.CallTask.{CallTask}

-- the name of a line in the log: the one that is given, or else that of the line
abbrev pub port_of : (port : Option (Bor (List ℕ))) (line : Bor (List ℕ)) → Bor (List ℕ)
port_of None line = line
port_of (Some port) line = port

-- the call has what the task of its end says
pub record IsCallOf (task : CallTask) (call : SpoolCall) : Type 0 where
  pub side : call.side ≡ task.side
  pub dir : call.dir ≡ task.dir
  pub port : call.port ≡ port_of task.spool.port task.line.name
  pub settings : call.settings ≡ task.settings
  pub bytes : call.allowance.bytes ≡ task.limits.most
  pub limit : IsTask task → call.allowance.limit.bytes ≡ task.limits.file_limit
  pub days : call.allowance.days ≡ task.limits.keep_days
  pub outputs : call.outputs ≡ task.outputs
  pub spool : call.spool ≡ task.spool

-- ---- without a line

abbrev pub line_fault_of : Resource → Cause → Option Bool
line_fault_of Line cause = Some (is_in_use cause)
line_fault_of resource cause = None

-- Whether another run has the line, if a call with this answer got no line.
abbrev pub line_fault : Result ℕ RunFault → Option Bool
line_fault (Err (System failure)) = line_fault_of failure.resource failure.cause
line_fault answer = None
