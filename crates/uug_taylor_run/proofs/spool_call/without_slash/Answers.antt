use Rattle.std.proofs.Common.{Some, None}
use Rattle.uug_taylor_run.proofs.PathLemmas.{slash_is_cut}
use Rattle.uug_taylor_run.proofs.spool_call.without_slash.Goals as goal

pub returns-in-Some : goal.returns-in-Some
returns-in-Some c = slash_is_cut c.args.path.now (Some c.in-Some.front) c.in-Some.ensures.cases

pub returns-in-None : goal.returns-in-None
returns-in-None c = slash_is_cut c.args.path.now None c.in-None.ensures.cases
