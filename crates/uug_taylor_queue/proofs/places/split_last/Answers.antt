use Rattle.std.proofs.Common.{Some, None, sym, arith}
use Rattle.std.specs.Path.{slash}
use Rattle.uug_store.proofs.LastPlaceLemmas.{split_at_last}
use Rattle.uug_taylor_queue.proofs.places.split_last.Goals as goal

pub returns-in-Some : goal.returns-in-Some
returns-in-Some c = sym (split_at_last slash c.args.path.now (Some (c.in-Some.folder, c.in-Some.name)) c.in-Some.ensures.cases (omega arith))

pub returns-in-None : goal.returns-in-None
returns-in-None c = sym (split_at_last slash c.args.path.now None c.in-None.ensures.cases (omega arith))
