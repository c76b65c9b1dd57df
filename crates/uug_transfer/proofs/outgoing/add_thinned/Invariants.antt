use Rattle.std.proofs.Common.{◌≡◌, ◌++◌, drop}
use Rattle.uug_transfer.specs.Outgoing.{count_behind, outgoing_from}
use Rattle.uug_transfer.specs.Thinning.{thinned}
use Rattle.uug_transfer.proofs.outgoing.add_thinned.Given as goal

-- what has gone out, and what goes out of what remains of the entries that are left, is all that goes out
abbrev pub invariant-loop-i : goal.invariant-loop-i
invariant-loop-i g l = record {
  bytes : l.outgoing.items ++ outgoing_from l.injector.drop_every l.injector.flip_every l.injector.count
      (thinned l.injector.thinning (drop l.i l.outbox.entries))
      ≡ l.fn.outgoing.items ++ outgoing_from l.fn.injector.drop_every l.fn.injector.flip_every l.fn.injector.count
      (thinned l.fn.injector.thinning l.outbox.entries);
  count : count_behind l.injector.count (thinned l.injector.thinning (drop l.i l.outbox.entries))
      ≡ count_behind l.fn.injector.count (thinned l.fn.injector.thinning l.outbox.entries);
  drop_every : l.injector.drop_every ≡ l.fn.injector.drop_every;
  flip_every : l.injector.flip_every ≡ l.fn.injector.flip_every;
  thinning : l.injector.thinning ≡ l.fn.injector.thinning;
}
