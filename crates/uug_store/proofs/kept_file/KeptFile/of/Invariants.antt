use Rattle.std.proofs.Common.{◌≡◌, map, take}
use Rattle.std.specs.declared.snapshot.Snapshot.{Snapshot}
use Rattle.uug_store.proofs.kept_file.KeptFile.of.Given as goal

abbrev pub invariant-loop-byte : goal.invariant-loop-byte
invariant-loop-byte g l = map (λ (b : Snapshot _). b.value) l.seen.items ≡ take l.byte-index l.bytes
