use Rattle.std.proofs.Common.{◌≡◌, ◌++◌, drop, map}
use Rattle.uug_taylor_run.proofs.work.names_of.Given as goal

-- the names so far, and those behind, are all
abbrev pub invariant-loop-one : goal.invariant-loop-one
invariant-loop-one g l = l.names.items ++ map (λ one. one.name) (drop l.one-index l.unread) ≡ map (λ one. one.name) l.unread
