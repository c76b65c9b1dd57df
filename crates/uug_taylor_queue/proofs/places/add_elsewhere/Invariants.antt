use Rattle.std.proofs.Common.{◌≡◌, ◌++◌, length}
use Rattle.uug_talk.specs.Words.{words}
use Rattle.uug_taylor_queue.specs.Places.{all_elsewhere}
use Rattle.uug_taylor_queue.proofs.places.add_elsewhere.Given as goal

-- the folders so far, and those that are left, are all
abbrev pub invariant-loop-folder : goal.invariant-loop-folder
invariant-loop-folder g l = l.found.items ++ all_elsewhere (words l.rest) ≡ l.fn.found.items ++ all_elsewhere (words l.fn.folders)

abbrev pub decreases-loop-folder : goal.decreases-loop-folder
decreases-loop-folder g l = length (words l.rest)
