use Rattle.std.proofs.Common.{◌≡◌, length}
use Rattle.uug_talk.specs.Words.{words}
use Rattle.uug_taylor_queue.specs.FolderRules.{allowed_by, is_allowed}
use Rattle.uug_taylor_queue.proofs.folder_rules.is_allowed.Given as goal

-- the folders that are left decide
abbrev pub invariant-loop-rule : goal.invariant-loop-rule
invariant-loop-rule l = allowed_by l.is_allowed (words l.rest) l.path ≡ is_allowed l.fn.folders l.path

abbrev pub decreases-loop-rule : goal.decreases-loop-rule
decreases-loop-rule l = length (words l.rest)
