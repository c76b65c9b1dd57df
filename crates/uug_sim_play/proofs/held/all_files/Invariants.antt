use Rattle.std.proofs.Common.{◌≡◌, ◌++◌, map, drop}
use Rattle.uug_conversation.specs.PartialView.{partials_of}
use Rattle.uug_sim_play.specs.Numbers.{held_file}
use Rattle.uug_sim_play.proofs.held.all_files.Given as goal

abbrev pub invariant-loop-file : goal.invariant-loop-file
invariant-loop-file g l =
    l.held.items ++ map held_file (partials_of (drop l.file-index l.files)) ≡ map held_file (partials_of l.files)
