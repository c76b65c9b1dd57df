use Rattle.std.proofs.Common.{◌≡◌, ◌++◌, drop, map}
use Rattle.uug_taylor_queue.specs.Rewriting.{rewritten, shown_text}
use Rattle.uug_taylor_queue.proofs.command_text.rewritten.Given as goal

-- the texts so far, and those of the files behind, are all
abbrev pub invariant-loop-file : goal.invariant-loop-file
invariant-loop-file g l =
    map shown_text l.texts.items ++ rewritten l.gone l.left (map shown_text (drop l.file-index l.files))
    ≡ rewritten l.gone l.left (map shown_text l.files)
