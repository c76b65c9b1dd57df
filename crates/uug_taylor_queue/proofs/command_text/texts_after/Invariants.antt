use Rattle.std.proofs.Common.{◌≡◌, ◌++◌, drop, map}
use Rattle.uug_taylor_queue.specs.Rewriting.{shown_text, text_after}
use Rattle.uug_taylor_queue.proofs.command_text.texts_after.Given as goal

-- the texts so far, and those of the files behind, are all
abbrev pub invariant-loop-file : goal.invariant-loop-file
invariant-loop-file g l =
    map shown_text l.after.items ++ map (text_after l.gone l.left) (map shown_text (drop l.file-index l.files))
    ≡ map (text_after l.gone l.left) (map shown_text l.files)
