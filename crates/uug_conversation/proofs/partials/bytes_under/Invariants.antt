use Rattle.std.proofs.Common.{◌≡◌, drop}
use Rattle.uug_conversation.specs.Partials.{bytes_under}
use Rattle.uug_conversation.specs.PartialView.{key_of, partials_of}
use Rattle.uug_conversation.proofs.partials.bytes_under.Given as goal

abbrev pub invariant-loop-file : goal.invariant-loop-file
invariant-loop-file g l =
    bytes_under (key_of l.source l.told) (partials_of l.files) ≡ bytes_under (key_of l.source l.told) (partials_of (drop l.file-index l.files))
