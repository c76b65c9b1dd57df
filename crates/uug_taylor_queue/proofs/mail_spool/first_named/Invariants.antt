use Rattle.std.proofs.Common.{◌≡◌, map, drop}
use Rattle.uug_conversation.specs.MemoryHoldings.{first_named, kept_of}
use Rattle.uug_taylor_queue.proofs.mail_spool.first_named.Given as goal

abbrev pub invariant-loop-file : goal.invariant-loop-file
invariant-loop-file g l =
    first_named (map kept_of l.files) l.name ≡ first_named (map kept_of (drop l.file-index l.files)) l.name
