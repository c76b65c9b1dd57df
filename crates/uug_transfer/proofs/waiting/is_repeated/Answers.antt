use Rattle.std.proofs.Common.{sym}
use Rattle.uug_transfer.proofs.WaitingLemmas.{repeated_at, repeated_long, repeated_short}
use Rattle.uug_transfer.proofs.waiting.is_repeated.Goals as goal

pub returns-in-Text : goal.returns-in-Text
returns-in-Text g c = sym (repeated_at c.args.outbox.now.entries c.args.i _ c.in-Text.ensures)

pub returns-then-bytes-gt-HEADER_SIZE : goal.returns-then-bytes-gt-HEADER_SIZE
returns-then-bytes-gt-HEADER_SIZE g c =
    repeated_long c.args.outbox.now.entries c.args.i _ _ _ c.in-Packet.ensures c.if-bytes-gt-HEADER_SIZE.true c.goes_out_again.ensures

pub returns-else-bytes-gt-HEADER_SIZE : goal.returns-else-bytes-gt-HEADER_SIZE
returns-else-bytes-gt-HEADER_SIZE g c =
    repeated_short c.args.outbox.now.entries c.args.i _ _ c.in-Packet.ensures c.if-bytes-gt-HEADER_SIZE.false
