use Rattle.std.proofs.Common.{arith}
use Rattle.uug_link.proofs.RepeatLemmas.{length-all_out}
use Rattle.uug_link.proofs.status.Status.emit.Goals as goal

pub send_again-requires-clause-room : goal.send_again-requires-clause-room
send_again-requires-clause-room g c =
    omega (arith, c.requires.room, length-all_out c.args.self c.args.emits c.args.slots.now c.in-Outstanding.is)

pub returns-in-Outstanding-clause-spare : goal.returns-in-Outstanding-clause-spare
returns-in-Outstanding-clause-spare g c =
    omega (arith, c.send_again.ensures.spare, length-all_out c.args.self c.args.emits c.args.slots.now c.in-Outstanding.is)
