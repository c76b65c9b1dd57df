use Rattle.std.proofs.Common.{sym, arith}
use Rattle.std.proofs.lemmas.List.{append-nil, length-map}
use Rattle.uug_link.specs.Reactions.{state_of}
use Rattle.uug_link.specs.Slots.{message_in, messages_in}
use Rattle.uug_packet.specs.Number.{number_of}
use Rattle.uug_link.proofs.RepeatLemmas.{selected-none}
use Rattle.uug_link.proofs.status.Status.send_selected.Goals as goal

pub returns-else-place-len-clause-emitted : goal.returns-else-place-len-clause-emitted
returns-else-place-len-clause-emitted g c =
    let none = selected-none (state_of c.args.self (messages_in c.args.slots.now)) (number_of c.args.number) c.place_of-place.result
    c.place_of-place.ensures
    (omega (arith, c.if-place-len.false, c.len.ensures.count, length-map c.args.slots.now message_in)) in
    rw (none) (sym (append-nil c.args.out.now.entries))
