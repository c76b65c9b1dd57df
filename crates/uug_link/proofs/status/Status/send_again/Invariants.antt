use Rattle.std.proofs.Common.{◌≡◌, ◌+◌, ◌%◌, ◌≤◌, [], length, ◌++◌, map, drop}
use Rattle.uug_link.specs.Follows.{written}
use Rattle.uug_link.specs.Reactions.{state_of}
use Rattle.uug_link.specs.Slots.{AreSlots, messages_in}
use Rattle.uug_link.specs.Step.{data_packet, sent_again}
use Rattle.uug_packet.specs.Number.{number_of}
use Rattle.uug_link.proofs.status.Status.send_again.Given as goal

-- what is still to go out makes up what goes out, and there is room for it
abbrev pub invariant-loop-i : goal.invariant-loop-i
invariant-loop-i g l = record {
  slots : AreSlots (number_of l.fn.self.oldest) l.slots;
  messages : messages_in l.slots ≡ messages_in l.fn.slots;
  entries :
      l.out.entries
      ++ map written (sent_again (data_packet (state_of l.fn.self []))
      ((number_of l.fn.self.oldest + l.i) % 8) (drop l.i (messages_in l.fn.slots)))
      ≡ l.fn.out.entries
      ++ map written (sent_again (data_packet (state_of l.fn.self []))
      (number_of l.fn.self.oldest) (messages_in l.fn.slots));
  room : length l.fn.slots ≤ l.out.spare + l.i;
  kept : l.fn.out.spare ≤ l.out.spare + l.i;
}
