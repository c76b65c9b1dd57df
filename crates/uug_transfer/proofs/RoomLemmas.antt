-- Where less is on its way than before, there is room.
use Rattle.std.proofs.Common.{◌≡◌, ℕ, ◌+◌, ◌≤◌, arith}
use Rattle.uug_conversation.specs.Turns.{other}
use Rattle.uug_conversation.specs.declared.side.Side.{Side}
use Rattle.uug_conversation.specs.declared.side.Side.TheVariants.{Caller, Called}
use Rattle.uug_transfer.specs.Turns.{HasRoom}
use Rattle.uug_transfer.specs.declared.line.TheConstants.{UNREAD_MAX}

within_side : (before after : Side → ℕ) (at side : Side) (n : ℕ) → HasRoom before → after at + n ≡ before at
    → after (other at) ≡ before (other at) → after side ≤ UNREAD_MAX
within_side before after Caller Caller n room read same = omega (arith, room.within Caller)
within_side before after Caller Called n room read same = omega (arith, room.within Called)
within_side before after Called Caller n room read same = omega (arith, room.within Caller)
within_side before after Called Called n room read same = omega (arith, room.within Called)

pub room_where_read : (before after : Side → ℕ) (at : Side) (n : ℕ) → HasRoom before → after at + n ≡ before at
    → after (other at) ≡ before (other at) → HasRoom after
room_where_read before after at n room read same = record { within = λ side. within_side before after at side n room read same }
