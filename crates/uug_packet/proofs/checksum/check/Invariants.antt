use Rattle.std.proofs.Common.{◌≡◌, ◌+◌, length, drop}
use Rattle.std.specs.Prelude.{fold}
use Rattle.uug_packet.specs.Checksum.{places, after_byte}
use Rattle.uug_packet.specs.declared.checksum.TheConstants.{CHECK_START}
use Rattle.uug_packet.proofs.checksum.check.Given as goal

-- the fold over what is left gives what the fold over all gives, and the place is that of the next byte
abbrev pub invariant-loop-byte : goal.invariant-loop-byte
invariant-loop-byte l =
    (fold after_byte (record { check = l.check; mixed = l.mixed }) (places (drop l.byte-index l.field))
    ≡ fold after_byte (record { check = CHECK_START; mixed = 0 }) (places l.field))
    × (l.place + l.byte-index ≡ length l.field)
