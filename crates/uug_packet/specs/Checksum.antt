-- The checksum of a field. Taylor UUCP manual, UUCP 'g' Protocol.
use Rattle.std.specs.Prelude.{ℕ, ◌+◌, ◌%◌, ◌^◌, ◌==◌, ◌||◌, nat_lt, if◌then◌else◌, List, [], ◌∷◌, length, fold, bit_xor}
use Rattle.std.specs.Int.{w16, rotate_left}
use Rattle.uug_packet.specs.declared.checksum.TheConstants.{CHECK_START}

-- each byte with its place, counted from the back: the last byte has the place 1
abbrev pub places : List ℕ → List (ℕ × ℕ)
places [] = []
places (b ∷ bytes) = (b, length (b ∷ bytes)) ∷ places bytes

-- the two registers of sixteen bits
pub record Registers : Type 0 where
  pub check : ℕ
  pub mixed : ℕ

-- What a byte and its place do to them. The check is rotated and the byte added; the second register takes up
-- what the check and the place differ in; it is mixed into the check where the byte is 0 or the addition wrapped.
abbrev pub after_byte : Registers → ℕ × ℕ → Registers
after_byte r at =
    let check = (rotate_left w16 r.check 1 + at.0) % 2 ^ 16 in
    let mixed = (r.mixed + bit_xor check (at.1 % 2 ^ 16)) % 2 ^ 16 in
    record {
      check = if at.0 == 0 || nat_lt check at.0 then bit_xor check mixed else check;
      mixed = mixed;
    }

-- the check of a field's bytes
unfoldable pub check : List ℕ → ℕ
check field = (fold after_byte (record { check = CHECK_START; mixed = 0 }) (places field)).check
