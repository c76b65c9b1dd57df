-- Positions that are known, so that a wrong definition does not check.
use Rattle.std.proofs.Common.{◌≡◌, codes, refl}
use Rattle.hex.proofs.OnLiterals.{hex_on_literals}
use Rattle.uug_talk.specs.Positions.{consent_text, position_told}

record AreWritten : Type 0 where
  first : consent_text 0 ≡ codes "SY"
  second : consent_text 1 ≡ codes "SY 0x00000001"
  later : consent_text 256 ≡ codes "SY 0x00000100"
  greatest : consent_text 4294967295 ≡ codes "SY 0xffffffff"

written : AreWritten
unfolding hex_on_literals
written = record { first = refl; second = refl; later = refl; greatest = refl }

record AreRead : Type 0 where
  alone : position_told (codes "SY") ≡ 0
  written : position_told (codes "SY 0x00000100") ≡ 256
  short : position_told (codes "SY 0x5dC more") ≡ 1500
  letters : position_told (codes " SYx  0x1") ≡ 1
  greatest : position_told (codes "SY 0xffffffff") ≡ 4294967295
  too_great : position_told (codes "SY 0x100000000") ≡ 0
  decimal : position_told (codes "SY 256") ≡ 0
  no_digit : position_told (codes "SY 0x") ≡ 0
  third_word : position_told (codes "SY - 0x100") ≡ 0
  refused : position_told (codes "SN2 0x100") ≡ 0
  given : position_told (codes "RY 0x100") ≡ 0
  lower : position_told (codes "sy 0x100") ≡ 0
  nothing : position_told (codes "") ≡ 0

read : AreRead
read = record {
  alone = refl;
  written = refl;
  short = refl;
  letters = refl;
  greatest = refl;
  too_great = refl;
  decimal = refl;
  no_digit = refl;
  third_word = refl;
  refused = refl;
  given = refl;
  lower = refl;
  nothing = refl;
}
