-- Numbers whose next one is known.
use Rattle.std.proofs.Common.{◌≡◌, [], codes, refl}
use Rattle.uug_taylor_text.specs.Sequence.{next_sequence}

record AreNext : Type 0 where
  nine : next_sequence (codes "0009") ≡ codes "000A"
  last_digit : next_sequence (codes "000Z") ≡ codes "0010"
  last : next_sequence (codes "ZZZZ") ≡ codes "0000"
  empty : next_sequence [] ≡ codes "0001"
  strange : next_sequence (codes "00a9") ≡ codes "0001"
  long : next_sequence (codes "00009") ≡ codes "0001"

next : AreNext
next = record {
  nine = refl;
  last_digit = refl;
  last = refl;
  empty = refl;
  strange = refl;
  long = refl;
}
