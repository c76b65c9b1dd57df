-- Digests that are known, so that a wrong definition does not check: of no byte, and the examples of FIPS 180-4.
use Rattle.std.proofs.Common.{◌≡◌, [], Some, None, codes, refl}
use Rattle.hex.proofs.OnLiterals.{hex_on_literals}
use Rattle.sha2.specs.Sha256.{compress, digest_bytes, first_words, hash_after, rounds, schedule, sha256}
use Rattle.uug_talk.specs.Digests.{digest_of, digest_text, hex_number, size_told, told_by_answer, told_by_order}

record AreTexts : Type 0 where
  empty : digest_text (digest_of []) ≡ codes "\"\" 0x00000000 sha256:e3b0c44298fc1c149afbf4c8996fb92427ae41e4649b934ca495991b7852b855"
  abc : digest_text (digest_of (codes "abc")) ≡ codes "\"\" 0x00000003 sha256:ba7816bf8f01cfea414140de5dae2223b00361a396177a9cb410ff61f20015ad"
  blocks : digest_text (digest_of (codes "abcdbcdecdefdefgefghfghighijhijkijkljklmklmnlmnomnopnopq"))
      ≡ codes "\"\" 0x00000038 sha256:248d6a61d20638b8e5c026930c3e6039a33ce45964ff2167f6ecedd419db06c1"

texts : AreTexts
unfolding hex_on_literals first_words schedule rounds compress hash_after digest_bytes sha256
texts = record { empty = refl; abc = refl; blocks = refl }

record AreNumbers : Type 0 where
  short : hex_number (codes "5") ≡ Some 5
  either_case : hex_number (codes "5dC") ≡ Some 1500
  zeros : hex_number (codes "000000000000000010") ≡ Some 16
  greatest : hex_number (codes "ffffffff") ≡ Some 4294967295
  too_great : hex_number (codes "100000000") ≡ None
  none : hex_number [] ≡ None
  sign : hex_number (codes "+5") ≡ None
  letter : hex_number (codes "5g") ≡ None
  front : size_told (codes "0x5dc") ≡ Some 1500
  no_front : size_told (codes "1500") ≡ None
  upper_front : size_told (codes "0X5dc") ≡ None
  front_alone : size_told (codes "0x") ≡ None
  dash : size_told (codes "-") ≡ None

numbers : AreNumbers
numbers = record {
  short = refl;
  either_case = refl;
  zeros = refl;
  greatest = refl;
  too_great = refl;
  none = refl;
  sign = refl;
  letter = refl;
  front = refl;
  no_front = refl;
  upper_front = refl;
  front_alone = refl;
  dash = refl;
}

record AreRead : Type 0 where
  order : told_by_order (codes "S x ~/y me - D.0 0644 \"\" 0x00000003 sha256:ba7816bf8f01cfea414140de5dae2223b00361a396177a9cb410ff61f20015ad")
      ≡ Some (digest_of (codes "abc"))
  copy : told_by_order (codes "S x y me -Cd D.0001 0644 me 0x3 sha256:BA7816BF8F01CFEA414140DE5DAE2223B00361A396177A9CB410FF61F20015AD more")
      ≡ Some (digest_of (codes "abc"))
  answer : told_by_answer (codes "RY 0644 \"\" 0x00000003 sha256:ba7816bf8f01cfea414140de5dae2223b00361a396177a9cb410ff61f20015ad")
      ≡ Some (digest_of (codes "abc"))

read : AreRead
unfolding hex_on_literals first_words schedule rounds compress hash_after digest_bytes sha256
read = record { order = refl; copy = refl; answer = refl }

-- what tells none
record AreNone : Type 0 where
  nothing : told_by_order (codes "S x y me - D.0 0644") ≡ None
  size : told_by_order (codes "S x y me -Cd D.0001 0644 \"\" 0x3") ≡ None
  short : told_by_order (codes "S x y me - D.0 0644 \"\" 0x3 sha256:ba7816bf") ≡ None
  other : told_by_order (codes "S x y me - D.0 0644 \"\" 0x3 sha1:ba7816bf8f01cfea414140de5dae2223b00361a396177a9cb410ff61f20015ad") ≡ None
  no_digit : told_by_order (codes "S x y me - D.0 0644 \"\" 0x3 sha256:ga7816bf8f01cfea414140de5dae2223b00361a396177a9cb410ff61f20015ad") ≡ None
  request : told_by_order (codes "R x y me - 0x3 sha256:ba7816bf8f01cfea414140de5dae2223b00361a396177a9cb410ff61f20015ad") ≡ None
  hang_up : told_by_order (codes "H") ≡ None
  taylor : told_by_answer (codes "RY 0644 0xc2") ≡ None
  yes : told_by_answer (codes "SY 0644 \"\" 0x3 sha256:ba7816bf8f01cfea414140de5dae2223b00361a396177a9cb410ff61f20015ad") ≡ None

none_told : AreNone
unfolding hex_on_literals
none_told = record { nothing = refl; size = refl; short = refl; other = refl; no_digit = refl; request = refl; hang_up = refl; taylor = refl; yes = refl }
