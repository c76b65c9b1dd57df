-- Bytes from outside, computed by the definitions: a wrong rule in them does not check. The packets are those of
-- a start-up with windows of three and size 64, and of its link.
use Rattle.std.proofs.Common.{◌≡◌, ◌-◌, [], ◌∷◌, ◌++◌, Err, refl, lit<, lit≤, inl, inr, replicate}
use Rattle.uug_packet.specs.declared.field.FieldKind.TheVariants as kinds
use Rattle.uug_packet.specs.Checksum.{check}
use Rattle.uug_packet.specs.Field.{field_size, canonical_field, canonical_front}
use Rattle.uug_packet.specs.Message.{message_start}
use Rattle.uug_packet.specs.declared.decoding.NoPacket.TheVariants.{Short, BadStart, BadK, BadXor, BadKind, BadSum, BadLength}
use Rattle.uug_packet.specs.Packet.{close, rj, srj, rr, init_c, init_b, init_a, control, carry}
use Rattle.uug_packet.specs.Spelling.{IsSpelling, canonical}
use Rattle.uug_packet.specs.Decoded.{header_at, decoded}

pub record AreWritten : Type 0 where
  pub init_a_3 : canonical (control (init_a 3)) ≡ 0x10 ∷ 0x09 ∷ 0x6f ∷ 0xaa ∷ 0x3b ∷ 0xf7 ∷ []
  pub init_b_1 : canonical (control (init_b 1)) ≡ 0x10 ∷ 0x09 ∷ 0x79 ∷ 0xaa ∷ 0x31 ∷ 0xeb ∷ []
  pub init_c_3 : canonical (control (init_c 3)) ≡ 0x10 ∷ 0x09 ∷ 0x7f ∷ 0xaa ∷ 0x2b ∷ 0xf7 ∷ []
  pub rr_1 : canonical (control (rr 1)) ≡ 0x10 ∷ 0x09 ∷ 0x89 ∷ 0xaa ∷ 0x21 ∷ 0x0b ∷ []
  pub rj_2 : canonical (control (rj 2)) ≡ 0x10 ∷ 0x09 ∷ 0x98 ∷ 0xaa ∷ 0x12 ∷ 0x29 ∷ []
  pub srj_2 : canonical (control (srj 2)) ≡ 0x10 ∷ 0x09 ∷ 0x90 ∷ 0xaa ∷ 0x1a ∷ 0x29 ∷ []
  pub closing : canonical (control close) ≡ 0x10 ∷ 0x09 ∷ 0xa2 ∷ 0xaa ∷ 0x08 ∷ 0x09 ∷ []

pub written : AreWritten
written = record {
  init_a_3 = refl;
  init_b_1 = refl;
  init_c_3 = refl;
  rr_1 = refl;
  rj_2 = refl;
  srj_2 = refl;
  closing = refl;
}

-- CLOSE may have another number beside it
pub close_with_five : IsSpelling (control close) (0x10 ∷ 0x09 ∷ 0x9d ∷ 0xaa ∷ 0x0d ∷ 0x33 ∷ [])
close_with_five = (0x0d, (5, lit< tt, refl), refl)

pub init_a_of_zero : IsSpelling (control (init_a 0)) (0x10 ∷ 0x09 ∷ 0x72 ∷ 0xaa ∷ 0x38 ∷ 0xe9 ∷ [])
init_a_of_zero = (0x38, (lit< tt, refl), refl)

pub record AreRefused : Type 0 where
  pub short : decoded (0x10 ∷ 0x09 ∷ []) ≡ Err Short
  pub start : decoded (0x11 ∷ []) ≡ Err BadStart
  pub k : decoded (0x10 ∷ 0x0a ∷ 0x00 ∷ 0x00 ∷ 0x00 ∷ 0x0a ∷ []) ≡ Err BadK
  pub xor : decoded (0x10 ∷ 0x09 ∷ 0x6f ∷ 0xaa ∷ 0x3b ∷ 0xf6 ∷ []) ≡ Err BadXor
  pub kind : decoded (0x10 ∷ 0x09 ∷ 0xaa ∷ 0xaa ∷ 0x00 ∷ 0x09 ∷ []) ≡ Err BadKind
  pub sum : decoded (0x10 ∷ 0x09 ∷ 0x6e ∷ 0xaa ∷ 0x3b ∷ 0xf6 ∷ []) ≡ Err BadSum

pub refused : AreRefused
unfolding decoded header_at
refused = record { short = refl; start = refl; k = refl; xor = refl; kind = refl; sum = refl }

-- where two refusals apply, the first in the order of the tests is the answer
pub record AreInOrder : Type 0 where
  pub short_before_k : decoded (0x10 ∷ 0x0a ∷ 0x00 ∷ 0x00 ∷ 0x00 ∷ []) ≡ Err Short
  pub k_before_xor : decoded (0x10 ∷ 0x0a ∷ 0x00 ∷ 0x00 ∷ 0x00 ∷ 0x00 ∷ []) ≡ Err BadK
  pub k_before_kind : decoded (0x10 ∷ 0x00 ∷ 0x00 ∷ 0x00 ∷ 0x40 ∷ 0x40 ∷ []) ≡ Err BadK
  pub k_before_cut : decoded (0x10 ∷ 0x00 ∷ 0x00 ∷ 0x00 ∷ 0x88 ∷ 0x88 ∷ []) ≡ Err BadK
  pub xor_before_kind : decoded (0x10 ∷ 0x09 ∷ 0xaa ∷ 0xaa ∷ 0x00 ∷ 0x08 ∷ []) ≡ Err BadXor
  pub xor_before_cut : decoded (0x10 ∷ 0x01 ∷ 0x0d ∷ 0x3a ∷ 0x88 ∷ 0xbf ∷ []) ≡ Err BadXor
  pub kind_before_sum : decoded (0x10 ∷ 0x09 ∷ 0x00 ∷ 0x00 ∷ 0x00 ∷ 0x09 ∷ []) ≡ Err BadKind
  pub kind_before_cut : decoded (0x10 ∷ 0x01 ∷ 0x00 ∷ 0x00 ∷ 0x48 ∷ 0x49 ∷ []) ≡ Err BadKind
  pub cut_before_sum : decoded ((0x10 ∷ 0x01 ∷ 0x0e ∷ 0x3a ∷ 0x88 ∷ 0xbd ∷ []) ++ replicate 31 0) ≡ Err Short
  pub sum_before_length : decoded ((0x10 ∷ 0x01 ∷ 0xce ∷ 0x39 ∷ 0xc8 ∷ 0x3e ∷ []) ++ replicate 32 0) ≡ Err BadSum

pub in_order : AreInOrder
unfolding decoded header_at check
in_order = record {
  short_before_k = refl;
  k_before_xor = refl;
  k_before_kind = refl;
  k_before_cut = refl;
  xor_before_kind = refl;
  xor_before_cut = refl;
  kind_before_sum = refl;
  kind_before_cut = refl;
  cut_before_sum = refl;
  sum_before_length = refl;
}

-- ---- the check of a field

pub record AreChecks : Type 0 where
  pub zero_byte : check (0x00 ∷ []) ≡ 0x0001
  pub two_bytes : check (0x41 ∷ 0x42 ∷ []) ≡ 0x0046
  pub two_zeros : check (0x00 ∷ 0x00 ∷ []) ≡ 0x0006
  pub two_ones : check (0xff ∷ 0xff ∷ []) ≡ 0x0103
  pub zeros : check (replicate 32 0) ≡ 0x7015
  pub empty_message : check (0x20 ∷ replicate 31 0) ≡ 0x9cc1

pub checks : AreChecks
unfolding check
checks = record { zero_byte = refl; two_bytes = refl; two_zeros = refl; two_ones = refl; zeros = refl; empty_message = refl }

-- ---- data packets

-- a message that fills its field, and an empty one
pub long_packet : canonical (carry 1 0 1 (replicate 32 0)) ≡ (0x10 ∷ 0x01 ∷ 0x0d ∷ 0x3a ∷ 0x88 ∷ 0xbe ∷ []) ++ replicate 32 0
unfolding check
long_packet = refl

pub empty_packet : canonical (carry 2 1 1 []) ≡ (0x10 ∷ 0x01 ∷ 0x9a ∷ 0x0e ∷ 0xd1 ∷ 0x44 ∷ 0x20 ∷ []) ++ replicate 31 0
unfolding check
empty_packet = refl

pub record AreFronts : Type 0 where
  pub all_of_128 : canonical_field 128 [] ≡ (0x80 ∷ 0x01 ∷ []) ++ replicate 126 0
  pub all_of_4096 : canonical_front (4096 - 0) ≡ 0x80 ∷ 0x20 ∷ []
  pub valid_3968 : canonical_front (4096 - 3968) ≡ 0x80 ∷ 0x01 ∷ []
  pub valid_3969 : canonical_front (4096 - 3969) ≡ 0x7f ∷ []

pub fronts : AreFronts
fronts = record { all_of_128 = refl; all_of_4096 = refl; valid_3968 = refl; valid_3969 = refl }

-- where the message begins: behind the header in a whole field, and behind one or two bytes more in a short one
pub record AreStarts : Type 0 where
  pub whole : message_start (0x10 ∷ 0x01 ∷ 0x0d ∷ 0x3a ∷ 0x88 ∷ 0xbe ∷ 0x00 ∷ []) ≡ 6
  pub one_byte : message_start (0x10 ∷ 0x01 ∷ 0xc4 ∷ 0x25 ∷ 0xea ∷ 0x0a ∷ 0x07 ∷ []) ≡ 7
  pub two_bytes : message_start (0x10 ∷ 0x01 ∷ 0xcf ∷ 0x2f ∷ 0xea ∷ 0x0b ∷ 0x87 ∷ []) ≡ 8

pub starts : AreStarts
starts = record { whole = refl; one_byte = refl; two_bytes = refl }

pub record AreSizes : Type 0 where
  pub least : field_size 1 ≡ 32
  pub most : field_size 8 ≡ 4096

pub sizes : AreSizes
sizes = record { least = refl; most = refl }

pub record AreDamaged : Type 0 where
  pub no_missing_byte : decoded ((0x10 ∷ 0x01 ∷ 0xcd ∷ 0x39 ∷ 0xc8 ∷ 0x3d ∷ []) ++ replicate 32 0) ≡ Err BadLength
  pub xor : decoded ((0x10 ∷ 0x01 ∷ 0x0d ∷ 0x3a ∷ 0x88 ∷ 0xbf ∷ []) ++ replicate 32 0) ≡ Err BadXor
  pub sum : decoded ((0x10 ∷ 0x01 ∷ 0x0e ∷ 0x3a ∷ 0x88 ∷ 0xbd ∷ []) ++ replicate 32 0) ≡ Err BadSum
  pub cut : decoded ((0x10 ∷ 0x01 ∷ 0x0d ∷ 0x3a ∷ 0x88 ∷ 0xbe ∷ []) ++ replicate 31 0) ≡ Err Short

pub damaged : AreDamaged
unfolding decoded header_at check
damaged = record { no_missing_byte = refl; xor = refl; sum = refl; cut = refl }

-- two other spellings of a message of 25 bytes: other padding, and a small number in two bytes
pub other_padding : IsSpelling (carry 5 2 1 (replicate 25 0x41)) ((0x10 ∷ 0x01 ∷ 0xc4 ∷ 0x25 ∷ 0xea ∷ 0x0a ∷ 0x07 ∷ []) ++ (replicate 25 0x41 ++ replicate 6 0x5a))
unfolding check
other_padding = record {
  kind = kinds.Short;
  field = (0x07 ∷ []) ++ (replicate 25 0x41 ++ replicate 6 0x5a);
  code = (lit≤ tt, lit≤ tt);
  seq_below = lit< tt;
  ack_below = lit< tt;
  holds = record {
    missing = 7;
    front = 0x07 ∷ [];
    padding = replicate 6 0x5a;
    fewer = refl;
    says = inl (lit≤ tt, lit≤ tt, refl);
    joined = refl;
    whole = refl;
  };
  joined = refl;
}

pub two_byte_front : IsSpelling (carry 5 2 1 (replicate 25 0x41)) ((0x10 ∷ 0x01 ∷ 0xcf ∷ 0x2f ∷ 0xea ∷ 0x0b ∷ 0x87 ∷ 0x00 ∷ []) ++ (replicate 25 0x41 ++ replicate 5 0x10))
unfolding check
two_byte_front = record {
  kind = kinds.Short;
  field = (0x87 ∷ 0x00 ∷ []) ++ (replicate 25 0x41 ++ replicate 5 0x10);
  code = (lit≤ tt, lit≤ tt);
  seq_below = lit< tt;
  ack_below = lit< tt;
  holds = record {
    missing = 7;
    front = 0x87 ∷ 0x00 ∷ [];
    padding = replicate 5 0x10;
    fewer = refl;
    says = inr (lit≤ tt, refl);
    joined = refl;
    whole = refl;
  };
  joined = refl;
}
