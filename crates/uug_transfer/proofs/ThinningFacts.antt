-- Worked examples of what is left out: a wrong rule does not check.
use Rattle.std.proofs.Common.{◌≡◌, [], ◌∷◌, true, false, refl}
use Rattle.uug_link.specs.Entries.{EntryValue, text, packet}
use Rattle.uug_packet.specs.Decoded.{decoded, header_at}
use Rattle.uug_transfer.specs.Thinning.{thinned}
use Rattle.uug_transfer.specs.declared.thinning.Thinning.TheVariants.{Nothing, Repeats, RepeatsAndAcks}

-- RR 1, RR 2 and RJ 2
abbrev rr_1 : EntryValue
rr_1 = packet (0x10 ∷ 0x09 ∷ 0x89 ∷ 0xaa ∷ 0x21 ∷ 0x0b ∷ []) false

abbrev rr_2 : EntryValue
rr_2 = packet (0x10 ∷ 0x09 ∷ 0x88 ∷ 0xaa ∷ 0x22 ∷ 0x09 ∷ []) false

abbrev rj_2 : EntryValue
rj_2 = packet (0x10 ∷ 0x09 ∷ 0x98 ∷ 0xaa ∷ 0x12 ∷ 0x29 ∷ []) false

abbrev rr_0 : EntryValue
rr_0 = packet (0x10 ∷ 0x09 ∷ 0x8a ∷ 0xaa ∷ 0x20 ∷ 0x09 ∷ []) false

-- a data packet of a field of one byte, which no real one is, that acknowledges 0, sent for the first time, and again
abbrev data_new : EntryValue
data_new = packet (0x10 ∷ 0x01 ∷ 0x38 ∷ 0x89 ∷ 0xe0 ∷ 0x50 ∷ 0x53 ∷ []) true

abbrev data_again : EntryValue
data_again = packet (0x10 ∷ 0x01 ∷ 0x38 ∷ 0x89 ∷ 0xe0 ∷ 0x50 ∷ 0x53 ∷ []) false

-- another one
abbrev other_new : EntryValue
other_new = packet (0x10 ∷ 0x01 ∷ 0x38 ∷ 0x89 ∷ 0xe0 ∷ 0x50 ∷ 0x54 ∷ []) true

abbrev other_again : EntryValue
other_again = packet (0x10 ∷ 0x01 ∷ 0x38 ∷ 0x89 ∷ 0xe0 ∷ 0x50 ∷ 0x54 ∷ []) false

abbrev final : EntryValue
final = text (0x10 ∷ 0x4f ∷ 0 ∷ [])

pub record AreThinned : Type 0 where
  -- of RRs in a row the last two remain
  pub rrs : thinned RepeatsAndAcks (rr_1 ∷ rr_1 ∷ rr_1 ∷ rr_2 ∷ rr_2 ∷ []) ≡ rr_2 ∷ rr_2 ∷ []
  pub two : thinned RepeatsAndAcks (rr_1 ∷ rr_2 ∷ []) ≡ rr_1 ∷ rr_2 ∷ []
  -- not where something stands between them
  pub apart : thinned RepeatsAndAcks (rr_1 ∷ rr_1 ∷ data_again ∷ rr_2 ∷ []) ≡ rr_1 ∷ rr_1 ∷ data_again ∷ rr_2 ∷ []
  -- in front of a new data packet that acknowledges the same none does
  pub data_says : thinned RepeatsAndAcks (rr_2 ∷ rr_1 ∷ rr_0 ∷ data_new ∷ []) ≡ data_new ∷ []
  pub data_says_less : thinned RepeatsAndAcks (rr_1 ∷ data_new ∷ []) ≡ rr_1 ∷ data_new ∷ []
  -- what is sent again acknowledges what it did
  pub data_said : thinned RepeatsAndAcks (rr_0 ∷ data_again ∷ []) ≡ rr_0 ∷ data_again ∷ []
  -- an RJ is no RR
  pub rejects : thinned RepeatsAndAcks (rr_1 ∷ rj_2 ∷ rj_2 ∷ rj_2 ∷ rr_2 ∷ []) ≡ rr_1 ∷ rj_2 ∷ rj_2 ∷ rj_2 ∷ rr_2 ∷ []
  pub rrs_remain : thinned Repeats (rr_1 ∷ rr_1 ∷ rr_2 ∷ []) ≡ rr_1 ∷ rr_1 ∷ rr_2 ∷ []
  -- a packet that goes out again goes out once
  pub again : thinned Repeats (data_again ∷ other_again ∷ data_again ∷ other_again ∷ []) ≡ data_again ∷ other_again ∷ []
  pub again_behind_new : thinned Repeats (data_new ∷ rr_1 ∷ data_again ∷ []) ≡ rr_1 ∷ data_again ∷ []
  -- and in the order in which the packets are expected, also where one was sent for the first time in front of those to be repeated
  pub in_order : thinned Repeats (other_new ∷ data_again ∷ other_again ∷ []) ≡ data_again ∷ other_again ∷ []
  -- one that is sent for the first time says nothing of an equal one in front: it is another
  pub new : thinned RepeatsAndAcks (data_again ∷ data_new ∷ []) ≡ data_again ∷ data_new ∷ []
  -- texts go, also equal ones
  pub texts : thinned RepeatsAndAcks (final ∷ final ∷ final ∷ []) ≡ final ∷ final ∷ final ∷ []
  -- an RR behind which a repeat that is left out stands remains
  pub between : thinned RepeatsAndAcks (rr_1 ∷ data_again ∷ rr_2 ∷ rr_2 ∷ data_again ∷ []) ≡ rr_1 ∷ rr_2 ∷ rr_2 ∷ data_again ∷ []
  pub nothing : thinned Nothing (rr_1 ∷ rr_2 ∷ rr_2 ∷ data_again ∷ data_again ∷ []) ≡ rr_1 ∷ rr_2 ∷ rr_2 ∷ data_again ∷ data_again ∷ []

pub worked : AreThinned
unfolding decoded header_at
worked = record {
  rrs = refl;
  two = refl;
  apart = refl;
  data_says = refl;
  data_says_less = refl;
  data_said = refl;
  rejects = refl;
  rrs_remain = refl;
  again = refl;
  again_behind_new = refl;
  in_order = refl;
  new = refl;
  texts = refl;
  between = refl;
  nothing = refl;
}
