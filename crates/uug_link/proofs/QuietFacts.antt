-- What a link that is quiet on repeats answers, worked out by hand and computed by the definitions: a wrong rule in them does
-- not check.
use Rattle.std.proofs.Common.{◌≡◌, true, false, [], ◌∷◌, refl}
use Rattle.uug_link.specs.State.{State, caller_state}
use Rattle.uug_link.specs.Step.{to_begin, bad_found, timed_out, only}
use Rattle.uug_packet.specs.Packet.{rj, rr, init_a, init_b, init_c}
use Rattle.uug_link.proofs.StandardFacts.{after, emitted, found}
use Rattle.uug_link.proofs.WindowFacts.{data_found}

-- it has announced a window of two, and taken two packets
abbrev two_taken : State
two_taken = after (caller_state (record { window = 2; size_code = 0; quiet = true; short = false }))
    (to_begin ∷ found (init_a 2) ∷ found (init_b 0) ∷ found (init_c 2) ∷ data_found 1 0 ∷ data_found 2 0 ∷ [])

-- the same, and a packet has come twice, or a broken one
abbrev one_twice : State
one_twice = after two_taken (data_found 2 0 ∷ [])

abbrev one_broken : State
one_broken = after two_taken (bad_found ∷ [])

pub record IsQuietOn : Type 0 where
  -- the packet taken last is acknowledged once more, one behind it is rejected, one ahead too
  pub last : emitted two_taken (data_found 2 0 ∷ []) ≡ only (rr 2) ∷ []
  pub older : emitted two_taken (data_found 1 0 ∷ []) ≡ only (rj 2) ∷ []
  pub ahead : emitted two_taken (data_found 4 0 ∷ []) ≡ only (rj 2) ∷ []
  -- the rest of a repeat is not answered, and where it begins anew it is, once
  pub repeat : emitted two_taken (data_found 1 0 ∷ data_found 2 0 ∷ []) ≡ only (rj 2) ∷ [] ∷ []
  pub anew : emitted two_taken (data_found 1 0 ∷ data_found 2 0 ∷ data_found 1 0 ∷ data_found 2 0 ∷ []) ≡
      only (rj 2) ∷ [] ∷ only (rr 2) ∷ [] ∷ []
  -- repeats are passed until one more than the window was taken
  pub passed : emitted one_twice (data_found 3 0 ∷ data_found 3 0 ∷ data_found 4 0 ∷ data_found 4 0 ∷ []) ≡
      only (rr 3) ∷ [] ∷ only (rr 4) ∷ [] ∷ []
  pub over : emitted one_twice (data_found 3 0 ∷ data_found 4 0 ∷ data_found 5 0 ∷ data_found 5 0 ∷ []) ≡
      only (rr 3) ∷ only (rr 4) ∷ only (rr 5) ∷ only (rr 5) ∷ []
  -- a broken packet is rejected, and again as soon as a packet was taken
  pub broken : emitted two_taken (bad_found ∷ bad_found ∷ []) ≡ only (rj 2) ∷ [] ∷ []
  pub once_more : emitted one_broken (data_found 3 0 ∷ bad_found ∷ []) ≡ only (rr 3) ∷ only (rj 3) ∷ []
  -- and behind a timeout all begins afresh
  pub late : emitted one_twice (timed_out ∷ data_found 2 0 ∷ []) ≡ [] ∷ only (rr 2) ∷ []

pub quiet_on : IsQuietOn
quiet_on = record {
  last = refl;
  older = refl;
  ahead = refl;
  repeat = refl;
  anew = refl;
  passed = refl;
  over = refl;
  broken = refl;
  once_more = refl;
  late = refl;
}
