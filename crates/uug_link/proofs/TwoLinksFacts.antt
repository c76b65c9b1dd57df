-- A run of two links that was worked out by hand, from the start to the close: a wrong rule does not check.
use Rattle.std.proofs.Common.{false, ◌≡◌, List, [], ◌∷◌, Some, refl, arith}
use Rattle.uug_link.specs.Arrivals.{place_of}
use Rattle.uug_link.specs.State.{caller_state, called_state, IsUp}
use Rattle.uug_link.specs.Step.{to_begin, to_send, to_close}
use Rattle.uug_link.specs.Terms.{smallest_code}
use Rattle.uug_link.specs.TwoLinks.{Ends, Occurrence, at_near, at_far, moves, misses, hears, first_ends, AllMayOccur, after_occurrences}
use Rattle.uug_link.specs.declared.phase.Phase.TheVariants.{Halted}
use Rattle.uug_packet.specs.Packet.{PacketValue, close, rj, rr, init_a, init_b, init_c, control, carry}

-- the caller wants window 3 and size 64, the called end window 2 and size 32
abbrev begun : Ends
begun = first_ends (caller_state (record { window = 3; size_code = 1; quiet = false; short = false })) (called_state (record { window = 2; size_code = 0; quiet = false; short = false }))

abbrev caller_hears : PacketValue → Occurrence
caller_hears p = at_near (hears p)

abbrev called_hears : PacketValue → Occurrence
called_hears p = at_far (hears p)

abbrev start_up : List Occurrence
start_up = at_near (moves to_begin)
    ∷ called_hears (control (init_a 3)) ∷ caller_hears (control (init_a 2))
    ∷ called_hears (control (init_b 1)) ∷ caller_hears (control (init_b 0))
    ∷ called_hears (control (init_c 3)) ∷ caller_hears (control (init_c 2)) ∷ []

abbrev pub both_up : Ends
both_up = after_occurrences begun start_up

pub record AreUp : Type 0 where
  pub allowed : AllMayOccur begun start_up
  pub caller_up : IsUp both_up.near.link
  pub called_up : IsUp both_up.far.link

pub come_up : AreUp
come_up = record {
  allowed = (refl, (refl, (refl, (refl, (refl, (refl, (refl, tt)))))));
  caller_up = refl;
  called_up = refl;
}

-- the caller sends two messages, and the first is lost
abbrev one_lost : List Occurrence
one_lost = at_near (moves (to_send (1 ∷ []))) ∷ at_near (moves (to_send (2 ∷ []))) ∷ at_far misses
    ∷ called_hears (carry 2 0 1 (2 ∷ [])) ∷ []

abbrev pub rejected : Ends
rejected = after_occurrences both_up one_lost

pub record IsRejected : Type 0 where
  pub allowed : AllMayOccur both_up one_lost
  pub nothing_taken : rejected.far.taken ≡ []
  pub emitted : rejected.far.emitted ≡
      control (init_a 2) ∷ control (init_b 0) ∷ control (init_c 2) ∷ control (rj 0) ∷ []
  -- the packet that was found stands behind the one that was lost
  pub place : place_of (carry 2 0 1 (2 ∷ [])) rejected.near.emitted both_up.far.passed ≡ Some 4

pub rejects_it : IsRejected
unfolding smallest_code
rejects_it = record {
  allowed = (((refl, omega arith), omega arith), (((refl, omega arith), omega arith), (omega arith, (refl, tt))));
  nothing_taken = refl;
  emitted = refl;
  place = refl;
}

-- the called end sends a message, both are sent again and taken, the first answer is lost and the second strikes both
abbrev repaired : List Occurrence
repaired = at_far (moves (to_send (9 ∷ []))) ∷ caller_hears (control (rj 0))
    ∷ called_hears (carry 1 0 1 (1 ∷ [])) ∷ called_hears (carry 2 0 1 (2 ∷ []))
    ∷ caller_hears (carry 1 0 1 (9 ∷ [])) ∷ at_near misses ∷ caller_hears (control (rr 2))
    ∷ called_hears (control (rr 1)) ∷ []

abbrev pub talked : Ends
talked = after_occurrences rejected repaired

pub record IsRepaired : Type 0 where
  pub allowed : AllMayOccur rejected repaired
  pub called_took : talked.far.taken ≡ (1 ∷ []) ∷ (2 ∷ []) ∷ []
  pub caller_took : talked.near.taken ≡ (9 ∷ []) ∷ []
  pub caller_sent : talked.near.sent ≡ talked.far.taken
  pub called_sent : talked.far.sent ≡ talked.near.taken
  pub caller_clear : talked.near.link.unacked ≡ []
  pub called_clear : talked.far.link.unacked ≡ []

pub repair : IsRepaired
unfolding smallest_code
repair = record {
  allowed = (((refl, omega arith), omega arith), (refl, (refl, (refl, (refl, (omega arith, (refl, (refl, tt))))))));
  called_took = refl;
  caller_took = refl;
  caller_sent = refl;
  called_sent = refl;
  caller_clear = refl;
  called_clear = refl;
}

-- the caller closes, and both have ended
abbrev shut_down : List Occurrence
shut_down = at_near (moves to_close) ∷ called_hears (control close) ∷ caller_hears (control close) ∷ []

abbrev shut : Ends
shut = after_occurrences talked shut_down

pub record AreShut : Type 0 where
  pub allowed : AllMayOccur talked shut_down
  pub caller_ended : shut.near.link.phase ≡ Halted
  pub called_ended : shut.far.link.phase ≡ Halted
  pub caller_emitted : shut.near.emitted ≡
      control (init_a 3) ∷ control (init_b 1) ∷ control (init_c 3) ∷ carry 1 0 1 (1 ∷ []) ∷ carry 2 0 1 (2 ∷ [])
      ∷ carry 1 0 1 (1 ∷ []) ∷ carry 2 0 1 (2 ∷ []) ∷ control (rr 1) ∷ control close ∷ []
  pub called_emitted : shut.far.emitted ≡
      control (init_a 2) ∷ control (init_b 0) ∷ control (init_c 2) ∷ control (rj 0) ∷ carry 1 0 1 (9 ∷ [])
      ∷ control (rr 1) ∷ control (rr 2) ∷ control close ∷ []

pub close_down : AreShut
unfolding smallest_code
close_down = record {
  allowed = (refl, (refl, (refl, tt)));
  caller_ended = refl;
  called_ended = refl;
  caller_emitted = refl;
  called_emitted = refl;
}
