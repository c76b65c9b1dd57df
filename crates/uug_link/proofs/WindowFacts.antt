-- Sending and receiving that was worked out by hand, computed by the definitions: a wrong rule in them does not check.
use Rattle.std.proofs.Common.{◌≡◌, ℕ, ◌-◌, Bool, true, false, List, [], ◌∷◌, drop, length, replicate, take, refl, arith}
use Rattle.uug_link.specs.State.{State, caller_state, HasRoom}
use Rattle.uug_link.specs.Step.{Event, to_begin, packet_found, bad_found, timed_out, to_send, to_close, Emission, nothing, taken, gave_up, ignored, only, step, next_number}
use Rattle.uug_link.specs.Terms.{smallest_code}
use Rattle.uug_packet.specs.Field.{canonical_front}
use Rattle.uug_packet.specs.Packet.{rj, srj, rr, init_a, init_b, init_c, close, carry}
use Rattle.uug_packet.specs.Checksum.{check}
use Rattle.uug_link.proofs.StandardFacts.{after, emitted, outcomes, found, bytes, times}

-- a link that has just come up, at size 32 and the window of the other end
abbrev come_up : ℕ → State
come_up window = after (caller_state (record { window = 7; size_code = 0; quiet = false; short = false }))
    (to_begin ∷ found (init_a window) ∷ found (init_b 0) ∷ found (init_c window) ∷ [])

-- a data packet goes out, and whether for the first time
abbrev out : Bool → (number ack : ℕ) → List ℕ → Emission
out first number ack message = record { packet = carry number ack 1 message; first = first }

-- a data packet comes, with an empty message
abbrev pub data_found : (number ack : ℕ) → Event
data_found number ack = packet_found (carry number ack 1 [])

abbrev sends : List ℕ → List Event
sends [] = []
sends (x ∷ xs) = to_send (x ∷ []) ∷ sends xs

-- ---- numbers go round, and the window holds

abbrev six_acknowledged : State
six_acknowledged = after (come_up 3)
    (to_send [] ∷ found (rr 1) ∷ to_send [] ∷ found (rr 2) ∷ to_send [] ∷ found (rr 3)
    ∷ to_send [] ∷ found (rr 4) ∷ to_send [] ∷ found (rr 5) ∷ to_send [] ∷ found (rr 6) ∷ [])

abbrev three_more : State
three_more = after six_acknowledged (sends (1 ∷ 2 ∷ 3 ∷ []))

pub record GoesRound : Type 0 where
  pub numbers : emitted six_acknowledged (sends (1 ∷ 2 ∷ 3 ∷ [])) ≡
      (out true 7 0 (1 ∷ []) ∷ []) ∷ (out true 0 0 (2 ∷ []) ∷ []) ∷ (out true 1 0 (3 ∷ []) ∷ []) ∷ []
  pub full : HasRoom three_more → ⊥
  -- an acknowledgement of a packet that isn't outstanding
  pub stray : step three_more (found (rr 3)) ≡ ignored three_more
  pub one_arrived : (after three_more (found (rr 7) ∷ [])).unacked ≡ (2 ∷ []) ∷ (3 ∷ []) ∷ []
  pub room : HasRoom (after three_more (found (rr 7) ∷ []))
  pub next : next_number (after three_more (found (rr 7) ∷ [])) ≡ 2

pub round : GoesRound
unfolding smallest_code
round = record {
  numbers = refl;
  full = λ h. omega (arith, h.1);
  stray = refl;
  one_arrived = refl;
  room = (refl, omega arith);
  next = refl;
}

-- ---- one reject for the expected packet

abbrev receiver : State
receiver = come_up 7

pub record RejectsOnce : Type 0 where
  pub bad : emitted receiver (bad_found ∷ bad_found ∷ timed_out ∷ bad_found ∷ []) ≡
      only (rj 0) ∷ [] ∷ [] ∷ only (rj 0) ∷ []
  pub bad_bytes : bytes (only (rj 0)) ≡ (0x10 ∷ 0x09 ∷ 0x9a ∷ 0xaa ∷ 0x10 ∷ 0x29 ∷ []) ∷ []
  pub out_of_order : emitted receiver (data_found 2 0 ∷ data_found 3 0 ∷ data_found 1 0 ∷ []) ≡
      only (rj 0) ∷ only (rr 0) ∷ only (rr 1) ∷ []
  pub taken_then : outcomes receiver (data_found 2 0 ∷ data_found 3 0 ∷ data_found 1 0 ∷ []) ≡
      nothing ∷ nothing ∷ taken ∷ []
  pub last_bytes : bytes (only (rr 0)) ≡ (0x10 ∷ 0x09 ∷ 0x8a ∷ 0xaa ∷ 0x20 ∷ 0x09 ∷ []) ∷ []

pub rejects : RejectsOnce
rejects = record { bad = refl; bad_bytes = refl; out_of_order = refl; taken_then = refl; last_bytes = refl }

-- ---- a repeat acknowledges what has come since

abbrev zeros : List ℕ
zeros = replicate 32 0

abbrev one_sent : State
one_sent = after receiver (to_send zeros ∷ [])

pub record IsFresher : Type 0 where
  pub sent : bytes (step receiver (to_send zeros)).emitted ≡ (0x10 ∷ 0x01 ∷ 0x0d ∷ 0x3a ∷ 0x88 ∷ 0xbe ∷ zeros) ∷ []
  pub again : bytes (step (after one_sent (data_found 1 0 ∷ [])) timed_out).emitted ≡
      (0x10 ∷ 0x01 ∷ 0x0e ∷ 0x3a ∷ 0x89 ∷ 0xbc ∷ zeros) ∷ []

pub fresher : IsFresher
unfolding check smallest_code
fresher = record { sent = refl; again = refl }

-- ---- all seven were taken, and all answers lost

abbrev seven_found : List Event
seven_found = data_found 1 0 ∷ data_found 2 0 ∷ data_found 3 0 ∷ data_found 4 0 ∷ data_found 5 0 ∷ data_found 6 0
    ∷ data_found 7 0 ∷ []

abbrev seven_sent : State
seven_sent = after (come_up 7) (times 7 (to_send []))

pub record AreTakenOnce : Type 0 where
  pub first : outcomes receiver seven_found ≡ times 7 taken
  pub repeats : (step seven_sent timed_out).emitted ≡
      out false 1 0 [] ∷ out false 2 0 [] ∷ out false 3 0 [] ∷ out false 4 0 [] ∷ out false 5 0 [] ∷ out false 6 0 []
      ∷ out false 7 0 [] ∷ []
  pub answers : emitted (after receiver seven_found) seven_found ≡ only (rj 7) ∷ times 6 (only (rr 7))
  pub not_again : outcomes (after receiver seven_found) seven_found ≡ times 7 nothing
  pub struck : (after seven_sent (timed_out ∷ found (rj 7) ∷ [])).unacked ≡ []
  pub quiet : emitted (after seven_sent (timed_out ∷ [])) (found (rj 7) ∷ times 6 (found (rr 7))) ≡ times 7 []

pub once : AreTakenOnce
unfolding smallest_code
once = record { first = refl; repeats = refl; answers = refl; not_again = refl; struck = refl; quiet = refl }

-- ---- a data packet acknowledges, whether it is taken or not

abbrev two_sent : State
two_sent = after receiver (sends (1 ∷ 2 ∷ []))

pub record AreAcknowledged : Type 0 where
  pub by_taken : (step two_sent (data_found 1 1)).state.unacked ≡ (2 ∷ []) ∷ []
  pub by_other : (step two_sent (data_found 3 2)).state.unacked ≡ []
  pub other_rejected : (step two_sent (data_found 3 2)).emitted ≡ only (rj 0)

pub both_ways : AreAcknowledged
both_ways = record { by_taken = refl; by_other = refl; other_rejected = refl }

-- ---- progress begins the count of timeouts anew, and nothing else does

abbrev seven_late : State
seven_late = after two_sent (times 7 timed_out)

abbrev counted : Event → ℕ
counted e = (step seven_late e).state.timeouts

pub record CountsTimeouts : Type 0 where
  pub late : seven_late.timeouts ≡ 7
  pub acknowledged : counted (found (rr 1)) ≡ 0
  pub taken : counted (data_found 1 0) ≡ 0
  pub stray : counted (found (rr 5)) ≡ 7
  pub nothing_new : counted (found (rj 0)) ≡ 7
  pub selected : counted (found (srj 1)) ≡ 7
  pub broken : counted bad_found ≡ 7
  pub out_of_order : counted (data_found 2 0) ≡ 7
  pub sent : counted (to_send []) ≡ 7
  pub eighth : outcomes (after seven_late (found (rr 5) ∷ [])) (timed_out ∷ []) ≡ gave_up ∷ []

pub counts : CountsTimeouts
counts = record {
  late = refl;
  acknowledged = refl;
  taken = refl;
  stray = refl;
  nothing_new = refl;
  selected = refl;
  broken = refl;
  out_of_order = refl;
  sent = refl;
  eighth = refl;
}

-- ---- a message goes out in the smallest field that holds it, whatever size the other end announced

abbrev at_4096 : State
at_4096 = after (caller_state (record { window = 7; size_code = 0; quiet = false; short = false }))
    (to_begin ∷ found (init_a 7) ∷ found (init_b 7) ∷ found (init_c 7) ∷ [])

-- the packet of so many zeros
abbrev zeros_out : ℕ → List Emission
zeros_out count = (step at_4096 (to_send (replicate count 0))).emitted

-- its first bytes behind the header
abbrev front : ℕ → List (List ℕ) → List ℕ
front count [] = []
front count (w ∷ ws) = take count (drop 6 w)

-- how many bytes it has behind the header
abbrev field_bytes : List (List ℕ) → ℕ
field_bytes [] = 0
field_bytes (w ∷ ws) = length w - 6

pub record AreSmall : Type 0 where
  pub none : bytes (zeros_out 0) ≡ (0x10 ∷ 0x01 ∷ 0xa1 ∷ 0x0e ∷ 0xc8 ∷ 0x66 ∷ 0x20 ∷ replicate 31 0) ∷ []
  pub filled : bytes (zeros_out 32) ≡ (0x10 ∷ 0x01 ∷ 0x0d ∷ 0x3a ∷ 0x88 ∷ 0xbe ∷ zeros) ∷ []
  pub one_more : (field_bytes (bytes (zeros_out 33)) ≡ 64) × (front 1 (bytes (zeros_out 33)) ≡ 0x1f ∷ [])
  pub half : zeros_out 2048 ≡ record { packet = carry 1 0 7 (replicate 2048 0); first = true } ∷ []
  pub behind_half : zeros_out 2049 ≡ record { packet = carry 1 0 8 (replicate 2049 0); first = true } ∷ []
  pub codes : (smallest_code 256 ≡ 4) × (smallest_code 257 ≡ 5) × (smallest_code 4096 ≡ 8)
  pub fronts : (canonical_front 255 ≡ 0xff ∷ 0x01 ∷ []) × (canonical_front 2047 ≡ 0xff ∷ 0x0f ∷ [])

pub small : AreSmall
unfolding check smallest_code
small = record {
  none = refl;
  filled = refl;
  one_more = (refl, refl);
  half = refl;
  behind_half = refl;
  codes = (refl, refl, refl);
  fronts = (refl, refl);
}

-- ---- rejects, with a window of four and four packets out

abbrev four_out : State
four_out = after (come_up 4) (sends (1 ∷ 2 ∷ 3 ∷ 4 ∷ []))

abbrev two_out : State
two_out = after four_out (found (rj 2) ∷ [])

pub record AreRejected : Type 0 where
  pub one : (step four_out (found (srj 4))).emitted ≡ out false 4 0 (4 ∷ []) ∷ []
  pub none_struck : (step four_out (found (srj 4))).state ≡ four_out
  pub no_such : step four_out (found (srj 7)) ≡ ignored four_out
  pub rest : (step four_out (found (rj 2))).emitted ≡ out false 3 0 (3 ∷ []) ∷ out false 4 0 (4 ∷ []) ∷ []
  pub two : two_out.unacked ≡ (3 ∷ []) ∷ (4 ∷ []) ∷ []
  pub stray : step two_out (found (rr 1)) ≡ ignored two_out
  pub both : (after two_out (found (rr 4) ∷ [])).unacked ≡ []

pub rejected : AreRejected
unfolding smallest_code
rejected = record {
  one = refl;
  none_struck = refl;
  no_such = refl;
  rest = refl;
  two = refl;
  stray = refl;
  both = refl;
}

-- an acknowledgement before anything was sent
pub too_early : step (come_up 4) (found (rr 5)) ≡ ignored (come_up 4)
too_early = refl

-- what is outstanding stays so when the link closes, and when it has ended
pub record StaysOut : Type 0 where
  pub closing : (after four_out (to_close ∷ [])).unacked ≡ four_out.unacked
  pub ended : (after four_out (to_close ∷ found close ∷ [])).unacked ≡ four_out.unacked

pub stays : StaysOut
stays = record { closing = refl; ended = refl }
