-- Starts and ends of links that were worked out by hand, computed by the definitions: a wrong rule in them does not
-- check.
use Rattle.std.proofs.Common.{◌≡◌, ℕ, false, zero, suc, List, [], ◌∷◌, ◌++◌, refl}
use Rattle.uug_link.specs.Terms.{size_of_code}
use Rattle.uug_link.specs.Entries.{bytes_of}
use Rattle.uug_link.specs.Follows.{written}
use Rattle.uug_link.specs.State.{State, caller_state, called_state, IsUp}
use Rattle.uug_link.specs.Step.{Event, to_begin, packet_found, timed_out, to_close, Emission, OutcomeValue, nothing, up, closed, gave_up, halted, ignored, only, step}
use Rattle.uug_packet.specs.Packet.{ControlValue, close, init_a, init_b, init_c, control}

-- ---- runs of one link

-- the state after some events
abbrev pub after : State → List Event → State
after s [] = s
after s (e ∷ es) = after (step s e).state es

-- what some events emit, by event
abbrev pub emitted : State → List Event → List (List Emission)
emitted s [] = []
emitted s (e ∷ es) = (step s e).emitted ∷ emitted (step s e).state es

-- what they answer
abbrev pub outcomes : State → List Event → List OutcomeValue
outcomes s [] = []
outcomes s (e ∷ es) = (step s e).outcome ∷ outcomes (step s e).state es

abbrev pub found : ControlValue → Event
found c = packet_found (control c)

abbrev pub bytes : List Emission → List (List ℕ)
bytes [] = []
bytes (e ∷ es) = bytes_of (written e) ∷ bytes es

abbrev pub all_bytes : List (List Emission) → List (List (List ℕ))
all_bytes [] = []
all_bytes (es ∷ more) = bytes es ∷ all_bytes more

-- ---- a caller with window 3 and size 64, and a called end with window 2 and size 32

abbrev caller : State
caller = caller_state (record { window = 3; size_code = 1; quiet = false; short = false })

abbrev called : State
called = called_state (record { window = 2; size_code = 0; quiet = false; short = false })

abbrev to_caller : List Event
to_caller = to_begin ∷ found (init_a 2) ∷ found (init_b 0) ∷ found (init_c 2) ∷ []

abbrev to_called : List Event
to_called = found (init_a 3) ∷ found (init_b 1) ∷ found (init_c 3) ∷ []

pub record AreStarted : Type 0 where
  pub caller_bytes : all_bytes (emitted caller to_caller) ≡
      ((0x10 ∷ 0x09 ∷ 0x6f ∷ 0xaa ∷ 0x3b ∷ 0xf7 ∷ []) ∷ []) ∷
      ((0x10 ∷ 0x09 ∷ 0x79 ∷ 0xaa ∷ 0x31 ∷ 0xeb ∷ []) ∷ []) ∷
      ((0x10 ∷ 0x09 ∷ 0x7f ∷ 0xaa ∷ 0x2b ∷ 0xf7 ∷ []) ∷ []) ∷ [] ∷ []
  pub called_bytes : all_bytes (emitted called to_called) ≡
      ((0x10 ∷ 0x09 ∷ 0x70 ∷ 0xaa ∷ 0x3a ∷ 0xe9 ∷ []) ∷ []) ∷
      ((0x10 ∷ 0x09 ∷ 0x7a ∷ 0xaa ∷ 0x30 ∷ 0xe9 ∷ []) ∷ []) ∷
      ((0x10 ∷ 0x09 ∷ 0x80 ∷ 0xaa ∷ 0x2a ∷ 0x09 ∷ []) ∷ []) ∷ []
  pub caller_outcomes : outcomes caller to_caller ≡ nothing ∷ nothing ∷ nothing ∷ up ∷ []
  pub called_outcomes : outcomes called to_called ≡ nothing ∷ nothing ∷ up ∷ []
  pub caller_up : IsUp (after caller to_caller)
  pub called_up : IsUp (after called to_called)
  pub caller_window : (after caller to_caller).window ≡ 2
  pub caller_size : size_of_code (after caller to_caller).size_code ≡ 32
  pub called_window : (after called to_called).window ≡ 3
  pub called_size : size_of_code (after called to_called).size_code ≡ 64

pub started : AreStarted
started = record {
  caller_bytes = refl;
  called_bytes = refl;
  caller_outcomes = refl;
  called_outcomes = refl;
  caller_up = refl;
  called_up = refl;
  caller_window = refl;
  caller_size = refl;
  called_window = refl;
  called_size = refl;
}

-- INITC comes once more, with another window: the answer is repeated and the window stays
pub record IsRepeated : Type 0 where
  pub again : bytes (step (after called to_called) (found (init_c 5))).emitted ≡
      (0x10 ∷ 0x09 ∷ 0x80 ∷ 0xaa ∷ 0x2a ∷ 0x09 ∷ []) ∷ []
  pub same : (step (after called to_called) (found (init_c 5))).state ≡ after called to_called

pub repeated_answer : IsRepeated
repeated_answer = record { again = refl; same = refl }

-- the smaller window of INITA and INITC is in force
pub smaller_window : (after called (found (init_a 7) ∷ found (init_b 1) ∷ found (init_c 2) ∷ [])).window ≡ 2
smaller_window = refl

-- a window of 0 is ignored
pub ignored_zero : step called (found (init_a 0)) ≡ ignored called
ignored_zero = refl

-- ---- timeouts and shut-down

abbrev begun : State
begun = (step caller to_begin).state

abbrev pub times : {A : Type 0} → ℕ → A → List A
times zero x = []
times (suc n) x = x ∷ times n x

pub record AreEnded : Type 0 where
  -- seven timeouts repeat INITA, the eighth emits CLOSE, and a ninth call emits nothing
  pub timeouts : emitted begun (times 9 timed_out) ≡ times 7 (only (init_a 3)) ++ only close ∷ [] ∷ []
  pub answers : outcomes begun (times 9 timed_out) ≡ times 7 nothing ++ gave_up ∷ halted ∷ []
  -- CLOSE is answered by CLOSE
  pub close_found : (step begun (found close)).emitted ≡ only close
  pub closed_then : (step begun (found close)).outcome ≡ closed
  -- an end that closes emits CLOSE, repeats it after a timeout, and answers none
  pub close_sent : emitted (after caller to_caller) (to_close ∷ timed_out ∷ found close ∷ found close ∷ []) ≡
      only close ∷ only close ∷ [] ∷ [] ∷ []
  pub close_outcomes : outcomes (after caller to_caller) (to_close ∷ timed_out ∷ found close ∷ found close ∷ []) ≡
      nothing ∷ nothing ∷ closed ∷ halted ∷ []

pub ended : AreEnded
ended = record {
  timeouts = refl;
  answers = refl;
  close_found = refl;
  closed_then = refl;
  close_sent = refl;
  close_outcomes = refl;
}
