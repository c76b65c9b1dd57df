-- What a link does on each event: its next state, the packets that it emits, and what it answers.
-- Taylor UUCP manual, UUCP 'g' Protocol; what is this project's own profile is said beside it.
use Rattle.std.specs.Prelude.{ℕ, suc, pred, ◌+◌, ◌-◌, ◌%◌, min, ◌==◌, nat_lt, nat_le, Bool, true, false, if◌then◌else◌, Option, Some, None, List, [], ◌∷◌, ◌++◌, length, drop, slice_get, option_to_list}
use Rattle.uug_link.specs.declared.limits.TheConstants.{TIMEOUTS_MAX}
use Rattle.uug_link.specs.declared.phase.Phase.{Phase}
use Rattle.uug_link.specs.declared.phase.Phase.TheVariants.{AwaitsInitA, AwaitsInitB, AwaitsInitC, Up, Closing, Halted}
use Rattle.uug_link.specs.declared.phase.Role.{Role}
use Rattle.uug_link.specs.declared.phase.Role.TheVariants.{Caller, Called}
use Rattle.uug_link.specs.State.{State, is_halted}
use Rattle.uug_link.specs.Terms.{smallest_code}
use Rattle.uug_packet.specs.Packet.{ControlValue, close, rj, srj, rr, init_c, init_b, init_a, PacketValue, control, carry}

-- what may happen to a link: its caller begins it, sends a message or closes it; a packet was found in what came from
-- the other end, or a broken one; a timeout
pub data Event : Type 0 where
  to_begin : Event
  packet_found : PacketValue → Event
  bad_found : Event
  timed_out : Event
  to_send : (message : List ℕ) → Event
  to_close : Event

pub data OutcomeValue : Type 0 where
  nothing : OutcomeValue
  up : OutcomeValue
  taken : OutcomeValue
  closed : OutcomeValue
  gave_up : OutcomeValue
  halted : OutcomeValue

-- a packet that goes out, and whether it is a data packet that is sent for the first time
pub record Emission : Type 0 where
  pub packet : PacketValue
  pub first : Bool

pub record Effect : Type 0 where
  pub state : State
  pub emitted : List Emission
  pub outcome : OutcomeValue

-- the link is then so, with no packet and nothing to answer
abbrev pub quiet : State → Effect
quiet s = record { state = s; emitted = []; outcome = nothing }

abbrev pub ignored : State → Effect
ignored s = quiet s

-- one control packet
abbrev pub only : ControlValue → List Emission
only c = record { packet = control c; first = false } ∷ []

abbrev pub answers : State → ControlValue → OutcomeValue → Effect
answers s c outcome = record { state = s; emitted = only c; outcome = outcome }

-- ---- start-up: each end announces what the other shall use

abbrev pub own_init_a : State → ControlValue
own_init_a s = init_a s.own.window

abbrev pub own_init_b : State → ControlValue
own_init_b s = init_b s.own.size_code

abbrev pub own_init_c : State → ControlValue
own_init_c s = init_c s.own.window

-- a step of the start-up, or a close, is progress
abbrev pub moved : State → Phase → State
moved s phase = record s { phase = phase; timeouts = 0 }

-- A called end to which a packet comes once more repeats its answer, and keeps the values that it had (this
-- project's profile).
abbrev pub on_init_a : Role → Phase → ℕ → State → Effect
on_init_a Caller AwaitsInitA y s = answers (record (moved s AwaitsInitB) { window = y }) (own_init_b s) nothing
on_init_a Called AwaitsInitA y s = answers (record (moved s AwaitsInitB) { window = y }) (own_init_a s) nothing
on_init_a Called AwaitsInitB y s = answers s (own_init_a s) nothing
on_init_a _ _ y s = ignored s

abbrev pub on_init_b : Role → Phase → ℕ → State → Effect
on_init_b Caller AwaitsInitB y s = answers (record (moved s AwaitsInitC) { size_code = y }) (own_init_c s) nothing
on_init_b Called AwaitsInitB y s = answers (record (moved s AwaitsInitC) { size_code = y }) (own_init_b s) nothing
on_init_b Called AwaitsInitC y s = answers s (own_init_b s) nothing
on_init_b _ _ y s = ignored s

abbrev pub on_init_c : Role → Phase → ℕ → State → Effect
on_init_c Caller AwaitsInitC y s =
    record { state = record (moved s Up) { window = min s.window y }; emitted = []; outcome = up }
on_init_c Called AwaitsInitC y s = answers (record (moved s Up) { window = min s.window y }) (own_init_c s) up
on_init_c Called Up y s = answers s (own_init_c s) nothing
on_init_c _ _ y s = ignored s

-- ---- shut-down

abbrev pub halt : State → State
halt s = record s { phase = Halted }

-- CLOSE is answered by CLOSE, unless this end has sent it already (this project's profile)
abbrev pub on_close : Phase → State → Effect
on_close Closing s = record { state = halt s; emitted = []; outcome = closed }
on_close _ s = answers (halt s) close closed

-- ---- data packets that go out

-- the number of the last packet correctly received, which every data packet acknowledges as it goes out
abbrev pub last_received : State → ℕ
last_received s = (s.expected + 7) % 8

-- The data packet that carries a message, in the smallest field that holds it, whatever size the other end has announced
-- (this project's profile).
abbrev pub carrying : (number ack : ℕ) → (message : List ℕ) → PacketValue
carrying number ack message = carry number ack (smallest_code (length message)) message

abbrev pub data_packet : State → (number : ℕ) → (message : List ℕ) → PacketValue
data_packet s number message = carrying number (last_received s) message

-- messages that go out again, in order, in such packets, the first of them with that number
abbrev pub sent_again : (ℕ → List ℕ → PacketValue) → (number : ℕ) → List (List ℕ) → List Emission
sent_again packet_of number [] = []
sent_again packet_of number (message ∷ messages) =
    record { packet = packet_of number message; first = false } ∷ sent_again packet_of ((number + 1) % 8) messages

-- all outstanding packets, oldest first
abbrev pub outstanding : State → List Emission
outstanding s = sent_again (data_packet s) s.oldest s.unacked

-- how many steps lead from one number to the other
abbrev pub distance : (from to : ℕ) → ℕ
distance from to = (to + 8 - from) % 8

-- the packet of that number, if it is outstanding
abbrev pub selected : ℕ → State → List Emission
selected y s = sent_again (data_packet s) y (option_to_list (slice_get s.unacked (distance s.oldest y)))

-- the number that the next message gets
abbrev pub next_number : State → ℕ
next_number s = (s.oldest + length s.unacked) % 8

abbrev pub on_send : List ℕ → State → Effect
on_send message s = record {
  state = record s { unacked = s.unacked ++ message ∷ [] };
  emitted = record { packet = data_packet s (next_number s) message; first = true } ∷ [];
  outcome = nothing;
}

-- ---- acknowledgements

-- the oldest `count` messages have arrived
abbrev pub struck : ℕ → State → State
struck count s = record s { unacked = drop count s.unacked; oldest = (s.oldest + count) % 8; timeouts = 0 }

-- An acknowledgement of packet y strikes all up to it. One that strikes none, or of a packet that isn't outstanding,
-- changes nothing (this project's profile).
abbrev pub acknowledged : ℕ → State → State
acknowledged y s =
    let count = distance s.oldest (y + 1) in
    if count == 0 then s else if nat_lt (length s.unacked) count then s else struck count s

abbrev pub on_rr : Phase → ℕ → State → Effect
on_rr Up y s = quiet (acknowledged y s)
on_rr _ y s = ignored s

-- a reject is an acknowledgement, and asks for all that is then outstanding
abbrev pub on_rj : Phase → ℕ → State → Effect
on_rj Up y s =
    let left = acknowledged y s in
    record { state = left; emitted = outstanding left; outcome = nothing }
on_rj _ y s = ignored s

-- a selective reject asks for one packet, and acknowledges none
abbrev pub on_srj : Phase → ℕ → State → Effect
on_srj Up y s = record { state = s; emitted = selected y s; outcome = nothing }
on_srj _ y s = ignored s

-- ---- data packets that come

-- A reject makes the other end repeat at most a window of packets. So once one more than a window was taken, the last of
-- them was sent behind those repeats, and they are over.
abbrev pub until_over : State → ℕ
until_over s = suc s.own.window

-- One reject goes out for the expected packet, until it has come or a timeout passes (this project's profile).
abbrev pub rejecting : State → Effect
rejecting s = answers (record s { reject_left = until_over s }) (rj (last_received s)) nothing

abbrev pub has_rejected : State → Bool
has_rejected s = nat_lt 0 s.reject_left

-- one number alone is the expected one
abbrev pub is_expected : ℕ → State → Bool
is_expected x s = x == s.expected

-- what is left of a reject where a packet is taken: of an end that is quiet on repeats, one packet less
abbrev pub reject_left_after : State → ℕ
reject_left_after s = if s.own.quiet then pred s.reject_left else 0

-- ---- those that come out of order, at an end that is quiet on repeats (this project's profile)

-- how far a packet lies behind the last one that was taken
abbrev pub depth : ℕ → State → ℕ
depth x s = distance x (last_received s)

-- a repeat has begun anew: the packet is no younger than the one before it, and nothing was taken between
abbrev pub begins_anew : Option ℕ → ℕ → State → Bool
begins_anew None x s = false
begins_anew (Some y) x s = nat_le (depth y s) (depth x s)

-- it asks again, from that packet on
abbrev pub asks : ℕ → State → ControlValue → Effect
asks x s c = answers (record s { reject_left = until_over s; passed = Some x }) c nothing

-- Where nothing has told the other end, a packet is rejected; but the one that was taken last is acknowledged once more,
-- and so is the first of a repeat that has begun anew. The rest of a repeat is not answered.
abbrev pub on_repeat : ℕ → State → Effect
on_repeat x s =
    if has_rejected s
    then if begins_anew s.passed x s
    then asks x s (rr (last_received s))
    else quiet (record s { passed = Some x })
    else if x == last_received s then asks x s (rr (last_received s)) else asks x s (rj (last_received s))

-- ---- data packets by their numbers

-- another than the expected one is rejected or, where a reject has gone out, answered with the last number received
abbrev pub on_other : ℕ → State → Effect
on_other x s =
    if s.own.quiet then on_repeat x s
    else if has_rejected s then answers s (rr (last_received s)) nothing else rejecting s

-- the expected packet is taken
abbrev pub on_number : ℕ → State → Effect
on_number x s =
    if is_expected x s
    then answers
    (record s { expected = (s.expected + 1) % 8; reject_left = reject_left_after s; passed = None; timeouts = 0 })
    (rr x) taken
    else on_other x s

abbrev pub on_data : Phase → (seq ack : ℕ) → State → Effect
on_data Up seq ack s = on_number seq (acknowledged ack s)
on_data _ seq ack s = ignored s

-- whether the reject that has gone out is enough for a broken packet too; at an end that is quiet on repeats, only until the
-- next packet is taken
abbrev pub is_enough : State → Bool
is_enough s = if s.own.quiet then nat_lt s.own.window s.reject_left else has_rejected s

abbrev pub on_bad : Phase → State → Effect
on_bad Up s = if is_enough s then ignored s else rejecting s
on_bad _ s = ignored s

-- ---- packets

-- a window of 0 is ignored (this project's profile)
abbrev pub on_control : ControlValue → State → Effect
on_control close s = on_close s.phase s
on_control (init_a y) s = if y == 0 then ignored s else on_init_a s.role s.phase y s
on_control (init_b y) s = on_init_b s.role s.phase y s
on_control (init_c y) s = if y == 0 then ignored s else on_init_c s.role s.phase y s
on_control (rj y) s = on_rj s.phase y s
on_control (srj y) s = on_srj s.phase y s
on_control (rr y) s = on_rr s.phase y s

abbrev pub on_packet : PacketValue → State → Effect
on_packet (control c) s = on_control c s
on_packet (carry seq ack k message) s = on_data s.phase seq ack s

-- ---- timeouts

-- what goes out again at a timeout (this project's profile)
abbrev pub repeated : Role → Phase → State → List Emission
repeated Caller AwaitsInitA s = only (own_init_a s)
repeated Caller AwaitsInitB s = only (own_init_b s)
repeated Caller AwaitsInitC s = only (own_init_c s)
repeated _ Up s = outstanding s
repeated _ Closing s = only close
repeated _ _ s = []

-- The eighth timeout in a row without progress ends the link, with the count at eight (this project's profile).
abbrev pub on_timeout : State → Effect
on_timeout s =
    if nat_lt (s.timeouts + 1) TIMEOUTS_MAX
    then record {
      state = record s { timeouts = s.timeouts + 1; reject_left = 0 };
      emitted = repeated s.role s.phase s;
      outcome = nothing;
    }
    else answers (record s { phase = Halted; timeouts = TIMEOUTS_MAX; reject_left = 0 }) close gave_up

-- ---- the step

-- `to_begin` comes only to a link that is fresh, `to_send` to one that has room, with a message that fits, and `to_close`
-- to one that is up.
abbrev pub on_event : Event → State → Effect
on_event to_begin s = answers (record s { phase = AwaitsInitA }) (own_init_a s) nothing
on_event (packet_found p) s = on_packet p s
on_event bad_found s = on_bad s.phase s
on_event timed_out s = on_timeout s
on_event (to_send message) s = on_send message s
on_event to_close s = answers (moved s Closing) close nothing

-- nothing happens to a link that has ended
abbrev pub answers_halted : State → Effect
answers_halted s = record { state = s; emitted = []; outcome = halted }

abbrev pub step : State → Event → Effect
step s event = if is_halted s.phase then answers_halted s else on_event event s
