-- The step of a link that is not quiet on repeats: of what is kept of rejects only whether one has gone out counts.
use Rattle.std.specs.Prelude.{ℕ, ◌+◌, ◌%◌, if◌then◌else◌, None}
use Rattle.uug_link.specs.declared.phase.Phase.{Phase}
use Rattle.uug_link.specs.declared.phase.Phase.TheVariants.{Up}
use Rattle.uug_link.specs.State.{State, is_halted}
use Rattle.uug_link.specs.Step.{Effect, Event, packet_found, bad_found, acknowledged, answers, answers_halted, has_rejected, ignored, is_expected, last_received, nothing, rejecting, step, taken}
use Rattle.uug_packet.specs.Packet.{rr, carry}

-- the expected packet is taken; each other is rejected or, where a reject has gone out, answered with the last number
-- received
abbrev pub plain_number : ℕ → State → Effect
plain_number x s =
    if is_expected x s
    then answers (record s { expected = (s.expected + 1) % 8; reject_left = 0; passed = None; timeouts = 0 }) (rr x) taken
    else if has_rejected s then answers s (rr (last_received s)) nothing else rejecting s

abbrev pub plain_data : Phase → (seq ack : ℕ) → State → Effect
plain_data Up seq ack s = plain_number seq (acknowledged ack s)
plain_data _ seq ack s = ignored s

-- a reject that has gone out is enough for broken packets too
abbrev pub plain_bad : Phase → State → Effect
plain_bad Up s = if has_rejected s then ignored s else rejecting s
plain_bad _ s = ignored s

-- each other event does the same at every link
abbrev pub plain_step : State → Event → Effect
plain_step s (packet_found (carry seq ack k message)) =
    if is_halted s.phase then answers_halted s else plain_data s.phase seq ack s
plain_step s bad_found = if is_halted s.phase then answers_halted s else plain_bad s.phase s
plain_step s e = step s e
