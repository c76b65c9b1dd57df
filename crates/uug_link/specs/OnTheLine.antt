-- How two links read as the window machine: what the machine has as whole numbers stands on the line, and in a link,
-- modulo eight.
use Rattle.std.specs.Prelude.{◌≡◌, ℕ, ◌+◌, ◌%◌, ◌≤◌, Bool, true, false, if◌then◌else◌, List, [], ◌∷◌, length, drop, take, slice_get, Some, ⊤}
use Rattle.uug_link.specs.TwoLinks.{End}
use Rattle.uug_link.specs.WindowMachine.{Direction, Flying, data_at, acknowledgement}
use Rattle.uug_packet.specs.Packet.{close, rj, rr, init_c, init_b, init_a, PacketValue, control, carry}

-- the packets that start a link up and shut it down are no packets of the window
abbrev pub is_of_window : PacketValue → Bool
is_of_window (control close) = false
is_of_window (control (init_c y)) = false
is_of_window (control (init_b y)) = false
is_of_window (control (init_a y)) = false
is_of_window _ = true

abbrev pub of_window : List PacketValue → List PacketValue
of_window [] = []
of_window (p ∷ ps) = if is_of_window p then p ∷ of_window ps else of_window ps

-- A packet of the machine as a packet, where these messages were sent: the message at place n has the number n + 1. A
-- bare acknowledgement is RR or RJ. No link emits SRJ.
abbrev pub IsWritten : List (List ℕ) → Flying → PacketValue → Type 0
IsWritten sent (data_at n a) (carry seq ack k message) =
    (seq ≡ (n + 1) % 8) × (ack ≡ a % 8) × (slice_get sent n ≡ Some message)
IsWritten sent (acknowledgement a) (control (rr y)) = y ≡ a % 8
IsWritten sent (acknowledgement a) (control (rj y)) = y ≡ a % 8
IsWritten sent _ _ = ⊥

abbrev pub AreWritten : List (List ℕ) → List Flying → List PacketValue → Type 0
AreWritten sent [] [] = ⊤
AreWritten sent (x ∷ xs) (p ∷ ps) = IsWritten sent x p × AreWritten sent xs ps
AreWritten sent _ _ = ⊥

-- one direction of the machine, from one end to the other
pub record Reads (from to : End) (d : Direction) : Type 0 where
  pub sent : d.sent ≡ from.sent
  -- what counts as acknowledged, at the sender
  pub unacked : from.link.unacked ≡ drop d.acked from.sent
  pub oldest : from.link.oldest ≡ (d.acked + 1) % 8
  -- what was taken, at the receiver
  pub taken : to.taken ≡ take d.taken from.sent
  pub expected : to.link.expected ≡ (d.taken + 1) % 8
  -- what was emitted and neither found nor skipped
  pub passed : to.passed ≤ length from.emitted
  pub flight : AreWritten from.sent d.flight (of_window (drop to.passed from.emitted))
