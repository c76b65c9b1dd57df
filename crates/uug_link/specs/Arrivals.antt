-- The place of a packet that is found among those that the other end emitted.
use Rattle.std.specs.Prelude.{◌≡◌, ◌≢◌, ℕ, zero, suc, ◌-◌, ◌<◌, ◌≤◌, ◌==◌, Bool, true, false, ◌&&◌, if◌then◌else◌, List, [], ◌∷◌, ◌++◌, slice_get, Option, Some, None}
use Rattle.uug_link.specs.Step.{packet_found}
use Rattle.uug_link.specs.TwoLinks.{End, Happening, misses, hears, moved_by}
use Rattle.uug_packet.specs.Packet.{ControlValue, close, rj, srj, rr, init_c, init_b, init_a, PacketValue, control, carry}

-- ---- equal packets: they are compared as values, however they were spelled

abbrev pub same_message : List ℕ → List ℕ → Bool
same_message [] [] = true
same_message (x ∷ xs) (y ∷ ys) = (x == y) && same_message xs ys
same_message _ _ = false

abbrev pub same_control : ControlValue → ControlValue → Bool
same_control close close = true
same_control (rj x) (rj y) = x == y
same_control (srj x) (srj y) = x == y
same_control (rr x) (rr y) = x == y
same_control (init_c x) (init_c y) = x == y
same_control (init_b x) (init_b y) = x == y
same_control (init_a x) (init_a y) = x == y
same_control _ _ = false

abbrev pub same_packet : PacketValue → PacketValue → Bool
same_packet (control c) (control d) = same_control c d
same_packet (carry seq ack k message) (carry seq' ack' k' message') =
    ((seq == seq') && (ack == ack')) && ((k == k') && same_message message message')
same_packet _ _ = false

-- ---- places

-- the least place from `passed` on at which the packet stands
pub record IsPlace (p : PacketValue) (emitted : List PacketValue) (passed place : ℕ) : Type 0 where
  pub behind : passed ≤ place
  pub there : slice_get emitted place ≡ Some p
  pub least : (i : ℕ) → passed ≤ i → i < place → slice_get emitted i ≢ Some p

abbrev pub one_more : Option ℕ → Option ℕ
one_more None = None
one_more (Some i) = Some (suc i)

-- the first place, behind those that are skipped
abbrev pub place_of : PacketValue → List PacketValue → (passed : ℕ) → Option ℕ
place_of p [] passed = None
place_of p (q ∷ qs) zero = if same_packet p q then Some zero else one_more (place_of p qs zero)
place_of p (q ∷ qs) (suc passed) = one_more (place_of p qs passed)

-- the packet is found at an end, at a place among those that the other end emitted
abbrev pub arrived : PacketValue → (place : ℕ) → End → End
arrived p place e = record (moved_by e (packet_found p)) { passed = suc place }

-- the same, one packet after the other
abbrev pub repeated_misses : ℕ → List Happening
repeated_misses zero = []
repeated_misses (suc n) = misses ∷ repeated_misses n

abbrev pub as_happenings : PacketValue → (passed place : ℕ) → List Happening
as_happenings p passed place = repeated_misses (place - passed) ++ hears p ∷ []
