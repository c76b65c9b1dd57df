-- What is spelled or read is a well-formed packet, and a well-formed packet is written and read again.
use Rattle.std.proofs.Common.{◌≡◌, ◌≢◌, ℕ, ◌-◌, ◌≤◌, ◌==◌, Bool, true, false, if◌then◌else◌, List, [], length, length-take, drop, slice_index, Ok, refl, sym, ap, subst, ◌∙◌, arith}
use Rattle.std.proofs.lemmas.Bool.Decides.{nat_tests}
use Rattle.std.proofs.lemmas.List.{append-nil}
use Rattle.uug_packet.specs.declared.field.FieldKind.{FieldKind}
use Rattle.uug_packet.specs.declared.field.FieldKind.TheVariants.{Long, Short}
use Rattle.uug_packet.specs.declared.header.Header.{Header}
use Rattle.uug_packet.specs.declared.header.TheConstants.{CONTROL_K, HEADER_SIZE}
use Rattle.uug_packet.specs.Decoded.{header_at, control_decoded, data_decoded, decoded, message_at, valid_bytes}
use Rattle.uug_packet.specs.Field.{field_size, front_size}
use Rattle.uug_packet.specs.Packet.{ControlValue, close, rj, srj, rr, init_c, init_b, init_a, PacketValue, control, carry}
use Rattle.uug_packet.specs.Spelling.{IsControlByte, IsSpelling, canonical}
use Rattle.uug_packet.specs.WellFormed.{HasNumber, IsWellFormed}
use Rattle.uug_packet.proofs.DecodedLemmas.{bind_ok, decoded-spelling, spells-written, fits-holds, IsControlByte-control_of, DecodesControl, decodes_control, DecodesData, decodes_data}
use Rattle.uug_packet.proofs.FieldLemmas.{is_valid}
use Rattle.uug_packet.proofs.HeaderLemmas.{tested}

-- ---- what is spelled

HasNumber-byte : (p : ControlValue) (c : ℕ) → IsControlByte p c → HasNumber p
HasNumber-byte close c h = tt
HasNumber-byte (rj y) c h = h.0
HasNumber-byte (srj y) c h = h.0
HasNumber-byte (rr y) c h = h.0
HasNumber-byte (init_c y) c h = h.0
HasNumber-byte (init_b y) c h = h.0
HasNumber-byte (init_a y) c h = h.0

pub IsWellFormed-spelled : (p : PacketValue) (w : List ℕ) → IsSpelling p w → IsWellFormed p
IsWellFormed-spelled (control p) w h = HasNumber-byte p h.0 h.1
IsWellFormed-spelled (carry seq ack k message) w h =
    (h.seq_below, h.ack_below, (h.code, fits-holds h.kind (field_size k) message h.field h.holds))

-- ---- what is read, of whatever numbers the list is

short_fits : (field : List ℕ) (front missing : ℕ) (message : List ℕ) → valid_bytes field front missing ≡ Ok message
    → length message ≤ length field
short_fits field front missing message e =
    let v = is_valid field front missing message e in
    omega (arith, ap length v.message_is, length-take (length field - missing) (drop front field))

message_fits : (kind : FieldKind) (field message : List ℕ) → message_at kind field ≡ Ok message
    → length message ≤ length field
message_fits Long field message e = let same : field ≡ message = cc in omega (arith, ap length same)
message_fits Short field message e = short_fits field (front_size (slice_index field 0)) _ message e

control_read : (h : Header) (p : PacketValue) (n : ℕ) → DecodesControl h p n → IsWellFormed p
control_read h p n d =
    subst IsWellFormed (sym d.packet_is) (HasNumber-byte d.kind h.control (IsControlByte-control_of d.kind h.control d.says))

data_read : (h : Header) (rest : List ℕ) (p : PacketValue) (n : ℕ) → 1 ≤ h.k → h.k ≤ CONTROL_K → h.k ≢ CONTROL_K
    → DecodesData h rest p n → IsWellFormed p
data_read h rest p n low high other d =
    let size : length d.field ≤ field_size h.k =
    omega (arith, ap length d.field_is, length-take (field_size h.k) rest) in
    subst IsWellFormed (sym d.packet_is)
    (omega arith, omega arith, ((low, omega (arith, high, other)), omega (arith, size, message_fits d.kind d.field d.message d.valid)))

part_read : (s : List ℕ) (h : Header) (p : PacketValue) (n : ℕ) → 1 ≤ h.k → h.k ≤ CONTROL_K → (b : Bool)
    → (h.k == CONTROL_K) ≡ b → (if b then control_decoded h else data_decoded h (drop HEADER_SIZE s)) ≡ Ok (p, n)
    → IsWellFormed p
part_read s h p n low high true k e = control_read h p n (decodes_control h p n e)
part_read s h p n low high false k e =
    let other : h.k ≢ CONTROL_K = grind (arith, nat_tests) in
    data_read h (drop HEADER_SIZE s) p n low high other (decodes_data h (drop HEADER_SIZE s) p n e)

pub IsWellFormed-decoded : (s : List ℕ) (p : PacketValue) (n : ℕ) → decoded s ≡ Ok (p, n) → IsWellFormed p
unfolding decoded
IsWellFormed-decoded s p n e =
    let step = bind_ok (header_at s) _ (p, n) e in
    let t = tested s step.0 step.1 in
    part_read s step.0 p n t.k_low t.k_high (step.0.k == CONTROL_K) refl step.2

-- ---- what is written

pub IsSpelling-well_formed : (p : PacketValue) → IsWellFormed p → IsSpelling p (canonical p)
IsSpelling-well_formed (control close) h = (8, (0, omega arith, refl), refl)
IsSpelling-well_formed (control (rj y)) h = (_, (h, refl), refl)
IsSpelling-well_formed (control (srj y)) h = (_, (h, refl), refl)
IsSpelling-well_formed (control (rr y)) h = (_, (h, refl), refl)
IsSpelling-well_formed (control (init_c y)) h = (_, (h, refl), refl)
IsSpelling-well_formed (control (init_b y)) h = (_, (h, refl), refl)
IsSpelling-well_formed (control (init_a y)) h = (_, (h, refl), refl)
IsSpelling-well_formed (carry seq ack k message) h = spells-written seq ack k message h.2.0 h.0 h.1 h.2.1

pub decoded-well_formed : (p : PacketValue) → IsWellFormed p → decoded (canonical p) ≡ Ok (p, length (canonical p))
decoded-well_formed p h =
    ap decoded (sym (append-nil (canonical p))) ∙ decoded-spelling p (canonical p) [] (IsSpelling-well_formed p h)
