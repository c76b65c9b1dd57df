-- Packets that are written again with another acknowledgement.
use Rattle.std.proofs.Common.{◌≡◌, ℕ, zero, suc, ◌+◌, ◌%◌, ◌<◌, ◌≤◌, List, [], ◌∷◌, length, get_or, set, slice_get, false, Some, None, refl, ap, sym, subst, ◌∙◌, arith}
use Rattle.std.proofs.Math.Seq.{map-set_same}
use Rattle.std.proofs.lemmas.List.{get_or-map, get_or-set_same, length-map, length-set}
use Rattle.std.proofs.lemmas.Option.{slice_get-get_or, slice_get_past}
use Rattle.uug_link.specs.declared.reaction.Emits.{Emits}
use Rattle.uug_link.specs.declared.reaction.Emits.TheVariants.{Outstanding}
use Rattle.uug_link.specs.declared.reaction.Emits.TheVariants as emits
use Rattle.uug_link.specs.declared.status.Status.{Status}
use Rattle.uug_link.specs.Reactions.{state_of, emitted_of}
use Rattle.uug_link.specs.Slots.{AreSlots, carried_in, IsSlot, message_in, messages_in}
use Rattle.uug_link.specs.State.{State}
use Rattle.uug_link.specs.Step.{carrying, data_packet, distance, selected, sent_again}
use Rattle.uug_link.specs.Terms.{smallest_code}
use Rattle.uug_packet.specs.declared.number.Seq.{Seq}
use Rattle.uug_packet.proofs.WellFormedLemmas.{decoded-well_formed}
use Rattle.uug_packet.specs.Number.{number_of}
use Rattle.uug_packet.specs.Packet.{PacketValue, carry}
use Rattle.uug_packet.specs.Spelling.{canonical}
use Rattle.uug_packet.specs.WellFormed.{IsWellFormed}

pub message_in-written : (number ack k : ℕ) (message : List ℕ) → IsWellFormed (carry number ack k message)
    → message_in (canonical (carry number ack k message)) ≡ message
message_in-written number ack k message well = ap carried_in (decoded-well_formed (carry number ack k message) well)

pub IsSlot-written : (number ack : ℕ) (message : List ℕ) → IsWellFormed (carrying number ack message)
    → IsSlot number (canonical (carrying number ack message))
IsSlot-written number ack message well =
    let same = message_in-written number ack (smallest_code (length message)) message well in
    record {
      ack = ack;
      well_formed = subst (λ (m : List ℕ). IsWellFormed (carrying number ack m)) (sym same) well;
      is = ap (λ (m : List ℕ). canonical (carrying number ack m)) (sym same);
    }

-- ---- one of the slots

pub slot_at : (first : ℕ) (ws : List (List ℕ)) (i : ℕ) → first < 8 → AreSlots first ws → i < length ws
    → IsSlot ((first + i) % 8) (get_or ws i [])
slot_at first [] i below are low = absurd (omega (arith, low))
slot_at first (w ∷ ws) zero below are low =
    let at : first ≡ (first + 0) % 8 = omega (arith, below) in
    subst (λ (n : ℕ). IsSlot n w) at are.0
slot_at first (w ∷ ws) (suc i) below are low =
    let at : ((first + 1) % 8 + i) % 8 ≡ (first + suc i) % 8 = omega arith in
    subst (λ (n : ℕ). IsSlot n (get_or ws i [])) at
    (slot_at ((first + 1) % 8) ws i (omega arith) are.1 (omega (arith, low)))

pub AreSlots-set : (first : ℕ) (ws : List (List ℕ)) (i : ℕ) (w : List ℕ) → first < 8 → AreSlots first ws
    → IsSlot ((first + i) % 8) w → AreSlots first (set ws i w)
AreSlots-set first [] i w below are is = are
AreSlots-set first (v ∷ ws) zero w below are is =
    let at : (first + 0) % 8 ≡ first = omega (arith, below) in
    (subst (λ (n : ℕ). IsSlot n w) at is, are.1)
AreSlots-set first (v ∷ ws) (suc i) w below are is =
    let at : (first + suc i) % 8 ≡ ((first + 1) % 8 + i) % 8 = omega arith in
    (are.0, AreSlots-set ((first + 1) % 8) ws i w (omega arith) are.1 (subst (λ (n : ℕ). IsSlot n w) at is))

-- a packet as it is written again
abbrev pub again_as : (first received i : ℕ) (ws : List (List ℕ)) → List ℕ
again_as first received i ws = canonical (carrying ((first + i) % 8) received (message_in (get_or ws i [])))

-- a packet is repeated, and what is then there
pub record IsAgain (first received i : ℕ) (ws after : List (List ℕ)) : Type 0 where
  pub well_formed : IsWellFormed (carrying ((first + i) % 8) received (message_in (get_or ws i [])))
  pub after_is : after ≡ set ws i (again_as first received i ws)

pub again : (first received i : ℕ) (ws after : List (List ℕ)) → first < 8 → received < 8 → AreSlots first ws
    → i < length ws
    → ((seq old k : ℕ) (message : List ℕ) → IsWellFormed (carry seq old k message)
    → get_or ws i [] ≡ canonical (carry seq old k message) → after ≡ set ws i (canonical (carry seq received k message)))
    → IsAgain first received i ws after
again first received i ws after below ack_below are low changes =
    let slot = slot_at first ws i below are low in
    record {
      well_formed = (slot.well_formed.0, ack_below, slot.well_formed.2);
      after_is = changes ((first + i) % 8) slot.ack (smallest_code (length (message_in (get_or ws i [])))) (message_in (get_or ws i [])) slot.well_formed slot.is;
    }

pub again-length : (first received i : ℕ) (ws after : List (List ℕ)) → IsAgain first received i ws after
    → length after ≡ length ws
again-length first received i ws after h = ap length h.after_is ∙ length-set ws i (again_as first received i ws)

pub again-slots : (first received i : ℕ) (ws after : List (List ℕ)) → first < 8
    → AreSlots first ws → IsAgain first received i ws after → AreSlots first after
again-slots first received i ws after below are h =
    let slot = IsSlot-written ((first + i) % 8) received (message_in (get_or ws i [])) h.well_formed in
    subst (AreSlots first) (sym h.after_is) (AreSlots-set first ws i (again_as first received i ws) below are slot)

pub again-messages : (first received i : ℕ) (ws after : List (List ℕ))
    → IsAgain first received i ws after → messages_in after ≡ messages_in ws
again-messages first received i ws after h =
    ap messages_in h.after_is
    ∙ map-set_same message_in ws i (again_as first received i ws) []
    (message_in-written ((first + i) % 8) received (smallest_code (length (message_in (get_or ws i [])))) (message_in (get_or ws i [])) h.well_formed)

pub again-bytes : (first received i : ℕ) (ws after : List (List ℕ)) (bytes : List ℕ) → i < length ws
    → IsAgain first received i ws after → slice_get after i ≡ Some bytes → bytes ≡ again_as first received i ws
again-bytes first received i ws after bytes low h is =
    let w = again_as first received i ws in
    let there : i < length after = omega (arith, low, again-length first received i ws after h) in
    let got : get_or after i [] ≡ w = ap (λ (xs : List (List ℕ)). get_or xs i []) h.after_is ∙ get_or-set_same ws i w [] low in
    let some : Some bytes ≡ Some w = sym is ∙ slice_get-get_or after i [] there ∙ ap Some got in
    cc

-- and it is the packet that goes out
pub again-packet : (s : Status) (i : ℕ) (ws : List (List ℕ)) → i < length ws
    → again_as (number_of s.oldest) (number_of s.received) i ws
    ≡ canonical (data_packet (state_of s []) ((number_of s.oldest + i) % 8) (get_or (messages_in ws) i []))
again-packet s i ws low =
    let number = (number_of s.oldest + i) % 8 in
    let ack : number_of s.received ≡ ((number_of s.received + 1) % 8 + 7) % 8 = omega (arith, s.received.below) in
    let message : message_in (get_or ws i []) ≡ get_or (messages_in ws) i [] = sym (get_or-map message_in ws i [] [] low) in
    ap (λ (n : ℕ). canonical (carrying number n (message_in (get_or ws i [])))) ack
    ∙ ap (λ (m : List ℕ). canonical (data_packet (state_of s []) number m)) message

-- ---- all of them, one after the other

pub length-sent_again : (packet_of : ℕ → List ℕ → PacketValue) (number : ℕ) (ms : List (List ℕ)) → length (sent_again packet_of number ms) ≡ length ms
length-sent_again packet_of number [] = refl
length-sent_again packet_of number (m ∷ ms) = ap suc (length-sent_again packet_of ((number + 1) % 8) ms)

-- ---- the packet of a number, if it is outstanding

pub selected-some : (s : State) (y i : ℕ) → i ≡ distance s.oldest y → i < length s.unacked
    → selected y s ≡ record { packet = data_packet s y (get_or s.unacked i []); first = false } ∷ []
selected-some s y i at low =
    let here : slice_get s.unacked (distance s.oldest y) ≡ Some (get_or s.unacked i []) =
    ap (slice_get s.unacked) (sym at) ∙ slice_get-get_or s.unacked i [] low in
    rw (here) refl

pub selected-none : (s : State) (y i : ℕ) → i ≡ distance s.oldest y → length s.unacked ≤ i → selected y s ≡ []
selected-none s y i at high =
    let here : slice_get s.unacked (distance s.oldest y) ≡ None =
    ap (slice_get s.unacked) (sym at) ∙ slice_get_past s.unacked i high in
    rw (here) refl

-- ---- how many go out

pub length-outstanding : (s : Status) (out : Emits) (ms : List (List ℕ)) → out ≡ Outstanding
    → length (emitted_of out (state_of s ms)) ≡ length ms
length-outstanding s out ms is = rw (is) (length-sent_again _ _ ms)

pub length-selected : (s : Status) (out : Emits) (y : Seq) (i : ℕ) (ms : List (List ℕ)) → out ≡ emits.Selected y
    → i ≡ distance (number_of s.oldest) (number_of y) → i < length ms → length (emitted_of out (state_of s ms)) ≡ 1
length-selected s out y i ms is at low = rw (is) (ap length (selected-some (state_of s ms) (number_of y) i at low))

pub length-not_selected : (s : Status) (out : Emits) (y : Seq) (i : ℕ) (ms : List (List ℕ)) → out ≡ emits.Selected y
    → i ≡ distance (number_of s.oldest) (number_of y) → length ms ≤ i → length (emitted_of out (state_of s ms)) ≡ 0
length-not_selected s out y i ms is at high = rw (is) (ap length (selected-none (state_of s ms) (number_of y) i at high))

pub length-all_out : (s : Status) (out : Emits) (ws : List (List ℕ)) → out ≡ Outstanding
    → length (emitted_of out (state_of s (messages_in ws))) ≡ length ws
length-all_out s out ws is = length-outstanding s out (messages_in ws) is ∙ length-map ws message_in
