-- What an end of the program takes up of what came is what the definitions say.
use Rattle.std.proofs.Common.{◌≡◌, ◌≢◌, ◌⊎◌, inl, inr, ℕ, zero, suc, ◌<◌, ◌≤◌, Bool, true, false, List, [], ◌∷◌, ◌++◌, map, slice_get, Option, Some, None, MatchOption, ap, ◌∙◌, refl, arith}
use Rattle.std.proofs.lemmas.Bool.{cases_lt}
use Rattle.std.proofs.lemmas.Option.{slice_get-map}
use Rattle.std.specs.Option.{option_map}
use Rattle.uug_link.specs.Arrivals.{IsPlace, place_of}
use Rattle.uug_packet.specs.Message.{message_if_data, message_in}
use Rattle.uug_packet.specs.Packet.{PacketValue, control, carry}
use Rattle.uug_packet.specs.Spelling.{canonical}
use Rattle.uug_packet.specs.WellFormed.{IsWellFormed}
use Rattle.uug_line.specs.JournalValue.{JournalValue, log_of, or_empty, packet_in, packet_noted}
use Rattle.uug_line.specs.LineEndState.{JournalState, found_at, took}
use Rattle.uug_line.specs.LineEndValue.{AreWritten}
use Rattle.uug_line.specs.Code.Sightings.{StandsAt, StandsNowhere}
use Rattle.uug_session.specs.EndStep.{message_of}
use Rattle.uug_line.proofs.SpokenLemmas.{packet_back}
use Rattle.uug_link.proofs.ArrivalLemmas.{place_is}
use Rattle.uug_packet.proofs.WrittenLemmas.{message_in-written}

-- ---- places

written_at : (others : List (List ℕ)) (i : ℕ) (p : PacketValue) → AreWritten others → slice_get (map packet_in others) i ≡ Some p
    → slice_get others i ≡ Some (canonical p)
written_at [] i p written at = absurd cc
written_at (b ∷ bs) zero p written at =
    let same : packet_in b ≡ p = cc in ap Some (written.0.0 ∙ ap canonical same)
written_at (b ∷ bs) (suc i) p written at = written_at bs i p written.1 at

least_is : (p : PacketValue) (emitted : List PacketValue) (passed i j : ℕ) → IsPlace p emitted passed i → IsPlace p emitted passed j → i ≡ j
least_is p emitted passed i j a b = by (cases_lt i j) where
  by : (i < j) ⊎ (j ≤ i) → i ≡ j
  by (inl below) = absurd (b.least i a.behind below a.there)
  by (inr above) = by_other (cases_lt j i) where
    by_other : (j < i) ⊎ (i ≤ j) → i ≡ j
    by_other (inl below) = absurd (a.least j b.behind below b.there)
    by_other (inr also) = omega (arith, above, also)

some_place : (p : PacketValue) (emitted : List PacketValue) (passed place : ℕ) (o : Option ℕ)
    → MatchOption o ((i : ℕ) → passed ≤ i → slice_get emitted i ≢ Some p) (λ i. IsPlace p emitted passed i)
    → IsPlace p emitted passed place → o ≡ Some place
some_place p emitted passed place None none at = absurd (none place at.behind at.there)
some_place p emitted passed place (Some i) is at = ap Some (least_is p emitted passed i place is at)

no_place : (p : PacketValue) (emitted : List PacketValue) (passed : ℕ) (o : Option ℕ)
    → MatchOption o ((i : ℕ) → passed ≤ i → slice_get emitted i ≢ Some p) (λ i. IsPlace p emitted passed i)
    → ((i : ℕ) → passed ≤ i → slice_get emitted i ≢ Some p) → o ≡ None
no_place p emitted passed None is none = refl
no_place p emitted passed (Some i) is none = absurd (none i is.behind is.there)

pub place_found : (p : PacketValue) (others : List (List ℕ)) (passed place : ℕ) → IsWellFormed p → AreWritten others
    → StandsAt (canonical p) others passed place → place_of p (map packet_in others) passed ≡ Some place
place_found p others passed place well written stands =
    some_place p (map packet_in others) passed place (place_of p (map packet_in others) passed) (place_is p (map packet_in others) passed) (record {
      behind = stands.behind;
      there = slice_get-map packet_in others place ∙ ap (option_map packet_in) stands.there ∙ ap Some (packet_back p well);
      least = λ i behind before at. stands.least i behind before (written_at others i p written at);
    })

pub no_place_found : (p : PacketValue) (others : List (List ℕ)) (passed : ℕ) → AreWritten others
    → StandsNowhere (canonical p) others passed → place_of p (map packet_in others) passed ≡ None
no_place_found p others passed written stands =
    no_place p (map packet_in others) passed (place_of p (map packet_in others) passed) (place_is p (map packet_in others) passed)
    (λ i behind at. stands i behind (written_at others i p written at))

-- ---- what is written down of a packet

message_is : (p : PacketValue) → or_empty (message_if_data p) ≡ message_of p
message_is (control c) = refl
message_is (carry seq ack k message) = refl

message_back : (p : PacketValue) → IsWellFormed p → or_empty (message_in (canonical p)) ≡ message_of p
message_back p well = ap or_empty (message_in-written p well) ∙ message_is p

pub packet_logged : (p : PacketValue) (bytes : List ℕ) (place : ℕ) (j : JournalValue) (was_taken : Bool) → IsWellFormed p → bytes ≡ canonical p
    → log_of (packet_noted bytes place j was_taken) ≡ took was_taken (message_of p) (found_at place (log_of j))
packet_logged p bytes place j false well is = refl
packet_logged p bytes place j true well is =
    let taking : List ℕ → JournalState = λ message. record (found_at place (log_of j)) { taken = j.taken ++ message ∷ [] } in
    ap taking (ap (λ (b : List ℕ). or_empty (message_in b)) is ∙ message_back p well)
