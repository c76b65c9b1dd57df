-- Two links, each with what it has sent, taken and emitted, joined by what arrives: a packet that one end finds was
-- emitted by the other, in the order of their emission, and any of them may be lost.
use Rattle.std.specs.Prelude.{◌≡◌, ◌⊎◌, ℕ, suc, ◌<◌, List, [], ◌∷◌, ◌++◌, length, slice_get, Some, ⊤}
use Rattle.uug_link.specs.Announced.{Announced}
use Rattle.uug_link.specs.State.{State, caller_state, called_state, Fits, HasRoom, IsFresh, IsUp}
use Rattle.uug_link.specs.Step.{Effect, Emission, Event, to_begin, packet_found, bad_found, timed_out, to_send, to_close, OutcomeValue, taken, step}
use Rattle.uug_link.specs.Terms.{IsWindow}
use Rattle.uug_packet.specs.Packet.{PacketValue, carry}

-- One end: its link; all messages that it has sent and taken and all packets that it has emitted, since the start; and
-- how many of the other end's packets it has found or skipped.
pub record End : Type 0 where
  pub link : State
  pub sent : List (List ℕ)
  pub taken : List (List ℕ)
  pub emitted : List PacketValue
  pub passed : ℕ

-- an end to which nothing has happened
abbrev pub first_end : State → End
first_end link = record { link = link; sent = []; taken = []; emitted = []; passed = 0 }

-- the link of a caller or of a called end that announces this
abbrev pub IsFirst : Announced → State → Type 0
IsFirst own s = (s ≡ caller_state own) ⊎ (s ≡ called_state own)

-- ---- what happens at an end

pub data Happening : Type 0 where
  -- its caller, a broken packet or a timeout moves its link
  moves : Event → Happening
  -- one more packet of the other end is skipped: it is lost
  misses : Happening
  -- the other end's next packet is found
  hears : PacketValue → Happening

-- the conditions of a link's calls; a packet is found by `hears` alone
abbrev pub MayCall : State → Event → Type 0
MayCall s to_begin = IsFresh s
MayCall s (packet_found p) = ⊥
MayCall s bad_found = ⊤
MayCall s timed_out = ⊤
MayCall s (to_send message) = HasRoom s × Fits s.size_code message
MayCall s to_close = IsUp s

-- at the first of two ends
abbrev pub MayHappen : End → End → Happening → Type 0
MayHappen e other (moves event) = MayCall e.link event
MayHappen e other misses = e.passed < length other.emitted
MayHappen e other (hears p) = slice_get other.emitted e.passed ≡ Some p

abbrev pub sent_with : Event → List (List ℕ) → List (List ℕ)
sent_with (to_send message) sent = sent ++ message ∷ []
sent_with _ sent = sent

-- the message of a data packet is taken where the link answers Taken
abbrev pub taken_by : OutcomeValue → Event → List (List ℕ) → List (List ℕ)
taken_by taken (packet_found (carry seq ack k message)) messages = messages ++ message ∷ []
taken_by _ _ messages = messages

abbrev pub packets_of : List Emission → List PacketValue
packets_of [] = []
packets_of (e ∷ es) = e.packet ∷ packets_of es

-- what an event leaves that has this effect
abbrev pub with_effect : End → Event → Effect → End
with_effect e event effect = record {
  link = effect.state;
  sent = sent_with event e.sent;
  taken = taken_by effect.outcome event e.taken;
  emitted = e.emitted ++ packets_of effect.emitted;
  passed = e.passed;
}

abbrev pub moved_by : End → Event → End
moved_by e event = with_effect e event (step e.link event)

abbrev pub gone_past : End → End
gone_past e = record e { passed = suc e.passed }

abbrev pub after_happening : End → Happening → End
after_happening e (moves event) = moved_by e event
after_happening e misses = gone_past e
after_happening e (hears p) = gone_past (moved_by e (packet_found p))

-- several at the first of two ends, while nothing happens at the other
abbrev pub AllMayHappen : End → End → List Happening → Type 0
AllMayHappen e other [] = ⊤
AllMayHappen e other (h ∷ hs) = MayHappen e other h × AllMayHappen (after_happening e h) other hs

abbrev pub after_happenings : End → List Happening → End
after_happenings e [] = e
after_happenings e (h ∷ hs) = after_happenings (after_happening e h) hs

-- ---- the runs: whatever may happen, at either end

pub record Ends : Type 0 where
  pub near : End
  pub far : End

-- the same seen from the other end
abbrev pub seen_from_far : Ends → Ends
seen_from_far p = record { near = p.far; far = p.near }

abbrev pub first_ends : State → State → Ends
first_ends near far = record { near = first_end near; far = first_end far }

pub data Occurrence : Type 0 where
  at_near : Happening → Occurrence
  at_far : Happening → Occurrence

abbrev pub MayOccur : Ends → Occurrence → Type 0
MayOccur p (at_near h) = MayHappen p.near p.far h
MayOccur p (at_far h) = MayHappen p.far p.near h

abbrev pub after_occurrence : Ends → Occurrence → Ends
after_occurrence p (at_near h) = record p { near = after_happening p.near h }
after_occurrence p (at_far h) = record p { far = after_happening p.far h }

abbrev pub AllMayOccur : Ends → List Occurrence → Type 0
AllMayOccur p [] = ⊤
AllMayOccur p (o ∷ os) = MayOccur p o × AllMayOccur (after_occurrence p o) os

abbrev pub after_occurrences : Ends → List Occurrence → Ends
after_occurrences p [] = p
after_occurrences p (o ∷ os) = after_occurrences (after_occurrence p o) os

-- some run of two links that announce this leads there
pub record IsRun (near far : Announced) (p : Ends) : Type 0 where
  pub near_first : State
  pub far_first : State
  pub occurrences : List Occurrence
  pub near_is : IsFirst near near_first
  pub far_is : IsFirst far far_first
  pub allowed : AllMayOccur (first_ends near_first far_first) occurrences
  pub leads : after_occurrences (first_ends near_first far_first) occurrences ≡ p

-- what was taken is the front of what was sent
abbrev pub IsFrontOf : List (List ℕ) → List (List ℕ) → Type 0
IsFrontOf front whole = (rest : List (List ℕ)) × (front ++ rest ≡ whole)

-- the fact holds after every run at both ends: of each end, the other, and what the other announced
abbrev pub AlwaysOfTwo : (End → End → Announced → Type 0) → Type 0
AlwaysOfTwo P = (near far : Announced) (p : Ends) → IsWindow near.window → IsWindow far.window → IsRun near far p →
    P p.near p.far far × P p.far p.near near
