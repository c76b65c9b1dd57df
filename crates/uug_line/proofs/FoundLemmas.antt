-- The packets that an end finds in the bytes that come to it have places among those that the other end emitted, up to one
-- that has none.
use Rattle.std.proofs.Common.{◌≡◌, ◌≢◌, ℕ, zero, suc, ◌<◌, ◌≤◌, Bool, true, false, ◌==◌, if◌then◌else◌, List, [], ◌∷◌, ◌++◌, length, Option, Some, None, MatchOption, Result, Ok, Err, slice_get, slice_index, append-nil, refl, sym, ap, subst, ◌∙◌, arith}
use Rattle.std.specs.Bool.{⊤}
use Rattle.uug_link.specs.Arrivals.{IsPlace, place_of}
use Rattle.uug_packet.specs.declared.decoding.NoPacket.{NoPacket}
use Rattle.uug_packet.specs.declared.decoding.NoPacket.TheVariants as refusals
use Rattle.uug_packet.specs.declared.header.TheConstants.{CONTROL_K}
use Rattle.uug_packet.specs.Decoded.{decoded}
use Rattle.uug_packet.specs.Packet.{PacketValue}
use Rattle.uug_reader.specs.Cut.{found, bad}
use Rattle.uug_reader.specs.Search.{Search, waiting, standing, search_by, search_of}
use Rattle.uug_session.specs.Arriving.{Receiver, Buffered, held_in, holds, Arrival, all_taken, stopped, takes_if, takes_up, takes_up_to, takes_piece}
use Rattle.uug_session.specs.EndStep.{EndEffect, EndEvent, packet_found_whole, Stage, hailing, linked, ended, message_of, end_step}
use Rattle.uug_session.specs.Finding.{Finding, finds_nothing, finds, finds_packet, text_finding, item_finding, finding, found_with, LeavesFewer}
use Rattle.uug_session.specs.TextsHeld.{TextSearch, text_waits, text_stands, text_too_long, search_text}
use Rattle.uug_line.specs.Fooled.{FindsNothingMore}
use Rattle.uug_line.specs.LineEndState.{JournalState, LineEndState, Participant, after_call, does, found_at, packets_in, took}
use Rattle.uug_line.specs.Taking.{takes_sent, line_taker, packet_taken_up, with_packet}
use Rattle.uug_line.specs.WereSent.{HavePlaces, passed_at}
use Rattle.uug_line.proofs.PlaceLemmas.{later_places, next_place}
use Rattle.uug_link.proofs.ArrivalLemmas.{place_is}
use Rattle.uug_session.proofs.ArrivingLemmas.{found_more, found_fewer}

-- ---- what is found takes a byte

pub event_takes : (stage : Stage) (bytes behind : List ℕ) (event : EndEvent) → finding stage bytes ≡ finds event behind →
    length behind < length bytes
event_takes stage bytes behind event is = subst (λ f. LeavesFewer f bytes) is (found_fewer stage bytes)

pub packet_takes : (stage : Stage) (bytes from behind : List ℕ) (p : PacketValue) →
    finding stage bytes ≡ finds_packet p from behind → length behind < length bytes
packet_takes stage bytes from behind p is = (subst (λ f. LeavesFewer f bytes) is (found_fewer stage bytes)).1

-- nothing is found in what waits
waits : (stage : Stage) (bytes rest : List ℕ) → finding stage bytes ≡ finds_nothing rest →
    finding stage rest ≡ finds_nothing rest
waits stage bytes rest is =
    sym (ap (finding stage) (append-nil rest)) ∙ ap (found_with stage []) (sym is) ∙ sym (found_more stage bytes [])
    ∙ ap (finding stage) (append-nil bytes) ∙ is

-- ---- a packet is found again from its first byte on

abbrev IsAgain : Search → Type 0
IsAgain (waiting rest) = ⊤
IsAgain (standing item size others) = search_of others ≡ standing item size others

again_noise : (b : ℕ) (s : List ℕ) (is_control : Bool) →
    search_of (b ∷ s) ≡ (if is_control then search_of s else standing bad 1 (b ∷ s)) → IsAgain (search_of s) →
    IsAgain (if is_control then search_of s else standing bad 1 (b ∷ s))
again_noise b s true e more = more
again_noise b s false e more = e

again_by : (b : ℕ) (s : List ℕ) (r : Result (PacketValue × ℕ) NoPacket) → decoded (b ∷ s) ≡ r → IsAgain (search_of s) →
    IsAgain (search_by r (b ∷ s) (search_of s))
again_by b s (Ok front) e more = ap (λ r. search_by r (b ∷ s) (search_of s)) e
again_by b s (Err refusals.Short) e more = tt
again_by b s (Err refusals.BadLength) e more = ap (λ r. search_by r (b ∷ s) (search_of s)) e
again_by b s (Err refusals.BadSum) e more =
    again_noise b s (slice_index (b ∷ s) 1 == CONTROL_K) (ap (λ r. search_by r (b ∷ s) (search_of s)) e) more
again_by b s (Err refusals.BadStart) e more = more
again_by b s (Err refusals.BadK) e more = more
again_by b s (Err refusals.BadXor) e more = more
again_by b s (Err refusals.BadKind) e more = more

search_again : (s : List ℕ) → IsAgain (search_of s)
search_again [] = tt
search_again (b ∷ s) = again_by b s (decoded (b ∷ s)) refl (search_again s)

from_found : Finding → List ℕ
from_found (finds_packet p from behind) = from
from_found _ = []

packet_again : (x : Search) (p : PacketValue) (from behind : List ℕ) → IsAgain x →
    item_finding x ≡ finds_packet p from behind → item_finding (search_of from) ≡ finds_packet p from behind
unfolding from_found
packet_again (waiting rest) p from behind again e = absurd cc
packet_again (standing (found q) size others) p from behind again e =
    subst (λ bytes. item_finding (search_of bytes) ≡ finds_packet p from behind) (ap from_found e)
    (ap item_finding again ∙ e)
packet_again (standing bad size others) p from behind again e = absurd cc

-- the stage is that of a link that has begun
from_text : (bytes : List ℕ) (x : TextSearch) (p : PacketValue) (from behind : List ℕ) → text_finding bytes x ≡ finds_packet p from behind → ⊥
from_text bytes (text_waits rest) p from behind e = cc
from_text bytes (text_stands text others) p from behind e = cc
from_text bytes text_too_long p from behind e = cc

pub found_again : (stage : Stage) (bytes : List ℕ) (p : PacketValue) (from behind : List ℕ) →
    finding stage bytes ≡ finds_packet p from behind →
    finding stage (held_in stage from) ≡ finds_packet p (held_in stage from) behind
found_again (hailing g) bytes p from behind e = absurd (from_text bytes (search_text bytes) p from behind e)
found_again linked bytes p from behind e = packet_again (search_of bytes) p from behind (search_again bytes) e
found_again (ended how) bytes p from behind e = absurd cc

pub waits_again : (stage : Stage) (bytes rest : List ℕ) → finding stage bytes ≡ finds_nothing rest →
    finding stage (held_in stage rest) ≡ finds_nothing (held_in stage rest)
waits_again (hailing g) bytes rest e = waits (hailing g) bytes rest e
waits_again linked bytes rest e = waits linked bytes rest e
waits_again (ended how) bytes rest e = refl

pub held_fewer : (stage : Stage) (bytes : List ℕ) → length (held_in stage bytes) ≤ length bytes
held_fewer (hailing g) bytes = omega arith
held_fewer linked bytes = omega arith
held_fewer (ended how) bytes = omega arith

-- ---- places

-- the end has found packets that have its places among those that were emitted to it
pub record HasFound {C : Type 0} (e : LineEndState C) (emitted : List PacketValue) : Type 0 where
  pub packets : List PacketValue
  pub places : HavePlaces packets e.log.arrivals emitted 0
  pub passed : e.log.passed ≡ passed_at e.log.arrivals 0

pub record BothFound {C : Type 0} (e f : LineEndState C) : Type 0 where
  pub near : HasFound e f.log.packets
  pub far : HasFound f e.log.packets

pub passed_behind : (places : List ℕ) (i from : ℕ) → passed_at (places ++ i ∷ []) from ≡ suc i
passed_behind [] i from = refl
passed_behind (j ∷ js) i from = passed_behind js i (suc j)

-- a call finds no packet, and may emit some
pub does_found : {C : Type 0} (p : Participant C) (event : EndEvent) (e f : LineEndState C) → BothFound e f → BothFound (does p event e) f
does_found p event e f both = record {
  near = record { packets = both.near.packets; places = both.near.places; passed = both.near.passed };
  far = record {
    packets = both.far.packets;
    places = later_places both.far.packets e.log.packets (packets_in (end_step p.keeper p.identity event e.state).emitted)
        f.log.arrivals 0 both.far.places;
    passed = both.far.passed;
  };
}

take_found : {C : Type 0} (packet : PacketValue) (place : ℕ) (e : LineEndState C) (emitted : List PacketValue) (took_it : Bool)
    (effect : EndEffect C) → IsPlace packet emitted e.log.passed place → HasFound e emitted →
    HasFound (after_call (took took_it (message_of packet) (found_at place e.log)) e.line effect) emitted
take_found packet place e emitted false effect at has = record {
  packets = has.packets ++ packet ∷ [];
  places = next_place has.packets emitted e.log.arrivals packet place 0 has.places
      (subst (λ n. IsPlace packet emitted n place) has.passed at);
  passed = sym (passed_behind e.log.arrivals place 0);
}
take_found packet place e emitted true effect at has = record {
  packets = has.packets ++ packet ∷ [];
  places = next_place has.packets emitted e.log.arrivals packet place 0 has.places
      (subst (λ n. IsPlace packet emitted n place) has.passed at);
  passed = sym (passed_behind e.log.arrivals place 0);
}

pub took_packets : (t : Bool) (message : List ℕ) (log : JournalState) → (took t message log).packets ≡ log.packets
took_packets false message log = refl
took_packets true message log = refl

with_packet_found : {C : Type 0} (packet : PacketValue) (place : ℕ) (e f : LineEndState C) (effect : EndEffect C) →
    IsPlace packet f.log.packets e.log.passed place → BothFound e f → BothFound (with_packet packet place e effect) f
with_packet_found packet place e f effect at both = record {
  near = take_found packet place e f.log.packets effect.took effect at both.near;
  far = record {
    packets = both.far.packets;
    places = subst (λ ps. HavePlaces both.far.packets f.log.arrivals (ps ++ packets_in effect.emitted) 0)
        (sym (took_packets effect.took (message_of packet) (found_at place e.log)))
        (later_places both.far.packets e.log.packets (packets_in effect.emitted) f.log.arrivals 0 both.far.places);
    passed = both.far.passed;
  };
}

pub place_is_there : (p : PacketValue) (emitted : List PacketValue) (passed place : ℕ) →
    place_of p emitted passed ≡ Some place → IsPlace p emitted passed place
place_is_there p emitted passed place e =
    subst (λ (o : Option ℕ). MatchOption o
    ((i : ℕ) → passed ≤ i → slice_get emitted i ≢ Some p) (λ i. IsPlace p emitted passed i)) e (place_is p emitted passed)

-- ---- a piece

-- the packet that stands next has no place
pub record IsUnsent {C : Type 0} (h : Buffered (LineEndState C)) (f : LineEndState C) : Type 0 where
  pub packet : PacketValue
  pub behind : List ℕ
  pub next : finding h.end.state.stage h.held ≡ finds_packet packet h.held behind
  pub no_place : place_of packet f.log.packets h.end.log.passed ≡ None

module _ {C : Type 0} (p : Participant C) (f : LineEndState C) where
  abbrev receiver : Receiver (LineEndState C)
  receiver = line_taker p f.log.packets

  abbrev pub CameSo : Arrival (LineEndState C) → Type 0
  CameSo (all_taken h) = BothFound h.end f × FindsNothingMore h
  CameSo (stopped h) = BothFound h.end f × IsUnsent h f

  -- at most so many, where fewer bytes are held
  abbrev AllCameSo : ℕ → Type 0
  AllCameSo n = (h : Buffered (LineEndState C)) → length h.held < n → BothFound h.end f → CameSo (takes_up_to n receiver h)

  came_if : (n : ℕ) → AllCameSo n → (q : PacketValue) (bytes from behind : List ℕ) (place : Option ℕ) (e : LineEndState C) →
      finding e.state.stage bytes ≡ finds_packet q from behind → length bytes ≤ n → BothFound e f →
      place_of q f.log.packets e.log.passed ≡ place →
      CameSo (takes_if (takes_up_to n receiver) receiver (takes_sent p q place e) from behind e)
  came_if n more q bytes from behind None e found_it enough both at =
      (both, record { packet = q; behind = behind; next = found_again e.state.stage bytes q from behind found_it; no_place = at })
  came_if n more q bytes from behind (Some place) e found_it enough both at =
      let e' = packet_taken_up p q place e in
      more (holds receiver behind e')
      (omega (arith, held_fewer e'.state.stage behind, packet_takes e.state.stage bytes from behind q found_it))
      (with_packet_found q place e f (end_step p.keeper p.identity (packet_found_whole false q) e.state)
      (place_is_there q f.log.packets e.log.passed place at) both)

  came_so : (n : ℕ) → AllCameSo n → (what : Finding) (bytes : List ℕ) (e : LineEndState C) →
      finding e.state.stage bytes ≡ what → length bytes ≤ n → BothFound e f →
      CameSo (takes_up (takes_up_to n receiver) receiver what e)
  came_so n more (finds_nothing rest) bytes e found_it enough both =
      (both, waits_again e.state.stage bytes rest found_it)
  came_so n more (finds event behind) bytes e found_it enough both =
      let e' = does p event e in
      more (holds receiver behind e')
      (omega (arith, held_fewer e'.state.stage behind, event_takes e.state.stage bytes behind event found_it))
      (does_found p event e f both)
  came_so n more (finds_packet q from behind) bytes e found_it enough both =
      came_if n more q bytes from behind (place_of q f.log.packets e.log.passed) e found_it enough both refl

  came_up_to : (n : ℕ) → AllCameSo n
  came_up_to zero h enough both = absurd (omega arith)
  came_up_to (suc n) h enough both =
      came_so n (came_up_to n) (finding h.end.state.stage h.held) h.held h.end refl (omega arith) both

  pub came_piece : (piece : List ℕ) (h : Buffered (LineEndState C)) → BothFound h.end f → CameSo (takes_piece receiver piece h)
  came_piece piece h both =
      let held = holds receiver (h.held ++ piece) h.end in
      came_up_to (suc (length held.held)) held (omega arith) both
