-- Links whose packets can all be written. Taylor UUCP manual, UUCP 'g' Protocol.
use Rattle.std.specs.Prelude.{◌≡◌, ◌<◌, List, [], All, ⊤}
use Rattle.uug_link.specs.declared.limits.TheConstants.{SIZE_CODES}
use Rattle.uug_link.specs.Announced.{Announced}
use Rattle.uug_link.specs.State.{State, Fits, IsFresh, IsStarting, IsUp}
use Rattle.uug_link.specs.Step.{Emission, Event, to_begin, packet_found, bad_found, timed_out, to_send, to_close}
use Rattle.uug_link.specs.Terms.{IsWindow}
use Rattle.uug_packet.specs.WellFormed.{IsWellFormed}

-- what an end may announce
pub record IsAnnouncement (a : Announced) : Type 0 where
  pub window : IsWindow a.window
  pub size_code : a.size_code < SIZE_CODES

-- The numbers that go out are numbers of packets, and what is outstanding fits the size that the other end wants. Before
-- the link is up that size may still change, and nothing is outstanding.
pub record IsInRange (s : State) : Type 0 where
  pub own : IsAnnouncement s.own
  pub size_code : s.size_code < SIZE_CODES
  pub fit : All (Fits s.size_code) s.unacked
  pub none_before : IsStarting s.phase → s.unacked ≡ []
  pub oldest : s.oldest < 8
  pub expected : s.expected < 8

-- What such a link may meet: only one that is fresh begins, and only one that is up sends, what fits; what is found is a
-- packet.
abbrev pub MayMeet : State → Event → Type 0
MayMeet s to_begin = IsFresh s
MayMeet s (packet_found p) = IsWellFormed p
MayMeet s bad_found = ⊤
MayMeet s timed_out = ⊤
MayMeet s (to_send message) = IsUp s × Fits s.size_code message
MayMeet s to_close = ⊤

-- each of these packets is one
abbrev pub AreWellFormed : List Emission → Type 0
AreWellFormed emissions = All (λ e. IsWellFormed e.packet) emissions
