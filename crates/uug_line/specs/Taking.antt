-- How an end on a line takes the bytes that come to it: each packet that it finds has its place among those that the other
-- end emitted (this project's profile).
use Rattle.std.specs.Prelude.{ℕ, false, List, Option, Some, None}
use Rattle.uug_link.specs.Arrivals.{place_of}
use Rattle.uug_packet.specs.Packet.{PacketValue}
use Rattle.uug_session.specs.Arriving.{Receiver}
use Rattle.uug_session.specs.EndStep.{packet_found_whole, EndEffect, message_of, end_step}
use Rattle.uug_line.specs.LineEndState.{LineEndState, Participant, after_call, does, found_at, took}

abbrev pub with_packet : {C : Type 0} → PacketValue → (place : ℕ) → LineEndState C → EndEffect C → LineEndState C
with_packet packet place e effect =
    after_call (took effect.took (message_of packet) (found_at place e.log)) e.line effect

abbrev pub packet_taken_up : {C : Type 0} → Participant C → PacketValue → (place : ℕ) → LineEndState C → LineEndState C
packet_taken_up p packet place e =
    with_packet packet place e (end_step p.keeper p.identity (packet_found_whole false packet) e.state)

-- by the packet's place, if it has one: a packet that was not sent is not taken up
abbrev pub takes_sent : {C : Type 0} → Participant C → PacketValue → Option ℕ → LineEndState C → Option (LineEndState C)
takes_sent p packet None e = None
takes_sent p packet (Some place) e = Some (packet_taken_up p packet place e)

-- where the other end has emitted these packets
abbrev pub line_taker : {C : Type 0} → Participant C → (others : List PacketValue) → Receiver (LineEndState C)
line_taker p others = record {
  stage_of = λ e. e.state.stage;
  takes = does p;
  takes_packet = λ packet e. takes_sent p packet (place_of packet others e.log.passed) e;
}
