-- What an end emits at one event, and how its session then stands, worked out by hand.
use Rattle.std.proofs.Common.{◌≡◌, ℕ, true, false, List, [], ◌∷◌, codes, None, refl}
use Rattle.uug_link.specs.Announced.{Announced}
use Rattle.uug_link.specs.State.{State, called_state, caller_state}
use Rattle.uug_link.specs.Terms.{smallest_code}
use Rattle.uug_link.specs.declared.phase.Phase.TheVariants as phases
use Rattle.uug_packet.specs.Packet.{ControlValue, control, carry, close, rr, rj}
use Rattle.uug_talk.specs.declared.gather.TheConstants.{FILE_MAX}
use Rattle.uug_conversation.specs.declared.awaits.Awaits.{Awaits}
use Rattle.uug_conversation.specs.declared.awaits.Awaits.TheVariants as awaits
use Rattle.uug_session.specs.declared.end.End.TheVariants as ends
use Rattle.uug_session.specs.EndStep.{Stage, linked, ended, Emitted, says_text, sends_packet, EndEffect, Identity, EndEvent, packet_found_whole, broken_found, time_ran_out, line_lost, end_step}
use Rattle.uug_conversation.specs.Jobs.{at_start}
use Rattle.uug_conversation.specs.DialogueState.{DialogueState, end_keeper}
use Rattle.uug_conversation.specs.declared.side.Side.{Side}
use Rattle.uug_conversation.specs.declared.side.Side.TheVariants.{Caller, Called}
use Rattle.uug_conversation.proofs.FactParties.{Exception, no_exception, fixed, holdings, q, y, text}

-- ---- an end that stands so, and what comes

abbrev pub announced : Announced
announced = record { window = 2; size_code = 0; quiet = false; short = false }

-- it has sent one message, which is acknowledged, and taken none
abbrev pub link_of : Side → State
link_of Caller = record (caller_state announced) { phase = phases.Up; window = 2; oldest = 2 }
link_of Called = record (called_state announced) { phase = phases.Up; window = 2; oldest = 2 }

abbrev pub id_of : Side → Identity
id_of side = record { side = side; me = codes "a"; peer = codes "b" }

abbrev pub dialogue : Awaits → (gathered : List ℕ) → (waiting : List (List ℕ)) → DialogueState
dialogue next gathered waiting = record {
  opened = true;
  machine = record { lists = at_start [] [] []; awaits = next; gathered = gathered };
  measure = record { size = 32; short = false };
  waiting = waiting;
  kept = [];
}

abbrev pub after : Exception → Side → State → DialogueState → EndEvent → EndEffect DialogueState
after exception side link talk event =
    end_step (end_keeper side (holdings q None exception)) (id_of side) event (record { stage = linked; link = link; keeper = talk; number = None })

abbrev pub closing : Side → State
closing side = record (link_of side) { phase = phases.Closing }

abbrev pub after_seven_timeouts : State → State
after_seven_timeouts link = record link { timeouts = 7 }

-- the first message that comes, in a packet that acknowledges the one that was sent
abbrev pub comes : List ℕ → EndEvent
comes message = packet_found_whole false (carry 1 1 1 message)

abbrev pub device_fails_at : List ℕ → EndEvent
device_fails_at message = packet_found_whole true (carry 1 1 1 message)

abbrev pub close_comes : EndEvent
close_comes = packet_found_whole false (control close)

abbrev pub puts : ControlValue → Emitted
puts c = sends_packet (record { packet = control c; first = false })

abbrev pub says : List ℕ → Emitted
says message = sends_packet (record { packet = carry 2 1 1 message; first = true })

abbrev pub six_letters : Emitted
six_letters = says_text (codes "OOOOOO")

abbrev pub seven_letters : Emitted
seven_letters = says_text (codes "OOOOOOO")

-- what went out, and where the session then stands
pub record Leads (e : EndEffect DialogueState) (emitted : List Emitted) (stage : Stage) : Type 0 where
  pub out : e.emitted ≡ emitted
  pub stands : e.state.stage ≡ stage

-- ---- the end of a session

pub last_words_and_close : Leads (after no_exception Caller (link_of Caller) (dialogue awaits.HangUpAnswer [] []) (comes (text (codes "HY"))))
    (puts (rr 1) ∷ says (text (codes "HY")) ∷ puts close ∷ []) linked
unfolding smallest_code
last_words_and_close = record { out = refl; stands = refl }

pub closed_at_the_caller : Leads (after no_exception Caller (closing Caller) (dialogue awaits.NothingMore [] []) close_comes)
    (six_letters ∷ []) (ended ends.Done)
closed_at_the_caller = record { out = refl; stands = refl }

pub closed_at_the_called_end : Leads (after no_exception Called (link_of Called) (dialogue awaits.LastHangUp [] []) close_comes)
    (puts close ∷ seven_letters ∷ []) (ended ends.Done)
closed_at_the_called_end = record { out = refl; stands = refl }

pub closed_before_that : Leads (after no_exception Called (link_of Called) (dialogue awaits.Order [] []) close_comes)
    (puts close ∷ []) (ended ends.PeerClosed)
closed_before_that = record { out = refl; stands = refl }

-- HY still waits for room
pub closed_before_it_was_sent : Leads (after no_exception Called (link_of Called) (dialogue awaits.LastHangUp [] (text (codes "HY") ∷ [])) close_comes)
    (puts close ∷ []) (ended ends.PeerClosed)
closed_before_it_was_sent = record { out = refl; stands = refl }

pub bad_text : Leads (after no_exception Called (link_of Called) (dialogue awaits.Order [] []) (comes (text (codes "E x"))))
    (puts (rr 1) ∷ puts close ∷ []) (ended ends.BadTalk)
bad_text = record { out = refl; stands = refl }

pub bad_text_after_that : Leads (after no_exception Called (link_of Called) (dialogue awaits.LastHangUp [] []) (comes (text (codes "E x"))))
    (puts (rr 1) ∷ puts close ∷ seven_letters ∷ []) (ended ends.Done)
bad_text_after_that = record { out = refl; stands = refl }

pub gives_up : Leads (after no_exception Caller (after_seven_timeouts (link_of Caller)) (dialogue awaits.Order [] []) time_ran_out)
    (puts close ∷ []) (ended ends.GaveUp)
gives_up = record { out = refl; stands = refl }

pub gives_up_closing : Leads (after no_exception Caller (after_seven_timeouts (closing Caller)) (dialogue awaits.NothingMore [] []) time_ran_out)
    (puts close ∷ six_letters ∷ []) (ended ends.Done)
gives_up_closing = record { out = refl; stands = refl }

pub repeats_close : Leads (after no_exception Caller (closing Caller) (dialogue awaits.NothingMore [] []) time_ran_out)
    (puts close ∷ []) linked
repeats_close = record { out = refl; stands = refl }

pub line_is_lost : Leads (after no_exception Caller (link_of Caller) (dialogue awaits.SendAnswer [] []) line_lost) [] (ended ends.HungUp)
line_is_lost = record { out = refl; stands = refl }

pub line_is_lost_after_that : Leads (after no_exception Caller (closing Caller) (dialogue awaits.NothingMore [] []) line_lost) [] (ended ends.Done)
line_is_lost_after_that = record { out = refl; stands = refl }

-- ---- the spool's device

pub device_fails : Leads (after no_exception Called (link_of Called) (dialogue (awaits.SentFile q y 420 None FILE_MAX) [] []) (device_fails_at []))
    (puts (rr 1) ∷ puts close ∷ []) (ended ends.SpoolFault)
device_fails = record { out = refl; stands = refl }

-- the spool is not asked where the file can't be put in its place, or where no file ends
pub device_is_not_asked : Leads (after (fixed y) Called (link_of Called) (dialogue (awaits.SentFile q y 420 None FILE_MAX) [] []) (device_fails_at []))
    (puts (rr 1) ∷ says (text (codes "CN5")) ∷ []) linked
unfolding smallest_code
device_is_not_asked = record { out = refl; stands = refl }

pub device_has_no_part : Leads (after no_exception Called (link_of Called) (dialogue awaits.Order [] []) (device_fails_at (text (codes "H"))))
    (puts (rr 1) ∷ says (text (codes "HY")) ∷ []) linked
unfolding smallest_code
device_has_no_part = record { out = refl; stands = refl }

-- ---- what waits goes out when there is room

pub sends_what_waits : Leads (after no_exception Called (record (link_of Called) { oldest = 1; unacked = (1 ∷ []) ∷ (2 ∷ []) ∷ [] })
    (dialogue awaits.GivenFileDone [] ((3 ∷ []) ∷ (4 ∷ []) ∷ [])) (packet_found_whole false (control (rr 1))))
    (sends_packet (record { packet = carry 3 0 1 (3 ∷ []); first = true }) ∷ []) linked
unfolding smallest_code
sends_what_waits = record { out = refl; stands = refl }

pub asks_again : Leads (after no_exception Called (link_of Called) (dialogue awaits.Order [] []) broken_found) (puts (rj 0) ∷ []) linked
asks_again = record { out = refl; stands = refl }
