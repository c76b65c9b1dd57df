-- Two ends told by their events, worked out by hand: a session, a device that fails, losses, and what is so of packets that
-- come to an end alone.
use Rattle.std.proofs.Common.{◌≡◌, ℕ, zero, suc, Bool, true, false, List, [], ◌∷◌, length, codes, slice_get, Option, Some, None, refl}
use Rattle.uug_link.specs.Terms.{smallest_code}
use Rattle.uug_conversation.specs.Holdings.{Kept}
use Rattle.uug_conversation.specs.Jobs.{at_start, pending}
use Rattle.uug_conversation.specs.MemoryHoldings.{MemoryHoldings, holdings_of, no_holdings}
use Rattle.uug_conversation.specs.Sides.{AtBoth, at, with_at}
use Rattle.uug_conversation.specs.Turns.{other}
use Rattle.uug_conversation.specs.declared.job.Job.{Job}
use Rattle.uug_conversation.specs.declared.job.Job.TheVariants as job
use Rattle.uug_conversation.specs.declared.side.Side.{Side}
use Rattle.uug_conversation.specs.declared.side.Side.TheVariants.{Caller, Called}
use Rattle.uug_session.specs.declared.end.End.TheVariants as ends
use Rattle.uug_session.specs.EndStep.{EndEvent, Emitted, Stage, hailing, ended, packet_found_whole, says_text, sends_packet, text_found, time_ran_out}
use Rattle.uug_session.specs.Greeting.{greeting_at_first}
use Rattle.uug_line.specs.LineEndState.{packets_in}
use Rattle.uug_session.specs.Beginnings.{EndBeginning, identity_of}
use Rattle.uug_pair.specs.Courses.{EndCourse, course_step, first_course}
use Rattle.uug_pair.specs.TwoCourses.{EventAt, NoneIsFooled, course_at, events_at}
use Rattle.uug_pair.proofs.HonestLemmas.{honest, none_fooled}

-- ---- the two ends

abbrev pub end_with : (me peer : List ℕ) → List Job → MemoryHoldings → EndBeginning
end_with me peer jobs spool = record {
  me = me;
  peer = peer;
  own = record { window = 2; size_code = 0; quiet = false; short = false };
  holdings = holdings_of spool;
  lists = at_start jobs [] [];
  kept = [];
  number = None;
}

-- an empty file of mode octal 644
abbrev pub empty_file : (name : List ℕ) → Kept
empty_file name = record { name = name; mode = 420; bytes = [] }

-- a sends the file x, which b keeps as y
abbrev pub two_ends : AtBoth EndBeginning
two_ends = record {
  at_caller = end_with (codes "a") (codes "b") (job.Send (codes "x") (codes "y") (codes "u") None ∷ [])
      (record no_holdings { files = empty_file (codes "x") ∷ [] });
  at_called = end_with (codes "b") (codes "a") [] no_holdings;
}

-- ---- what happens, by what the ends emit

pub data Act : Type 0 where
  -- the end on the side finds the next that the other has emitted, if there is one; its spool's device fails then or does not
  finds_next : Side → (failed : Bool) → Act
  -- the next is lost
  loses_next : Side → Act
  waits : Side → Act

abbrev pub found_event : (failed : Bool) → Emitted → EndEvent
found_event failed (says_text text) = text_found text
found_event failed (sends_packet e) = packet_found_whole failed e.packet

abbrev pub one_more : AtBoth ℕ → Side → AtBoth ℕ
one_more passed side = with_at side (suc (at side passed)) passed

abbrev pub after : AtBoth EndBeginning → Side → EndEvent → AtBoth EndCourse → AtBoth EndCourse
after both side event courses =
    with_at side (course_step (at side both).holdings (identity_of side (at side both)) event (at side courses)) courses

-- by what is there, where so much of what the other end emits was found or lost
abbrev pub finds_it : (more : AtBoth EndCourse → AtBoth ℕ → List EventAt) → AtBoth EndBeginning → Side → (failed : Bool) →
    Option Emitted → AtBoth EndCourse → AtBoth ℕ → List EventAt
finds_it more both side failed None courses passed = more courses passed
finds_it more both side failed (Some e) courses passed =
    record { side = side; event = found_event failed e }
    ∷ more (after both side (found_event failed e) courses) (one_more passed side)

abbrev pub plays : AtBoth EndBeginning → List Act → AtBoth EndCourse → AtBoth ℕ → List EventAt
plays both [] courses passed = []
plays both (finds_next side failed ∷ acts) courses passed =
    finds_it (plays both acts) both side failed (slice_get (at (other side) courses).emitted (at side passed)) courses passed
plays both (loses_next side ∷ acts) courses passed = plays both acts courses (one_more passed side)
plays both (waits side ∷ acts) courses passed =
    record { side = side; event = time_ran_out } ∷ plays both acts (after both side time_ran_out courses) passed

abbrev pub order_of : List Act → List EventAt
order_of acts = plays two_ends acts
    (record { at_caller = first_course Caller two_ends.at_caller; at_called = first_course Called two_ends.at_called })
    (record { at_caller = 0; at_called = 0 })

-- the one finds something and then the other, so many times
abbrev pub rounds : (failed : Bool) → ℕ → List Act → List Act
rounds failed zero acts = acts
rounds failed (suc n) acts = finds_next Caller false ∷ finds_next Called failed ∷ rounds failed n acts

-- ---- what the ends have come to

pub record Summary : Type 0 where
  pub stage : Stage
  -- packets
  pub emitted : ℕ
  pub found : ℕ
  -- messages
  pub taken : ℕ
  -- jobs
  pub left : ℕ
  pub struck : ℕ
  pub stored : List Kept

abbrev pub summary : EndCourse → Summary
summary c = record {
  stage = c.state.stage;
  emitted = length (packets_in c.emitted);
  found = length c.found;
  taken = length c.taken;
  left = length (pending c.state.keeper.machine.lists);
  struck = length c.state.keeper.machine.lists.struck;
  stored = c.state.keeper.kept;
}

abbrev pub come_to : List EventAt → AtBoth Summary
come_to order = record {
  at_caller = summary (course_at two_ends order Caller);
  at_called = summary (course_at two_ends order Called);
}

-- ---- a session

abbrev pub whole_session : List EventAt
whole_session = order_of (rounds false 30 [])

pub session_is : come_to whole_session ≡ record {
  at_caller = record { stage = ended ends.Done; emitted = 11; found = 11; taken = 3; left = 0; struck = 1; stored = [] };
  at_called = record { stage = ended ends.Done; emitted = 11; found = 11; taken = 4; left = 0; struck = 0; stored = empty_file (codes "y") ∷ [] };
}
unfolding smallest_code
session_is = refl

pub session_is_honest : NoneIsFooled two_ends whole_session
unfolding smallest_code
session_is_honest = none_fooled two_ends whole_session refl

-- ---- the device of b fails at the file: its link has taken the message, and nothing is struck or stored

abbrev pub failing_session : List EventAt
failing_session = order_of (rounds true 30 [])

pub failing_is : come_to failing_session ≡ record {
  at_caller = record { stage = ended ends.PeerClosed; emitted = 7; found = 7; taken = 1; left = 1; struck = 0; stored = [] };
  at_called = record { stage = ended ends.SpoolFault; emitted = 7; found = 6; taken = 2; left = 0; struck = 0; stored = [] };
}
unfolding smallest_code
failing_is = refl

pub failing_is_honest : NoneIsFooled two_ends failing_session
unfolding smallest_code
failing_is_honest = none_fooled two_ends failing_session refl

-- ---- a packet is lost, and comes again after a timeout

abbrev pub losing_session : List EventAt
losing_session = order_of (rounds false 10 (loses_next Called ∷ waits Caller ∷ rounds false 30 []))

pub losing_is : come_to losing_session ≡ record {
  at_caller = record { stage = ended ends.Done; emitted = 12; found = 11; taken = 3; left = 0; struck = 1; stored = [] };
  at_called = record { stage = ended ends.Done; emitted = 11; found = 11; taken = 4; left = 0; struck = 0; stored = empty_file (codes "y") ∷ [] };
}
unfolding smallest_code
losing_is = refl

pub losing_is_honest : NoneIsFooled two_ends losing_session
unfolding smallest_code
losing_is_honest = none_fooled two_ends losing_session refl

-- ---- That none is fooled is needed: what b emitted in that session, played back to a alone, strikes its job.

abbrev pub at_caller_only : List EndEvent → List EventAt
at_caller_only [] = []
at_caller_only (event ∷ events) = record { side = Caller; event = event } ∷ at_caller_only events

abbrev pub played_back : List EventAt
played_back = at_caller_only (events_at Caller whole_session)

pub played_back_is : come_to played_back ≡ record {
  at_caller = record { stage = ended ends.Done; emitted = 11; found = 11; taken = 3; left = 0; struck = 1; stored = [] };
  at_called = record { stage = hailing (greeting_at_first Called); emitted = 0; found = 0; taken = 0; left = 0; struck = 0; stored = [] };
}
unfolding smallest_code
played_back_is = refl

pub played_back_is_not_honest : honest two_ends played_back ≡ false
unfolding smallest_code
played_back_is_not_honest = refl
