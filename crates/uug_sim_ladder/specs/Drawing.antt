-- The ladder of a run: what each event does to what is on the line, and what both ends do then (this project's profile).
use Rattle.std.specs.Prelude.{ℕ, suc, ◌-◌, ◌==◌, Bool, true, false, List, [], ◌∷◌, length, slice_get, Option, Some, None}
use Rattle.uug_line.specs.declared.event.Event.{Event}
use Rattle.uug_line.specs.declared.event.Event.TheVariants.{Pass, Drop, Flip, Insert, Timeout, HangUp, Call}
use Rattle.uug_conversation.specs.declared.side.Side.{Side}
use Rattle.uug_conversation.specs.declared.side.Side.TheVariants.{Caller, Called}
use Rattle.uug_line.specs.declared.verdict.LineVerdict.{LineVerdict}
use Rattle.uug_line.specs.declared.verdict.LineVerdict.TheVariants.{Clean, Fooled}
use Rattle.uug_conversation.specs.Sides.{AtBoth}
use Rattle.uug_line.specs.Told.{SpelledEnd}
use Rattle.uug_sim_ladder.specs.declared.drawing.Drawing.{Drawing}
use Rattle.uug_sim_ladder.specs.declared.moment.Moment.{Moment}
use Rattle.uug_sim_ladder.specs.Acts.{Drawn, EndValue, acts, comes_to, end_begins, end_kept, says_texts}
use Rattle.uug_sim_ladder.specs.Moments.{Front, last_of, mark_at, moment_told}
use Rattle.uug_sim_ladder.specs.Rungs.{LadderValue, added, begins, hangs_up, ladder_shown, no_rungs, times_out}
use Rattle.uug_sim_ladder.specs.Way.{Way, drops, flips, inserts, passes}

-- a ladder that is being drawn, and what is kept of both ends
pub record DrawingValue : Type 0 where
  pub ladder : LadderValue
  pub caller : EndValue
  pub called : EndValue

-- ---- an end in a drawing

abbrev pub drawn_at : Side → DrawingValue → Drawn
drawn_at Caller d = record { ladder = d.ladder; end = d.caller }
drawn_at Called d = record { ladder = d.ladder; end = d.called }

abbrev pub with_drawn : Side → Drawn → DrawingValue → DrawingValue
with_drawn Caller x d = record { ladder = x.ladder; caller = x.end; called = d.called }
with_drawn Called x d = record { ladder = x.ladder; caller = d.caller; called = x.end }

abbrev pub with_rungs : LadderValue → DrawingValue → DrawingValue
with_rungs l d = record { ladder = l; caller = d.caller; called = d.called }

-- ---- a session begins

-- the one with this number
abbrev pub opens : Option ℕ → (number : ℕ) → LadderValue → DrawingValue
opens event number l =
    record { ladder = added event Caller (begins number) l; caller = end_begins; called = end_begins }

-- and what is on the line from the called end is its name
abbrev pub begins_session : Option ℕ → (number : ℕ) → Front → LadderValue → DrawingValue
begins_session event number now l =
    with_drawn Called (says_texts event Called now.lines.at_called (drawn_at Called (opens event number l))) (opens event number l)

abbrev pub first_drawing : Front → DrawingValue
first_drawing now = begins_session None 1 now no_rungs

-- ---- the line

abbrev pub way_from : LadderValue → EndValue → Way
way_from l e = record { bytes = e.way; fates = l.fates }

abbrev pub with_way_from : Way → Drawn → Drawn
with_way_from w d = record {
  ladder = record { rungs = d.ladder.rungs; fates = w.fates };
  end = record { next = d.end.next; way = w.bytes };
}

-- what is on the way from an end is changed so, and what becomes of it is drawn
abbrev pub on_way_from : (Way → Way) → Drawn → Drawn
on_way_from change d = with_way_from (change (way_from d.ladder d.end)) d

-- the end from which bytes lead to the side
abbrev pub from_other : Side → (Way → Way) → DrawingValue → DrawingValue
from_other Caller change d = with_drawn Called (on_way_from change (drawn_at Called d)) d
from_other Called change d = with_drawn Caller (on_way_from change (drawn_at Caller d)) d

abbrev pub loses_all : (event : ℕ) → Way → Way
loses_all event w = drops event (length w.bytes) w

-- what an event does on the line, or to an end; by a call all bytes are lost
abbrev pub happens : Event → (number : ℕ) → DrawingValue → DrawingValue
happens (Pass side n) number d = from_other side (passes number n) d
happens (Drop side n) number d = from_other side (drops number n) d
happens (Flip side mask) number d = from_other side (flips number mask) d
happens (Insert side byte) number d = from_other side (inserts number) d
happens (Timeout side) number d = with_rungs (added (Some number) side times_out d.ladder) d
happens (HangUp side) number d = with_rungs (added (Some number) side hangs_up d.ladder) d
happens Call number d = from_other Called (loses_all number) (from_other Caller (loses_all number) d)

-- ---- what both ends do then

-- one of them, of whose session this is told, and from which this is on the line
abbrev pub side_acts : (number : ℕ) → Side → (before after : Moment) → SpelledEnd → (line : List ℕ) → DrawingValue → DrawingValue
side_acts number side before after told line d =
    with_drawn side (acts number side (mark_at side before) (mark_at side after) told.packets line (drawn_at side d)) d

-- both, the caller first
abbrev pub both_act : (number : ℕ) → (before after : Moment) → AtBoth SpelledEnd → (lines : AtBoth (List ℕ)) → DrawingValue → DrawingValue
both_act number before after told lines d =
    side_acts number Called before after told.at_called lines.at_called
    (side_acts number Caller before after told.at_caller lines.at_caller d)

-- the session that is over, and a new one begins
abbrev pub ends_at : (number : ℕ) → (before : Moment) → Option (AtBoth SpelledEnd) → LadderValue → LadderValue
ends_at number before None l = l
ends_at number before (Some over) l =
    comes_to number Called before.called.phase over.at_called.phase
    (comes_to number Caller before.caller.phase over.at_caller.phase l)

abbrev pub calls_again : (number : ℕ) → (before after : Moment) → (now : Front) → DrawingValue → DrawingValue
calls_again number before after now d =
    begins_session (Some number) after.session now
    (ends_at number before (slice_get now.told.sessions (before.session - 1)) d.ladder)

abbrev pub acts_in : (number : ℕ) → (before after : Moment) → Option (AtBoth SpelledEnd) → (lines : AtBoth (List ℕ)) → DrawingValue →
    DrawingValue
acts_in number before after None lines d = d
acts_in number before after (Some told) lines d = both_act number before after told lines d

-- whether it is the same session
abbrev pub goes_on : (same : Bool) → (number : ℕ) → (before after : Moment) → (now : Front) → DrawingValue → DrawingValue
goes_on true number before after now d = acts_in number before after (last_of now.told.sessions) now.lines d
goes_on false number before after now d = calls_again number before after now d

-- an event, by what both ends have done before it and behind it
abbrev pub stepped : Event → (number : ℕ) → (before after : Option Moment) → (now : Front) → DrawingValue → DrawingValue
stepped event number None after now d = d
stepped event number (Some before) None now d = d
stepped event number (Some before) (Some after) now d =
    goes_on (before.session == after.session) number before after now (happens event number d)

abbrev pub steps : Event → (number : ℕ) → (before now : Front) → DrawingValue → DrawingValue
steps event number before now d = stepped event number (moment_told before.told) (moment_told now.told) now d

-- ---- the run

-- a run that is fooled has stopped
abbrev pub is_fooled : LineVerdict → Bool
is_fooled Clean = false
is_fooled (Fooled event side) = true

abbrev pub unless_fooled : (is_fooled : Bool) → (more : DrawingValue → DrawingValue) → DrawingValue → DrawingValue
unless_fooled false more d = more d
unless_fooled true more d = d

-- the events from that number on, where this is the front with so many events
abbrev pub draws : (front : ℕ → Front) → (number : ℕ) → List Event → DrawingValue → DrawingValue
draws front number [] d = d
draws front number (event ∷ events) d =
    unless_fooled (is_fooled (front (suc number)).told.verdict) (draws front (suc number) events)
    (steps event number (front number) (front (suc number)) d)

-- ---- as the program keeps it

abbrev pub drawing_shown : {A : Type 0} → Drawing A → DrawingValue
drawing_shown d =
    record { ladder = ladder_shown d.ladder; caller = end_kept d.caller; called = end_kept d.called }
