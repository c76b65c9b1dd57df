-- Two ends of a session, each at any line, and an order of all events at both: that neither was fooled, and the
-- promises that hold then (this project's profile).
use Rattle.std.specs.Prelude.{◌≡◌, ◌≤◌, ℕ, List, [], ◌∷◌, ◌++◌, take}
use Rattle.uug_link.specs.TwoLinks.{IsFrontOf}
use Rattle.uug_session.specs.EndStep.{EndEvent}
use Rattle.uug_conversation.specs.Holdings.{Kept}
use Rattle.uug_conversation.specs.OwnEntries.{HasOwnEntries}
use Rattle.uug_conversation.specs.Sides.{AtBoth, at}
use Rattle.uug_conversation.specs.Turns.{other}
use Rattle.uug_conversation.specs.declared.job.Job.{Job}
use Rattle.uug_conversation.specs.declared.side.Side.{Side}
use Rattle.uug_conversation.specs.declared.side.Side.TheVariants.{Caller, Called}
use Rattle.uug_line.specs.Headline.{since}
use Rattle.uug_line.specs.LineEndState.{messages_sent, packets_in}
use Rattle.uug_line.specs.WereSent.{WereSent}
use Rattle.uug_session.specs.Beginnings.{EndBeginning}
use Rattle.uug_pair.specs.Courses.{EndCourse, course}

-- an event, and the side of the end to which it happened
pub record EventAt : Type 0 where
  pub side : Side
  pub event : EndEvent

-- adds an event, if it happened on this side
abbrev pub if_here : (here there : Side) → EndEvent → List EndEvent → List EndEvent
if_here Caller Caller event events = event ∷ events
if_here Called Called event events = event ∷ events
if_here _ _ event events = events

-- the events of the end on this side, in their order
abbrev pub events_at : Side → List EventAt → List EndEvent
events_at side [] = []
events_at side (e ∷ order) = if_here side e.side e.event (events_at side order)

-- the course of the end on this side, by its events
abbrev pub course_at : AtBoth EndBeginning → List EventAt → Side → EndCourse
course_at ends order side = course side (at side ends) (events_at side order)

-- At each moment of this order, the packets that an end has found are some of those that the other end had emitted by
-- then in this session, in the same order and none more often. No packet that was not sent passed its checksum.
abbrev pub NoneIsFooled : AtBoth EndBeginning → List EventAt → Type 0
NoneIsFooled ends order = (n : ℕ) (side : Side) → WereSent (course_at ends (take n order) side).found
    (packets_in (course_at ends (take n order) (other side)).emitted)

-- the jobs that the end on this side has struck in the session, and the files that its spool has kept in it
abbrev pub struck_by : AtBoth EndBeginning → List EventAt → Side → List Job
struck_by ends order side =
    since (at side ends).lists.struck (course_at ends order side).state.keeper.machine.lists.struck

abbrev pub stored_by : AtBoth EndBeginning → List EventAt → Side → List Kept
stored_by ends order side = since (at side ends).kept (course_at ends order side).state.keeper.kept

pub record KeepsPromises (ends : AtBoth EndBeginning) (order : List EventAt) : Type 0 where
  -- the messages that each end has taken are the first ones that the other has sent
  pub front : (side : Side) → IsFrontOf (course_at ends order side).taken
      (messages_sent (course_at ends order (other side)).emitted)
  -- each struck job whose file came from the giver has its own entry among those stored at the other end: the name
  -- where the file lands there, and the mode and bytes that the giver's spool has
  pub stored : (giver : Side) → HasOwnEntries (at giver ends).holdings (at (other giver) ends).holdings
      (struck_by ends order giver) (struck_by ends order (other giver)) (stored_by ends order (other giver))
  -- what was struck and kept before the session stays at the front
  pub struck_before : (side : Side) → (course_at ends order side).state.keeper.machine.lists.struck
      ≡ (at side ends).lists.struck ++ struck_by ends order side
  pub stored_before : (side : Side) → (course_at ends order side).state.keeper.kept
      ≡ (at side ends).kept ++ stored_by ends order side
  -- no end ever has more unacknowledged packets than the other announced
  pub window : (side : Side) → (course_at ends order side).most ≤ (at (other side) ends).own.window
