-- Two nodes, one at each end of a session, and an order of the events that led them (this project's profile).
use Rattle.std.specs.Prelude.{◌≡◌, List}
use Rattle.uug_session.specs.Engine.{end_of}
use Rattle.uug_session.specs.Node.{NodeState, struck_jobs}
use Rattle.uug_conversation.specs.Holdings.{Holdings, Kept}
use Rattle.uug_conversation.specs.Jobs.{Lists}
use Rattle.uug_conversation.specs.Sides.{AtBoth, at, at_each}
use Rattle.uug_conversation.specs.declared.job.Job.{Job}
use Rattle.uug_conversation.specs.declared.side.Side.{Side}
use Rattle.uug_line.specs.Headline.{since}
use Rattle.uug_session.specs.Beginnings.{EndBeginning}
use Rattle.uug_session.specs.NodeRuns.{HasRun}
use Rattle.uug_pair.specs.TwoCourses.{EventAt, course_at, events_at}

-- Each node has run its session up to its present state, with a spool that has kept these files by then. The order has
-- the events of both.
pub record HaveRun (ends : AtBoth EndBeginning) (order : List EventAt) (kept : AtBoth (List Kept)) (nodes : AtBoth NodeState) :
    Type 0 where
  pub runs : (side : Side) → HasRun side (at side ends) (at side kept) (at side nodes)
  pub events : (side : Side) → events_at side order ≡ (runs side).led.events

-- the events of the end on this side have led to the state of the node and the spool there
abbrev pub Stands : AtBoth EndBeginning → List EventAt → AtBoth (List Kept) → AtBoth NodeState → Side → Type 0
Stands ends order kept nodes side =
    (course_at ends order side).state ≡ end_of (at side ends).holdings (at side kept) (at side nodes).engine

abbrev pub lists_of : NodeState → Lists
lists_of n = n.engine.dialogue.machine.lists

-- the jobs that the node on this side has struck in the session, and the files that its spool has kept in it
abbrev pub struck_at : AtBoth EndBeginning → AtBoth NodeState → Side → List Job
struck_at ends nodes side = since (at side ends).lists.struck (struck_jobs (at side nodes))

abbrev pub kept_at : AtBoth EndBeginning → AtBoth (List Kept) → Side → List Kept
kept_at ends kept side = since (at side ends).kept (at side kept)

abbrev pub holdings_at : AtBoth EndBeginning → AtBoth Holdings
holdings_at ends = at_each (λ side. (at side ends).holdings)

abbrev pub kept_by_both : AtBoth EndBeginning → AtBoth (List Kept) → AtBoth (List Kept)
kept_by_both ends kept = at_each (kept_at ends kept)
