-- The headline, said of a report: what holds of it for every two ends, whatever happens on the line between them, and
-- whichever way the report keeps packets (this project's profile).
use Rattle.std.specs.Prelude.{◌≡◌, ◌≤◌, List, ◌++◌, length, drop, All}
use Rattle.uug_conversation.specs.Turns.{other}
use Rattle.uug_link.specs.TwoLinks.{IsFrontOf}
use Rattle.uug_conversation.specs.declared.job.Job.{Job}
use Rattle.uug_conversation.specs.Holdings.{Kept}
use Rattle.uug_conversation.specs.OwnEntries.{HasOwnEntries}
use Rattle.uug_conversation.specs.declared.side.Side.{Side}
use Rattle.uug_line.specs.Belongings.{SetupValue}
use Rattle.uug_conversation.specs.Sides.{AtBoth, at}
use Rattle.uug_line.specs.Told.{ToldEnd, ToldReport}

-- ---- in a session

-- what each end has taken are the first messages that the other has sent
abbrev pub TookFronts : {P : Type 0} → AtBoth (ToldEnd P) → Type 0
TookFronts session = (side : Side) → IsFrontOf (at side session).taken (at (other side) session).sent

-- no end ever had more unacknowledged packets than the other announced
abbrev pub KeptToWindows : {P : Type 0} → SetupValue → AtBoth (ToldEnd P) → Type 0
KeptToWindows setup session = (side : Side) → (at side session).most ≤ (at (other side) setup).own.window

-- ---- in all sessions of a report

abbrev pub AllTookFronts : {P : Type 0} → ToldReport P → Type 0
AllTookFronts report = All TookFronts report.sessions

abbrev pub AllKeptToWindows : {P : Type 0} → SetupValue → ToldReport P → Type 0
AllKeptToWindows setup report = All (KeptToWindows setup) report.sessions

-- ---- since the set-up

-- what stands behind the elements that a list had before
abbrev pub since : {A : Type 0} → (before now : List A) → List A
since before now = drop (length before) now

-- the jobs that the end on the side has struck since the set-up, and the files that it has stored since then
abbrev pub struck_since : {P : Type 0} → SetupValue → ToldReport P → Side → List Job
struck_since setup report side =
    since (at side setup).belongings.lists.struck (at side report.belongings).lists.struck

abbrev pub stored_since : {P : Type 0} → SetupValue → ToldReport P → Side → List Kept
stored_since setup report side = since (at side setup).belongings.kept (at side report.belongings).kept

-- what was struck and stored before stays in front
pub record StaysInFront {P : Type 0} (setup : SetupValue) (report : ToldReport P) (side : Side) : Type 0 where
  pub struck : (at side report.belongings).lists.struck
      ≡ (at side setup).belongings.lists.struck ++ struck_since setup report side
  pub stored : (at side report.belongings).kept ≡ (at side setup).belongings.kept ++ stored_since setup report side

-- Each job struck since the set-up whose file came from the end on the side, the giver, has an entry of its own among
-- those stored at the other end since then: the name where it lands there, its target in a set-up of the program, and the
-- mode and bytes that the giver's spool has. As this holds after all events, it holds after each: a job is struck only after
-- its file was stored.
abbrev pub StruckWereStored : {P : Type 0} → SetupValue → ToldReport P → (giver : Side) → Type 0
StruckWereStored setup report giver =
    HasOwnEntries (at giver setup).holdings (at (other giver) setup).holdings (struck_since setup report giver)
    (struck_since setup report (other giver)) (stored_since setup report (other giver))
