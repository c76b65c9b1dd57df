-- How an end comes to a session, which is called its beginning here (this project's profile).
use Rattle.std.specs.Prelude.{◌≡◌, ℕ, List, All, Option}
use Rattle.uug_link.specs.Announced.{Announced}
use Rattle.uug_link.specs.Terms.{IsWindow}
use Rattle.uug_session.specs.EndStep.{EndEffect, Identity, begins_session}
use Rattle.uug_conversation.specs.DialogueState.{DialogueState, unopened}
use Rattle.uug_conversation.specs.Holdings.{AreModes, Holdings, IsLimit, Kept}
use Rattle.uug_conversation.specs.Jobs.{Lists, at_start, pending}
use Rattle.uug_conversation.specs.Party.{HasNames, HoldsFronts, TakesSizes}
use Rattle.uug_conversation.specs.Sides.{AtBoth, at}
use Rattle.uug_conversation.specs.Turns.{other}
use Rattle.uug_conversation.specs.declared.side.Side.{Side}

-- what it is called, which end it calls or is called by, what the other end shall use, what its spool gives and accepts, its
-- jobs, all that its spool has kept, and the number of its conversations, where it keeps one
pub record EndBeginning : Type 0 where
  pub me : List ℕ
  pub peer : List ℕ
  pub own : Announced
  pub holdings : Holdings
  pub lists : Lists
  pub kept : List Kept
  pub number : Option ℕ

abbrev pub identity_of : Side → EndBeginning → Identity
identity_of side b = record { side = side; me = b.me; peer = b.peer }

-- its session begins so
abbrev pub first_effect : Side → EndBeginning → EndEffect DialogueState
first_effect side b = begins_session (identity_of side b) b.own b.number (unopened b.lists b.kept)

-- What the types of a program say of it: it announces a window, its files have modes and a limit, its pending jobs names, and all of
-- them are to be offered.
pub record IsSoundBeginning (b : EndBeginning) : Type 0 where
  pub window : IsWindow b.own.window
  pub modes : AreModes b.holdings
  pub limit : IsLimit b.holdings.limit
  pub names : All HasNames (pending b.lists)
  pub ahead : b.lists ≡ at_start (pending b.lists) b.lists.struck b.lists.failed

-- each is, what an end holds of the other's files are fronts of them, and none of them is too large for it
pub record AreSound (ends : AtBoth EndBeginning) : Type 0 where
  pub each : (side : Side) → IsSoundBeginning (at side ends)
  pub fronts : (giver : Side) → HoldsFronts (at giver ends).holdings (at (other giver) ends).holdings
  pub sizes : (giver : Side) → TakesSizes (at giver ends).holdings (at (other giver) ends).holdings
