-- What the types of a program's set-up say of it, and what is looked at before a run (this project's profile).
use Rattle.std.specs.Prelude.{All}
use Rattle.uug_link.specs.Terms.{IsWindow}
use Rattle.uug_conversation.specs.Holdings.{AreModes, IsLimit}
use Rattle.uug_conversation.specs.Jobs.{pending}
use Rattle.uug_conversation.specs.Party.{HasNames, HoldsNone, TakesSizes}
use Rattle.uug_conversation.specs.Partials.{holding}
use Rattle.uug_conversation.specs.Turns.{other}
use Rattle.uug_conversation.specs.declared.side.Side.{Side}
use Rattle.uug_line.specs.Belongings.{EndSetupValue, SetupValue}
use Rattle.uug_conversation.specs.Sides.{at}

-- it announces a window, its files have modes and a limit, its pending jobs names, and nothing is held of an earlier session
pub record IsSoundEnd (e : EndSetupValue) : Type 0 where
  pub window : IsWindow e.own.window
  pub modes : AreModes e.holdings
  pub limit : IsLimit e.holdings.limit
  pub names : All HasNames (pending e.belongings.lists)
  pub holds_none : HoldsNone (holding e.belongings.partials e.holdings)

-- each end is, and no file of one is too large for the other
pub record IsSoundSetup (setup : SetupValue) : Type 0 where
  pub each : (side : Side) → IsSoundEnd (at side setup)
  pub sizes : (giver : Side) → TakesSizes (at giver setup).holdings (at (other giver) setup).holdings
