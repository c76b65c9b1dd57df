-- An end says what it can, and closes where all is said and taken (this project's profile).
use Rattle.uug_session.specs.EndStep.{EndState}
use Rattle.uug_conversation.specs.Keeper.{Keeper}
use Rattle.uug_session.specs.Sending.{HasClosedWhereItIsOver, HasSaidWhatItCan}
use Rattle.uug_conversation.specs.declared.side.Side.{Side}
use Rattle.uug_line.specs.Belongings.{SetupValue}
use Rattle.uug_line.specs.Run.{Run, end_at, parties}
use Rattle.uug_line.specs.RunKeeper.{RunKeeper}

pub record HasSpoken {C : Type 0} (k : Keeper C) (e : EndState C) : Type 0 where
  -- on a link that is up the window lets no message more out, or none waits to be sent
  pub said : HasSaidWhatItCan k e
  -- and there is something to say or to take yet
  pub goes_on : HasClosedWhereItIsOver k e

-- both ends of the present session
abbrev pub HaveSpoken : {C : Type 0} → RunKeeper C → SetupValue → Run C → Type 0
HaveSpoken k setup run = (side : Side) → HasSpoken (k.keeper (parties setup run.brought) side) (end_at side run).end.state
