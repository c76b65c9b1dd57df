-- Which events led a node from one state to another, so that an end of the program is told as a course is (this project's
-- profile). A run is a session from its beginning on.
use Rattle.std.specs.Prelude.{◌≡◌, List, [], ◌∷◌}
use Rattle.uug_session.specs.EndStep.{EndEvent, EndState, Identity, end_step}
use Rattle.uug_session.specs.Engine.{end_of}
use Rattle.uug_session.specs.Node.{NodeState}
use Rattle.uug_conversation.specs.DialogueState.{DialogueState, end_keeper}
use Rattle.uug_conversation.specs.Holdings.{Holdings, Kept}
use Rattle.uug_conversation.specs.declared.side.Side.{Side}
use Rattle.uug_session.specs.Beginnings.{EndBeginning, first_effect, identity_of}

-- the end that is so called, with a spool that gives and accepts this, behind these events
abbrev pub state_after : Holdings → Identity → List EndEvent → EndState DialogueState → EndState DialogueState
state_after h id [] e = e
state_after h id (event ∷ events) e = state_after h id events (end_step (end_keeper id.side h) id event e).state

-- Some events led the node from the one state, beside a spool that had kept this, to the other. Who the end is stays.
pub record IsLedByEvents (h : Holdings) (kept kept_after : List Kept) (before after : NodeState) : Type 0 where
  pub events : List EndEvent
  pub leads : state_after h before.engine.identity events (end_of h kept before.engine) ≡ end_of h kept_after after.engine
  pub identity : after.engine.identity ≡ before.engine.identity

-- The node of an end that comes so to a session has begun it.
pub record BeginsAsEnd (side : Side) (b : EndBeginning) (n : NodeState) : Type 0 where
  pub identity : n.engine.identity ≡ identity_of side b
  pub state : end_of b.holdings b.kept n.engine ≡ (first_effect side b).state

-- It has begun it, and events led it from there to this state, beside a spool that has then kept this.
pub record HasRun (side : Side) (b : EndBeginning) (kept_after : List Kept) (n : NodeState) : Type 0 where
  pub first : NodeState
  pub begun : BeginsAsEnd side b first
  pub led : IsLedByEvents b.holdings b.kept kept_after first n
