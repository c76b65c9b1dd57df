-- Before its link has begun, an end has nothing unacknowledged.
use Rattle.std.proofs.Common.{◌≡◌, length, refl, ap, ◌∙◌}
use Rattle.uug_link.specs.Announced.{Announced}
use Rattle.uug_link.specs.State.{State as LinkState}
use Rattle.uug_session.specs.EndStep.{Identity, Stage, first_link}
use Rattle.uug_session.specs.Engine.{IsHailing, IsReady}
use Rattle.uug_conversation.specs.DialogueValue.{DialogueValue}
use Rattle.uug_conversation.specs.declared.side.Side.{Side}
use Rattle.uug_conversation.specs.declared.side.Side.TheVariants.{Caller, Called}

none_at_first : (side : Side) (own : Announced) → length (first_link side own).unacked ≡ 0
none_at_first Caller own = refl
none_at_first Called own = refl

pub none_in_greeting : (stage : Stage) (id : Identity) (own : Announced) (link : LinkState) (dialogue : DialogueValue)
    → IsReady stage id own link dialogue → IsHailing stage → length link.unacked ≡ 0
none_in_greeting stage id own link dialogue ready hails =
    ap (λ (s : LinkState). length s.unacked) (ready.first hails) ∙ none_at_first id.side own
