-- How a session begins at a whole end.
use Rattle.std.specs.Prelude.{◌≡◌}
use Rattle.uug_reader.specs.Reading.{fresh}
use Rattle.uug_session.specs.Node.{NodeState}
use Rattle.uug_session.specs.TextsHeld.{nothing_held}

-- no byte is held that was not read
pub record HoldsNothing (n : NodeState) : Type 0 where
  pub texts : n.texts ≡ nothing_held
  pub packets : n.packets ≡ fresh
