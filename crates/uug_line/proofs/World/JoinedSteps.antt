-- What is known of an end's steps in a session, from what the crates below promise.
use Rattle.uug_line.specs.Belongings.{Belongings, SetupValue}
use Rattle.uug_conversation.specs.Sides.{AtBoth}
use Rattle.uug_line.proofs.World.JoinedLemmas.{does_joined, packet_joined}
use Rattle.uug_line.proofs.World.Joining.{IsSoundSession}
use Rattle.uug_line.proofs.SessionLemmas.{first_counted, first_joined, front, has_joined, to_floor, turned}
use Rattle.uug_line.proofs.World.Steps.{Steps}

pub steps : (setup : SetupValue) (brought : AtBoth Belongings) → IsSoundSession setup brought → Steps setup brought
steps setup brought sound = record {
  turned = turned setup brought;
  first_joined = first_joined setup brought;
  first_counted = first_counted setup brought;
  does_joined = λ side event e f no_packet joined. (does_joined setup brought sound side e f event no_packet joined).joined;
  does_counted = λ side event e f no_packet joined. (does_joined setup brought sound side e f event no_packet joined).same;
  packet_joined = λ side p place e f on_link there joined. (packet_joined setup brought sound side e f p place on_link there joined).joined;
  packet_counted = λ side p place e f on_link there joined. (packet_joined setup brought sound side e f p place on_link there joined).same;
  has_counted = has_joined setup brought sound;
  front = front setup brought sound;
  to_floor = to_floor setup brought sound;
}
