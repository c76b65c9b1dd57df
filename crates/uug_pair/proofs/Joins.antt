-- Two ends told by their events, as two joined ends of a session on a line.
use Rattle.std.proofs.Common.{◌≡◌, ◌⊎◌, ℕ, ◌≤◌, List, ◌++◌, length}
use Rattle.uug_conversation.specs.DialogueState.{DialogueState}
use Rattle.uug_conversation.specs.Sides.{AtBoth, at}
use Rattle.uug_conversation.specs.Turns.{other}
use Rattle.uug_conversation.specs.View.{floor}
use Rattle.uug_conversation.specs.declared.side.Side.{Side}
use Rattle.uug_conversation.specs.declared.side.Side.TheVariants.{Caller, Called}
use Rattle.uug_session.specs.declared.end.End.{End}
use Rattle.uug_session.specs.EndStep.{ended, first_link}
use Rattle.uug_line.specs.Belongings.{Belongings, SetupValue}
use Rattle.uug_line.specs.LineEndState.{messages_sent, packets_in}
use Rattle.uug_line.specs.Run.{parties}
use Rattle.uug_line.specs.RunKeeper.{view_at}
use Rattle.uug_line.specs.WereSent.{HavePlaces, passed_at}
use Rattle.uug_line.proofs.SessionLemmas.{joined_turned}
use Rattle.uug_line.proofs.StoredSince.{stored_in, struck_in}
use Rattle.uug_line.proofs.World.Invariant.{HailsFresh}
use Rattle.uug_line.proofs.World.Joining.{Joined, Moment}
use Rattle.uug_pair.specs.Courses.{EndCourse}

-- what the end has come to, where it keeps this of its conversation and has found packets at these places
abbrev pub moment : EndCourse → DialogueState → (places : List ℕ) → Moment
moment c talk places = record {
  link = c.state.link;
  talk = talk;
  sent = messages_sent c.emitted;
  taken = c.taken;
  packets = packets_in c.emitted;
  arrivals = places;
  passed = passed_at places 0;
}

-- what an end keeps that has sent these messages is what the conversation says when it has taken so many
pub record StandsAt (setup : SetupValue) (brought : AtBoth Belongings) (side : Side) (talk : DialogueState)
    (sent : List (List ℕ)) (count : ℕ) : Type 0 where
  pub struck : talk.machine.lists.struck ≡ (at side brought).lists.struck ++ struck_in (parties setup brought) side count
  pub stored : talk.kept ≡ (at side brought).kept ++ stored_in (parties setup brought) side count
  pub said : length sent ≤ floor count (view_at (parties setup brought) side)

-- its spool's device has failed at a file: it stands as before the file's last message, which its link has taken
pub record HasFailedAt (setup : SetupValue) (brought : AtBoth Belongings) (side : Side) (c : EndCourse) : Type 0 where
  pub how : End
  pub over : c.state.stage ≡ ended how
  pub count : ℕ
  pub within : count ≤ length c.taken
  pub stands : StandsAt setup brought side c.state.keeper (messages_sent c.emitted) count

abbrev pub Keeps : SetupValue → AtBoth Belongings → Side → EndCourse → DialogueState → Type 0
Keeps setup brought side c talk = (talk ≡ c.state.keeper) ⊎ HasFailedAt setup brought side c

-- The end on the side, and the other one. An end whose device has failed is joined as if it had taken the message up, and
-- then closed its link: the other end reads only its packets.
pub record Joins (setup : SetupValue) (brought : AtBoth Belongings) (side : Side) (c d : EndCourse) : Type 0 where
  pub near_talk : DialogueState
  pub far_talk : DialogueState
  pub near_places : List ℕ
  pub far_places : List ℕ
  pub joined : Joined setup brought side (moment c near_talk near_places) (moment d far_talk far_places)
  pub near_keeps : Keeps setup brought side c near_talk
  pub far_keeps : Keeps setup brought (other side) d far_talk
  pub near_found : HavePlaces c.found near_places (packets_in d.emitted) 0
  pub far_found : HavePlaces d.found far_places (packets_in c.emitted) 0
  pub near_hails : HailsFresh (first_link side (at side setup).own) c.state.stage c.state.link
  pub far_hails : HailsFresh (first_link (other side) (at (other side) setup).own) d.state.stage d.state.link
  pub near_most : c.most ≤ (at (other side) setup).own.window
  pub far_most : d.most ≤ (at side setup).own.window

-- seen from the other side
pub turned : (setup : SetupValue) (brought : AtBoth Belongings) (side : Side) (c d : EndCourse) →
    Joins setup brought side c d → Joins setup brought (other side) d c
turned setup brought Caller c d j = record {
  near_talk = j.far_talk;
  far_talk = j.near_talk;
  near_places = j.far_places;
  far_places = j.near_places;
  joined = joined_turned setup brought Caller (moment c j.near_talk j.near_places) (moment d j.far_talk j.far_places) j.joined;
  near_keeps = j.far_keeps;
  far_keeps = j.near_keeps;
  near_found = j.far_found;
  far_found = j.near_found;
  near_hails = j.far_hails;
  far_hails = j.near_hails;
  near_most = j.far_most;
  far_most = j.near_most;
}
turned setup brought Called c d j = record {
  near_talk = j.far_talk;
  far_talk = j.near_talk;
  near_places = j.far_places;
  far_places = j.near_places;
  joined = joined_turned setup brought Called (moment c j.near_talk j.near_places) (moment d j.far_talk j.far_places) j.joined;
  near_keeps = j.far_keeps;
  far_keeps = j.near_keeps;
  near_found = j.far_found;
  far_found = j.near_found;
  near_hails = j.far_hails;
  far_hails = j.near_hails;
  near_most = j.far_most;
  far_most = j.near_most;
}
