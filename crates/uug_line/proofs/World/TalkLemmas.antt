-- The conversation of the two ends of a session, seen from a side of the line.
use Rattle.std.proofs.Common.{◌≡◌, ◌≤◌, false, List, All, length, refl}
use Rattle.uug_conversation.specs.declared.job.Job.{Job}
use Rattle.uug_conversation.specs.Count.{count_keeper}
use Rattle.uug_conversation.specs.Holdings.{Holdings, Kept}
use Rattle.uug_conversation.specs.Party.{Party}
use Rattle.uug_conversation.specs.DialogueState.{DialogueState, end_keeper}
use Rattle.uug_session.specs.Told.{count_of_talker, talk_behind}
use Rattle.uug_session.specs.TwoEnds.{Act, IsTold, Permits, Reached, Talker, Two, after, after_act, talker, with_talker}
use Rattle.uug_conversation.specs.Turns.{other}
use Rattle.uug_conversation.specs.View.{Seen, conversation_view, own_messages, party as side_party}
use Rattle.uug_conversation.specs.declared.side.Side.{Side}
use Rattle.uug_conversation.specs.declared.side.Side.TheVariants.{Caller, Called}
use Rattle.uug_line.specs.Belongings.{Belongings, SetupValue, party}
use Rattle.uug_line.specs.Run.{parties}
use Rattle.uug_line.specs.RunKeeper.{view_at}
use Rattle.uug_conversation.specs.Sides.{AtBoth, at}
use Rattle.uug_line.proofs.World.Joining.{IsSoundSession}
use Rattle.uug_conversation.proofs.FitLemmas.{own_fit}
use Rattle.uug_line.proofs.LowerLemmas.{both_told, over_is}
use Rattle.uug_session.proofs.ToldLemmas.{next_is, parted_is}

-- what an end keeps, and its numbers, say the same
pub record Agrees (me : Side) (h : Holdings) (v : List Seen) (talk : DialogueState) (t : Talker) : Type 0 where
  pub next : (end_keeper me h).next talk ≡ (count_keeper v).next (count_of_talker t)
  pub over : (end_keeper me h).is_over talk ≡ (count_keeper v).is_over (count_of_talker t)
  pub parted : (end_keeper me h).has_parted talk ≡ (count_keeper v).has_parted (count_of_talker t)
  pub good : (end_keeper me h).is_bad talk ≡ false

agrees : (me : Side) (a b : Party) (own others : Talker) (struck failed : List Job) (kept : List Kept) →
    IsTold me a b own others →
    Agrees me (side_party me a b).holdings (conversation_view me a b)
    (talk_behind struck failed kept (side_party me a b).measure own) own
agrees me a b own others struck failed kept told = record {
  next = next_is me a b own others told;
  over = over_is me a b own others told;
  parted = parted_is me a b own others told;
  good = told.stands.not_bad;
}

module _ (setup : SetupValue) (brought : AtBoth Belongings) where
  -- two ends that these parties may come to
  abbrev pub Reaches : Two → Type 0
  Reaches two = Reached (party setup brought Caller) (party setup brought Called) two

  -- the end on the side as it sees the conversation
  abbrev pub seen_at : Side → List Seen
  seen_at side = view_at (parties setup brought) side

  abbrev pub talker_at : Side → Two → Talker
  talker_at side two = talker side two

  abbrev pub IsToldAt : Side → Two → Type 0
  IsToldAt side two = IsTold side (party setup brought Caller) (party setup brought Called)
      (talker_at side two) (talker_at (other side) two)

  -- ---- an act on the side

  pub record Acted (side : Side) (act : Act) (two : Two) : Type 0 where
    pub then_two : Two
    pub reached : Reaches then_two
    pub near : talker_at side then_two ≡ after_act act (party setup brought side) (talker_at side two)
    pub far : talker_at (other side) then_two ≡ talker_at (other side) two

  pub acts : (side : Side) (act : Act) (two : Two) → Reaches two →
      Permits act (talker_at side two) (talker_at (other side) two) → Acted side act two
  acts Caller act two reached permits = record {
    then_two = with_talker Caller (after_act act (party setup brought Caller) two.caller_end) two;
    reached = after two Caller act reached permits;
    near = refl;
    far = refl;
  }
  acts Called act two reached permits = record {
    then_two = with_talker Called (after_act act (party setup brought Called) two.called_end) two;
    reached = after two Called act reached permits;
    near = refl;
    far = refl;
  }

  -- ---- two numbers tell the end on the side

  module _ (sound : IsSoundSession setup brought) where
    pub told_at : (side : Side) (two : Two) → Reaches two → IsToldAt side two
    told_at Caller two reached =
        (both_told (party setup brought Caller) (party setup brought Called) sound.fronts (sound.party Caller) (sound.party Called) two reached).0
    told_at Called two reached =
        (both_told (party setup brought Caller) (party setup brought Called) sound.fronts (sound.party Caller) (sound.party Called) two reached).1

  -- what it keeps behind what it brought
  abbrev pub talk_at : Side → Talker → DialogueState
  talk_at side t = talk_behind (at side brought).lists.struck (at side brought).lists.failed (at side brought).kept
      (party setup brought side).measure t

  pub agrees_at : (side : Side) (two : Two) → IsToldAt side two →
      Agrees side (party setup brought side).holdings (seen_at side) (talk_at side (talker_at side two)) (talker_at side two)
  agrees_at Caller two told =
      agrees Caller (party setup brought Caller) (party setup brought Called) two.caller_end two.called_end
      brought.at_caller.lists.struck brought.at_caller.lists.failed brought.at_caller.kept told
  agrees_at Called two told =
      agrees Called (party setup brought Caller) (party setup brought Called) two.called_end two.caller_end
      brought.at_called.lists.struck brought.at_called.lists.failed brought.at_called.kept told

  -- each of its messages fits
  pub fit_at : (side : Side) →
      All (λ message. length message ≤ (party setup brought side).measure.size) (own_messages (seen_at side))
  fit_at Caller = own_fit Caller (party setup brought Caller) (party setup brought Called)
  fit_at Called = own_fit Called (party setup brought Caller) (party setup brought Called)
