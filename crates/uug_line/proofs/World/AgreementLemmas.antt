-- Two numbers tell an end that is joined to another, and it stays so.
use Rattle.std.proofs.Common.{◌≡◌, inl, inr, ℕ, false, List, length, refl, sym, subst}
use Rattle.uug_conversation.specs.Count.{count_keeper}
use Rattle.uug_conversation.specs.Holdings.{Holdings}
use Rattle.uug_conversation.specs.DialogueState.{DialogueState, end_keeper, unopened}
use Rattle.uug_session.specs.TwoEnds.{Talker}
use Rattle.uug_conversation.specs.View.{Seen}
use Rattle.uug_conversation.specs.declared.side.Side.{Side}
use Rattle.uug_line.specs.Belongings.{Belongings, SetupValue, party}
use Rattle.uug_conversation.specs.Sides.{AtBoth, at}
use Rattle.uug_line.proofs.World.Invariant.{IsInvariant}
use Rattle.uug_line.proofs.World.Joining.{IsSoundSession, IsTalk, Joined, Moment}
use Rattle.uug_line.proofs.MoveLemmas.{StandsThere, joined_begins, joined_closes, joined_finds_bad, joined_hears, joined_sends, joined_times_out}
use Rattle.uug_line.proofs.World.TalkLemmas.{Agrees, agrees_at, seen_at, talk_at, talker_at, told_at}

-- what an end keeps, and its two numbers, say the same
pub record SaysSame (me : Side) (h : Holdings) (v : List Seen) (talk : DialogueState) (sent taken : ℕ) : Type 0 where
  pub next : (end_keeper me h).next talk ≡ (count_keeper v).next (record { opened = talk.opened; sent = sent; taken = taken })
  pub over : (end_keeper me h).is_over talk ≡ (count_keeper v).is_over (record { opened = talk.opened; sent = sent; taken = taken })
  pub parted : (end_keeper me h).has_parted talk
      ≡ (count_keeper v).has_parted (record { opened = talk.opened; sent = sent; taken = taken })
  pub good : (end_keeper me h).is_bad talk ≡ false

module _ (setup : SetupValue) (brought : AtBoth Belongings) (sound : IsSoundSession setup brought) (side : Side) where
  abbrev SaysSameAt : DialogueState → (sent taken : ℕ) → Type 0
  SaysSameAt talk sent taken =
      SaysSame side (party setup brought side).holdings (seen_at setup brought side) talk sent taken

  -- before the link is up
  unopened_same : (talk : DialogueState) (sent taken : ℕ) → talk ≡ unopened (at side brought).lists (at side brought).kept →
      SaysSameAt talk sent taken
  unopened_same talk sent taken is =
      subst (λ (x : DialogueState). SaysSameAt x sent taken) (sym is)
      (record { next = refl; over = refl; parted = refl; good = refl })

  -- behind what it brought
  behind_same : (talk : DialogueState) (t : Talker) (sent taken : List (List ℕ)) → talk ≡ talk_at setup brought side t →
      Agrees side (party setup brought side).holdings (seen_at setup brought side) (talk_at setup brought side t) t →
      t.sent ≡ sent → t.taken ≡ taken → SaysSameAt talk (length sent) (length taken)
  behind_same talk t sent taken is agree sent_is taken_is =
      subst (λ (x : DialogueState). SaysSameAt x (length sent) (length taken)) (sym is)
      (subst (λ (l : List (List ℕ)). SaysSameAt (talk_at setup brought side t) (length l) (length taken)) sent_is
      (subst (λ (l : List (List ℕ)). SaysSameAt (talk_at setup brought side t) (length t.sent) (length l)) taken_is
      (record { next = agree.next; over = agree.over; parted = agree.parted; good = agree.good })))

  module _ (far : Moment) where
    says_same : (m : Moment) → Joined setup brought side m far → SaysSameAt m.talk (length m.sent) (length m.taken)
    says_same m j = by j.near_talk
      where
        by : IsTalk side (party setup brought side) (at side brought) m.talk (talker_at setup brought side j.two) →
            SaysSameAt m.talk (length m.sent) (length m.taken)
        by (inl fresh) = unopened_same m.talk (length m.sent) (length m.taken) fresh.0
        by (inr behind) =
            behind_same m.talk (talker_at setup brought side j.two) m.sent m.taken behind
            (agrees_at setup brought side j.two (told_at setup brought sound side j.two j.reached)) j.near_sent j.near_taken

    pub is_invariant : IsInvariant side (party setup brought side).holdings (seen_at setup brought side)
        (λ m. Joined setup brought side m far) (StandsThere far)
    is_invariant = record {
      next = λ m j. (says_same m j).next;
      over = λ m j. (says_same m j).over;
      parted = λ m j. (says_same m j).parted;
      good = λ m j. (says_same m j).good;
      opened = λ m j at_up. j.near_opened.up at_up;
      begins = joined_begins setup brought side far sound;
      sends = joined_sends setup brought side far sound;
      closes = joined_closes setup brought side far sound;
      finds_bad = joined_finds_bad setup brought side far sound;
      times_out = joined_times_out setup brought side far sound;
      hears = joined_hears setup brought side far sound;
    }
