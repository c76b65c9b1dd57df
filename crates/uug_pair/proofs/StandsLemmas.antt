-- What an end that is joined to another keeps is what the conversation says.
use Rattle.std.proofs.Common.{◌≡◌, inl, inr, ℕ, ◌≤◌, List, [], ◌++◌, length, sym, ap, subst, ◌∙◌, append-nil, arith}
use Rattle.std.proofs.lemmas.List.{length-append}
use Rattle.uug_link.specs.TwoLinks.{IsFrontOf}
use Rattle.uug_link.proofs.TwoLinksRuns.{fronts, within}
use Rattle.uug_conversation.proofs.StoredLemmas.{nothing_stored_at_first, nothing_struck_at_first}
use Rattle.uug_conversation.specs.DialogueState.{DialogueState}
use Rattle.uug_conversation.specs.Sides.{AtBoth, at}
use Rattle.uug_conversation.specs.Turns.{other}
use Rattle.uug_conversation.specs.View.{floor}
use Rattle.uug_conversation.specs.declared.side.Side.{Side}
use Rattle.uug_conversation.specs.declared.side.Side.TheVariants.{Caller, Called}
use Rattle.uug_session.specs.TwoEnds.{Talker, talker}
use Rattle.uug_line.specs.Belongings.{Belongings, SetupValue, party}
use Rattle.uug_line.specs.Run.{parties}
use Rattle.uug_line.specs.RunKeeper.{view_at}
use Rattle.uug_line.proofs.LinkLemmas.{links_run}
use Rattle.uug_line.proofs.StoredSince.{stored_in, struck_in}
use Rattle.uug_line.proofs.World.Joining.{IsSoundSession, IsTalk, Joined, Moment, link_end}
use Rattle.uug_line.proofs.World.TalkLemmas.{IsToldAt, told_at}
use Rattle.uug_pair.proofs.Joins.{StandsAt}

module _ (setup : SetupValue) (brought : AtBoth Belongings) (sound : IsSoundSession setup brought) (side : Side) where
  -- ---- what it has struck, stored and said

  abbrev Stands : DialogueState → (sent taken : List (List ℕ)) → Type 0
  Stands talk sent messages = StandsAt setup brought side talk sent (length messages)

  struck_at_first : struck_in (parties setup brought) side 0 ≡ []
  struck_at_first = nothing_struck_at_first side (party setup brought Caller) (party setup brought Called)

  stored_at_first : stored_in (parties setup brought) side 0 ≡ []
  stored_at_first = nothing_stored_at_first side (party setup brought Caller) (party setup brought Called)

  said_at : (sent taken : List (List ℕ)) (t others : Talker) → t.sent ≡ sent → t.taken ≡ taken →
      length t.sent ≤ floor (length t.taken) (view_at (parties setup brought) side) →
      length sent ≤ floor (length taken) (view_at (parties setup brought) side)
  said_at sent messages t others sent_is taken_is so =
      subst (λ (l : List (List ℕ)). length l ≤ floor (length messages) (view_at (parties setup brought) side)) sent_is
      (subst (λ (l : List (List ℕ)). length t.sent ≤ floor (length l) (view_at (parties setup brought) side)) taken_is so)

  pub stands_at : (m n : Moment) → Joined setup brought side m n → StandsAt setup brought side m.talk m.sent (length m.taken)
  stands_at m n j = by j.near_talk
    where
      t : Talker
      t = talker side j.two

      told : IsToldAt setup brought side j.two
      told = told_at setup brought sound side j.two j.reached

      said : length m.sent ≤ floor (length m.taken) (view_at (parties setup brought) side)
      said = said_at m.sent m.taken (talker side j.two) (talker (other side) j.two) j.near_sent j.near_taken
          (told_at setup brought sound side j.two j.reached).sent_to_floor

      by : IsTalk side (party setup brought side) (at side brought) m.talk (talker side j.two) →
          StandsAt setup brought side m.talk m.sent (length m.taken)
      by (inl first) =
          let none : m.taken ≡ [] = sym j.near_taken ∙ ap (λ (x : Talker). x.taken) first.1 in
          record {
            struck = ap (λ (x : DialogueState). x.machine.lists.struck) first.0
                ∙ sym (append-nil (at side brought).lists.struck)
                ∙ ap (λ z. (at side brought).lists.struck ++ z) (sym struck_at_first)
                ∙ ap (λ (l : List (List ℕ)). (at side brought).lists.struck ++ struck_in (parties setup brought) side (length l)) (sym none);
            stored = ap (λ (x : DialogueState). x.kept) first.0
                ∙ sym (append-nil (at side brought).kept)
                ∙ ap (λ z. (at side brought).kept ++ z) (sym stored_at_first)
                ∙ ap (λ (l : List (List ℕ)). (at side brought).kept ++ stored_in (parties setup brought) side (length l)) (sym none);
            said = said;
          }
      by (inr behind) = record {
        struck = ap (λ (x : DialogueState). x.machine.lists.struck) behind
            ∙ ap (λ l. (at side brought).lists.struck ++ l.struck) told.stands.lists
            ∙ ap (λ (l : List (List ℕ)). (at side brought).lists.struck ++ struck_in (parties setup brought) side (length l)) j.near_taken;
        stored = ap (λ (x : DialogueState). x.kept) behind
            ∙ ap (λ l. (at side brought).kept ++ l) told.stands.kept
            ∙ ap (λ (l : List (List ℕ)). (at side brought).kept ++ stored_in (parties setup brought) side (length l)) j.near_taken;
        said = said;
      }

  -- ---- its link

  pub front_of : (m n : Moment) → Joined setup brought side m n → IsFrontOf m.taken n.sent
  front_of m n j =
      (fronts (at side setup).own (at (other side) setup).own (record { near = link_end m; far = link_end n })
      (sound.window side) (sound.window (other side)) (links_run setup side m n j.links)).0

  pub unacked_within : (m n : Moment) → Joined setup brought side m n → length m.link.unacked ≤ (at (other side) setup).own.window
  unacked_within m n j =
      (within (at side setup).own (at (other side) setup).own (record { near = link_end m; far = link_end n })
      (sound.window side) (sound.window (other side)) (links_run setup side m n j.links)).0

-- a front is no longer
pub front_shorter : (front whole : List (List ℕ)) → IsFrontOf front whole → length front ≤ length whole
front_shorter front whole is = omega (arith, ap length is.1, length-append front is.0)
