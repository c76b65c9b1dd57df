-- Two joined ends seen from the other side, at a session's start, and what they have come to by numbers.
use Rattle.std.proofs.Common.{◌≡◌, inl, inr, ℕ, ◌≤◌, true, List, ◌++◌, length, refl, sym, ap, subst, ◌∙◌, arith, Option}
use Rattle.uug_link.specs.declared.phase.Phase.TheVariants as phases
use Rattle.uug_link.specs.TwoLinks.{IsFrontOf}
use Rattle.uug_conversation.specs.EarlierJobs.{behind}
use Rattle.uug_session.specs.EndStep.{first_link}
use Rattle.uug_conversation.specs.Holdings.{Kept}
use Rattle.uug_conversation.specs.Jobs.{Lists}
use Rattle.uug_conversation.specs.Left.{IsLeft, left_of}
use Rattle.uug_conversation.specs.Machine.{State}
use Rattle.uug_conversation.specs.Partial.{Partial}
use Rattle.uug_conversation.specs.Partials.{partials_then}
use Rattle.uug_conversation.specs.Runs.{Progress, progress_at}
use Rattle.uug_conversation.proofs.FirstLaw.{left_law}
use Rattle.uug_conversation.proofs.ResumingLemmas.{stays_without_left}
use Rattle.uug_conversation.specs.DialogueState.{DialogueState, end_keeper}
use Rattle.uug_conversation.specs.Turns.{other}
use Rattle.uug_session.specs.TwoEnds.{Talker, at_first, first_two, talker}
use Rattle.uug_conversation.specs.View.{floor, kept_after, lists_after}
use Rattle.uug_conversation.specs.declared.side.Side.{Side}
use Rattle.uug_conversation.specs.declared.side.Side.TheVariants.{Caller, Called}
use Rattle.uug_line.specs.Belongings.{Belongings, SetupValue, identity, party}
use Rattle.uug_line.specs.LineEndState.{LineEndState}
use Rattle.uug_line.specs.Run.{first_end, parties}
use Rattle.uug_line.specs.RunKeeper.{by_numbers, by_themselves, has_by, view_at}
use Rattle.uug_conversation.specs.Sides.{AtBoth, at}
use Rattle.uug_line.specs.LinkRun.{LinksRan}
use Rattle.uug_line.specs.World.{count_of, counted_end}
use Rattle.uug_line.proofs.World.Joining.{EndsJoined, Hails, IsSoundSession, IsTalk, Joined, Moment, Spoken, link_end, moment_of}
use Rattle.uug_line.proofs.LinkLemmas.{links_run, not_up}
use Rattle.uug_line.proofs.SpeakingLemmas.{spoken_at_first}
use Rattle.uug_line.proofs.LinkRunLemmas.{first_of, ran_from_far, ran_nowhere}
use Rattle.uug_line.proofs.SideLemmas.{other_twice}
use Rattle.uug_line.proofs.World.TalkLemmas.{IsToldAt, seen_at, talk_at, talker_at, told_at}
use Rattle.uug_link.proofs.TwoLinksRuns.{fronts}

module _ (setup : SetupValue) (brought : AtBoth Belongings) where
  -- ---- seen from the other side

  pub joined_turned : (side : Side) (m n : Moment) → Joined setup brought side m n → Joined setup brought (other side) n m
  joined_turned side m n j =
      let back = other_twice side in
      record {
        links = subst (λ (s : Side). LinksRan (first_of (other side) s (at (other side) setup).own (at s setup).own)
            (record { near = link_end n; far = link_end m }) n.arrivals m.arrivals) back
            (ran_from_far (first_link side (at side setup).own) (first_link (other side) (at (other side) setup).own)
            (record { near = link_end m; far = link_end n }) m.arrivals n.arrivals j.links);
        two = j.two;
        reached = j.reached;
        near_talk = j.far_talk;
        near_sent = j.far_sent;
        near_taken = j.far_taken;
        far_talk = subst (λ (s : Side). IsTalk s (party setup brought s) (at s brought) m.talk (talker s j.two)) back j.near_talk;
        far_sent = subst (λ (s : Side). (talker s j.two).sent ≡ m.sent) back j.near_sent;
        far_taken = subst (λ (s : Side). (talker s j.two).taken ≡ m.taken) back j.near_taken;
        near_opened = j.far_opened;
        far_opened = j.near_opened;
      }

  pub turned : (side : Side) (e f : LineEndState DialogueState) → EndsJoined setup brought side e f → EndsJoined setup brought (other side) f e
  turned side e f joined =
      let back = other_twice side in
      record {
        joined = joined_turned side (moment_of e) (moment_of f) joined.joined;
        near_hails = joined.far_hails;
        far_hails = subst (λ (s : Side). Hails setup s e) back joined.near_hails;
        near_most = subst (λ (s : Side). f.log.most ≤ (at s setup).own.window) back joined.far_most;
        far_most = joined.near_most;
        near_passed = joined.far_passed;
        far_passed = joined.near_passed;
        near_spoken = joined.far_spoken;
        far_spoken = subst (λ (s : Side). Spoken setup brought s e) back joined.near_spoken;
      }

  -- ---- a session starts

  pub first_joined : EndsJoined setup brought Caller (first_end by_themselves setup brought Caller).end
      (first_end by_themselves setup brought Called).end
  first_joined = record {
    joined = record {
      links = ran_nowhere (first_link Caller setup.at_caller.own) (first_link Called setup.at_called.own);
      two = first_two (party setup brought Caller) (party setup brought Called);
      reached = at_first;
      near_talk = inl (refl, refl);
      near_sent = refl;
      near_taken = refl;
      far_talk = inl (refl, refl);
      far_sent = refl;
      far_taken = refl;
      near_opened = record {
        up = λ at_up. absurd (not_up phases.Fresh phases.Fresh refl refl at_up);
        starting = λ starting. refl;
      };
      far_opened = record {
        up = λ at_up. absurd (not_up phases.AwaitsInitA phases.AwaitsInitA refl refl at_up);
        starting = λ starting. refl;
      };
    };
    near_hails = λ g hails. refl;
    far_hails = λ g hails. refl;
    near_most = omega arith;
    far_most = omega arith;
    near_passed = refl;
    far_passed = refl;
    near_spoken = spoken_at_first (end_keeper Caller (party setup brought Caller).holdings) (identity setup Caller) setup.at_caller.own
        brought.at_caller.number (by_themselves.first brought.at_caller);
    far_spoken = spoken_at_first (end_keeper Called (party setup brought Called).holdings) (identity setup Called) setup.at_called.own
        brought.at_called.number (by_themselves.first brought.at_called);
  }

pub first_counted : (setup : SetupValue) (brought : AtBoth Belongings) (side : Side) →
    counted_end (first_end by_themselves setup brought side).end ≡ (first_end by_numbers setup brought side).end
first_counted setup brought Caller = refl
first_counted setup brought Called = refl

module _ (setup : SetupValue) (brought : AtBoth Belongings) (sound : IsSoundSession setup brought) where
  -- ---- what an end has

  abbrev HasSame : Side → (number : Option ℕ) → DialogueState → (sent taken : ℕ) → Type 0
  HasSame side number talk sent taken =
      by_numbers.has (parties setup brought) side (at side brought) number (record { opened = talk.opened; sent = sent; taken = taken })
      ≡ by_themselves.has (parties setup brought) side (at side brought) number talk

  has_behind : (side : Side) (number : Option ℕ) (t : Talker) (taken : List (List ℕ)) →
      t.taken ≡ taken →
      t.state.lists ≡ lists_after side (party setup brought Caller) (party setup brought Called) (length t.taken) →
      t.kept ≡ kept_after (length t.taken) (seen_at setup brought side) →
      t.state ≡ (progress_at side (party setup brought Caller) (party setup brought Called) (length t.taken)).state → (sent : ℕ) →
      HasSame side number (talk_at setup brought side t) sent (length taken)
  has_behind side number t taken told lists kept stands sent =
      let b : Belongings = at side brought in
      let h = (at side (parties setup brought)).holdings in
      let at_last = (progress_at side (party setup brought Caller) (party setup brought Called) (length t.taken)).state in
      let having : (Lists → List Kept → State → Belongings) = λ l k x. record {
        lists = behind b.lists.struck b.lists.failed l;
        kept = b.kept ++ k;
        partials = partials_then b.partials (left_of h x);
        number = number;
      } in
      ap (λ (l : List (List ℕ)). has_by true (parties setup brought) side b number (length l)) (sym told)
      ∙ ap (λ (l : Lists). having l (kept_after (length t.taken) (seen_at setup brought side)) at_last) (sym lists)
      ∙ ap (λ (k : List Kept). having t.state.lists k at_last) (sym kept)
      ∙ ap (λ (x : State). having t.state.lists t.kept x) (sym stands)

  pub has_joined : (side : Side) (e f : LineEndState DialogueState) → EndsJoined setup brought side e f →
      by_numbers.has (parties setup brought) side (at side brought) e.state.number (count_of e)
      ≡ by_themselves.has (parties setup brought) side (at side brought) e.state.number e.state.keeper
  has_joined side e f joined = by joined.joined.near_talk
    where
      by : IsTalk side (party setup brought side) (at side brought) e.state.keeper
          (talker_at setup brought side joined.joined.two) →
          HasSame side e.state.number e.state.keeper (length e.log.sent) (length e.log.taken)
      by (inl fresh) =
          subst (λ (x : DialogueState). HasSame side e.state.number x (length e.log.sent) (length e.log.taken)) (sym fresh.0)
          (ap (λ (ps : Option (List Partial)). record {
            lists = (at side brought).lists;
            kept = (at side brought).kept;
            partials = ps;
            number = e.state.number;
          }) (stays_without_left (at side brought).partials))
      by (inr is_behind) =
          let two = joined.joined.two in
          let told : IsToldAt setup brought side two = told_at setup brought sound side two joined.joined.reached in
          subst (λ (x : DialogueState). HasSame side e.state.number x (length e.log.sent) (length e.log.taken)) (sym is_behind)
          (has_behind side e.state.number (talker_at setup brought side two) e.log.taken
          joined.joined.near_taken told.stands.lists told.stands.kept (ap (λ (p : Progress). p.state) told.machine) (length e.log.sent))

  -- ---- how far the ends have come

  -- what it has taken is a front of what the other has sent
  pub front : (side : Side) (e f : LineEndState DialogueState) → EndsJoined setup brought side e f → IsFrontOf e.log.taken f.log.sent
  front side e f joined =
      (fronts (at side setup).own (at (other side) setup).own
      (record { near = link_end (moment_of e); far = link_end (moment_of f) })
      (sound.window side) (sound.window (other side))
      (links_run setup side (moment_of e) (moment_of f) joined.joined.links)).0

  -- and it has sent no more than it may
  pub to_floor : (side : Side) (e f : LineEndState DialogueState) → EndsJoined setup brought side e f →
      length e.log.sent ≤ floor (length e.log.taken) (view_at (parties setup brought) side)
  to_floor side e f joined =
      let j = joined.joined in
      let v = seen_at setup brought side in
      let t = talker_at setup brought side j.two in
      let told : IsToldAt setup brought side j.two = told_at setup brought sound side j.two j.reached in
      subst (λ (l : List (List ℕ)). length l ≤ floor (length e.log.taken) v) j.near_sent
      (subst (λ (l : List (List ℕ)). length t.sent ≤ floor (length l) v) j.near_taken told.sent_to_floor)

  -- ---- what is left of a file, were the session to end now

  left_at_number : (side : Side) (k : ℕ) →
      IsLeft (party setup brought (other side)) (party setup brought side).holdings
      (left_of (party setup brought side).holdings (progress_at side (party setup brought Caller) (party setup brought Called) k).state)
  left_at_number Caller k = left_law (party setup brought Caller) (party setup brought Called) sound.fronts (sound.party Caller) (sound.party Called) Caller k
  left_at_number Called k = left_law (party setup brought Caller) (party setup brought Called) sound.fronts (sound.party Caller) (sound.party Called) Called k

  abbrev Leaves : Side → DialogueState → Type 0
  Leaves side talk = IsLeft (party setup brought (other side)) (party setup brought side).holdings
      (left_of (party setup brought side).holdings talk.machine)

  pub left_joined : (side : Side) (e f : LineEndState DialogueState) → EndsJoined setup brought side e f →
      IsLeft (party setup brought (other side)) (party setup brought side).holdings
      (left_of (party setup brought side).holdings e.state.keeper.machine)
  left_joined side e f joined = by joined.joined.near_talk
    where
      by : IsTalk side (party setup brought side) (at side brought) e.state.keeper (talker_at setup brought side joined.joined.two) → Leaves side e.state.keeper
      by (inl fresh) = subst (Leaves side) (sym fresh.0) tt
      by (inr is_behind) =
          let two = joined.joined.two in
          let told : IsToldAt setup brought side two = told_at setup brought sound side two joined.joined.reached in
          subst (Leaves side) (sym is_behind)
          (subst (λ (x : State). IsLeft (party setup brought (other side)) (party setup brought side).holdings
          (left_of (party setup brought side).holdings x))
          (sym (ap (λ (p : Progress). p.state) told.machine)) (left_at_number side (length (talker_at setup brought side two).taken)))
