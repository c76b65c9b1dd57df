-- Two ends keep their promises: both, told step by step by an order of their events, stay joined.
use Rattle.std.proofs.Common.{◌≡◌, inl, inr, ℕ, suc, ◌+◌, ◌≤◌, List, [], ◌∷◌, ◌++◌, length, take, refl, sym, ap, subst, subst₂, ◌∙◌, arith}
use Rattle.std.proofs.lemmas.Nat.{pow_pos}
use Rattle.uug_link.specs.Terms.{IsWindow}
use Rattle.uug_link.specs.TwoLinks.{IsFrontOf}
use Rattle.uug_conversation.proofs.OwnEntryLemmas.{by_places}
use Rattle.uug_conversation.specs.DialogueState.{DialogueState}
use Rattle.uug_conversation.specs.Holdings.{Holdings, Kept}
use Rattle.uug_conversation.specs.Jobs.{at_start, pending}
use Rattle.uug_conversation.specs.OwnEntries.{HasOwnEntries}
use Rattle.uug_conversation.specs.Party.{IsSound}
use Rattle.uug_conversation.specs.Sides.{AtBoth, at, with_at}
use Rattle.uug_conversation.specs.Turns.{other}
use Rattle.uug_conversation.specs.View.{floor}
use Rattle.uug_conversation.specs.declared.job.Job.{Job}
use Rattle.uug_conversation.specs.declared.side.Side.{Side}
use Rattle.uug_conversation.specs.declared.side.Side.TheVariants.{Caller, Called}
use Rattle.uug_session.specs.EndStep.{EndEvent}
use Rattle.uug_session.specs.TwoEnds.{at_first, first_two}
use Rattle.uug_link.specs.declared.phase.Phase.TheVariants as phases
use Rattle.uug_line.specs.Belongings.{Belongings, EndSetupValue, SetupValue, party}
use Rattle.uug_line.specs.Headline.{since}
use Rattle.uug_line.specs.LineEndState.{messages_sent, packets_in}
use Rattle.uug_line.specs.Run.{parties}
use Rattle.uug_line.specs.RunKeeper.{view_at}
use Rattle.uug_line.specs.WereSent.{WereSent}
use Rattle.uug_line.proofs.LinkLemmas.{not_up}
use Rattle.uug_line.proofs.StoredSince.{front_stays, session_own, since_is, stored_in, struck_in}
use Rattle.uug_line.proofs.World.Joining.{IsSoundSession}
use Rattle.uug_session.specs.Beginnings.{AreSound, EndBeginning, identity_of}
use Rattle.uug_pair.specs.Courses.{EndCourse, course_step, course_after, first_course}
use Rattle.uug_pair.specs.TwoCourses.{EventAt, KeepsPromises, NoneIsFooled, course_at, events_at, if_here}
use Rattle.uug_pair.proofs.Joins.{Joins, Keeps, StandsAt, moment, turned}
use Rattle.uug_pair.proofs.StandsLemmas.{front_of, front_shorter, stands_at}
use Rattle.uug_pair.proofs.StepJoins.{event_joins}

-- ---- both ends, as those of a line are set up

abbrev setup_end : EndBeginning → EndSetupValue
setup_end b = record {
  name = b.me;
  own = b.own;
  holdings = b.holdings;
  belongings = record { lists = b.lists; kept = b.kept; partials = b.holdings.partials; number = b.number };
}

abbrev setup_of : AtBoth EndBeginning → SetupValue
setup_of ends = record { at_caller = setup_end ends.at_caller; at_called = setup_end ends.at_called }

abbrev brought_of : AtBoth EndBeginning → AtBoth Belongings
brought_of ends = record { at_caller = (setup_end ends.at_caller).belongings; at_called = (setup_end ends.at_called).belongings }

sound_session : (ends : AtBoth EndBeginning) → AreSound ends → IsSoundSession (setup_of ends) (brought_of ends)
sound_session ends sound = record {
  window = window;
  party = party_sound;
  renewed = renewed;
  fronts = record {
    of_caller = sound.fronts Caller;
    of_called = sound.fronts Called;
    sizes_of_caller = sound.sizes Caller;
    sizes_of_called = sound.sizes Called;
  };
}
  where
    window : (side : Side) → IsWindow (at side (setup_of ends)).own.window
    window Caller = (sound.each Caller).window
    window Called = (sound.each Called).window

    party_sound : (side : Side) → IsSound (party (setup_of ends) (brought_of ends) side)
    party_sound Caller = record { names = (sound.each Caller).names; modes = (sound.each Caller).modes; limit = (sound.each Caller).limit; size = pow_pos (ends.at_called.own.size_code + 1 + 4) }
    party_sound Called = record { names = (sound.each Called).names; modes = (sound.each Called).modes; limit = (sound.each Called).limit; size = pow_pos (ends.at_caller.own.size_code + 1 + 4) }

    renewed : (side : Side) → (at side (brought_of ends)).lists
        ≡ at_start (pending (at side (brought_of ends)).lists) (at side (brought_of ends)).lists.struck (at side (brought_of ends)).lists.failed
    renewed Caller = (sound.each Caller).ahead
    renewed Called = (sound.each Called).ahead

-- ---- step by step

-- both ends after one more event
abbrev step_of : AtBoth EndBeginning → Side → EndEvent → AtBoth EndCourse → AtBoth EndCourse
step_of ends side event both =
    with_at side (course_step (at side ends).holdings (identity_of side (at side ends)) event (at side both)) both

abbrev both_after : AtBoth EndBeginning → List EventAt → AtBoth EndCourse → AtBoth EndCourse
both_after ends [] both = both
both_after ends (e ∷ order) both = both_after ends order (step_of ends e.side e.event both)

abbrev both_at_first : AtBoth EndBeginning → AtBoth EndCourse
both_at_first ends = record { at_caller = first_course Caller ends.at_caller; at_called = first_course Called ends.at_called }

step_at : (ends : AtBoth EndBeginning) (side there : Side) (event : EndEvent) (events : List EndEvent) (both : AtBoth EndCourse) →
    course_after (at side ends).holdings (identity_of side (at side ends)) events (at side (step_of ends there event both))
    ≡ course_after (at side ends).holdings (identity_of side (at side ends)) (if_here side there event events) (at side both)
step_at ends Caller Caller event events both = refl
step_at ends Caller Called event events both = refl
step_at ends Called Caller event events both = refl
step_at ends Called Called event events both = refl

both_are : (ends : AtBoth EndBeginning) (side : Side) (order : List EventAt) (both : AtBoth EndCourse) →
    at side (both_after ends order both)
    ≡ course_after (at side ends).holdings (identity_of side (at side ends)) (events_at side order) (at side both)
both_are ends side [] both = refl
both_are ends side (e ∷ order) both =
    both_are ends side order (step_of ends e.side e.event both) ∙ step_at ends side e.side e.event (events_at side order) both

first_at : (ends : AtBoth EndBeginning) (side : Side) → at side (both_at_first ends) ≡ first_course side (at side ends)
first_at ends Caller = refl
first_at ends Called = refl

course_is : (ends : AtBoth EndBeginning) (order : List EventAt) (side : Side) →
    at side (both_after ends order (both_at_first ends)) ≡ course_at ends order side
course_is ends order side =
    both_are ends side order (both_at_first ends)
    ∙ ap (course_after (at side ends).holdings (identity_of side (at side ends)) (events_at side order)) (first_at ends side)

-- ---- none is fooled

abbrev NotFooled : AtBoth EndCourse → Type 0
NotFooled both = (side : Side) → WereSent (at side both).found (packets_in (at (other side) both).emitted)

abbrev NeverFooled : AtBoth EndBeginning → List EventAt → AtBoth EndCourse → Type 0
NeverFooled ends order both = (n : ℕ) → NotFooled (both_after ends (take n order) both)

never_fooled : (ends : AtBoth EndBeginning) (order : List EventAt) → NoneIsFooled ends order → NeverFooled ends order (both_at_first ends)
never_fooled ends order none n side =
    subst (λ (c : EndCourse). WereSent c.found (packets_in (at (other side) (both_after ends (take n order) (both_at_first ends))).emitted))
    (sym (course_is ends (take n order) side))
    (subst (λ (c : EndCourse). WereSent (course_at ends (take n order) side).found (packets_in c.emitted))
    (sym (course_is ends (take n order) (other side))) (none n side))

-- ---- both stay joined

module _ (ends : AtBoth EndBeginning) (sound : AreSound ends) where
  abbrev AreJoined : AtBoth EndCourse → Type 0
  AreJoined both = Joins (setup_of ends) (brought_of ends) Caller both.at_caller both.at_called

  step_joins : (side : Side) (event : EndEvent) (both : AtBoth EndCourse) → AreJoined both →
      NotFooled (step_of ends side event both) → AreJoined (step_of ends side event both)
  step_joins Caller event both j honest =
      event_joins (setup_of ends) (brought_of ends) (sound_session ends sound) Caller ends.at_caller.me ends.at_caller.peer event
      both.at_caller both.at_called j (honest Caller)
  step_joins Called event both j honest =
      let setup = setup_of ends in
      let brought = brought_of ends in
      let then_called = course_step ends.at_called.holdings (identity_of Called ends.at_called) event both.at_called in
      turned setup brought Called then_called both.at_caller
      (event_joins setup brought (sound_session ends sound) Called ends.at_called.me ends.at_called.peer event
      both.at_called both.at_caller (turned setup brought Caller both.at_caller both.at_called j) (honest Called))

  all_join : (order : List EventAt) (both : AtBoth EndCourse) → AreJoined both → NeverFooled ends order both →
      AreJoined (both_after ends order both)
  all_join [] both j honest = j
  all_join (e ∷ order) both j honest =
      all_join order (step_of ends e.side e.event both) (step_joins e.side e.event both j (honest 1)) (λ n. honest (suc n))

  first_join : AreJoined (both_at_first ends)
  first_join = record {
    near_talk = (first_course Caller ends.at_caller).state.keeper;
    far_talk = (first_course Called ends.at_called).state.keeper;
    near_places = [];
    far_places = [];
    joined = record {
      links = record { occurrences = []; allowed = tt; leads = refl; near_heard = refl; far_heard = refl };
      two = first_two (party (setup_of ends) (brought_of ends) Caller) (party (setup_of ends) (brought_of ends) Called);
      reached = at_first;
      near_talk = inl (refl, refl);
      near_sent = refl;
      near_taken = refl;
      far_talk = inl (refl, refl);
      far_sent = refl;
      far_taken = refl;
      near_opened = record {
        up = λ at_up. absurd (not_up phases.Fresh phases.Fresh refl refl at_up);
        starting = λ starting. refl;
      };
      far_opened = record {
        up = λ at_up. absurd (not_up phases.AwaitsInitA phases.AwaitsInitA refl refl at_up);
        starting = λ starting. refl;
      };
    };
    near_keeps = inl refl;
    far_keeps = inl refl;
    near_found = tt;
    far_found = tt;
    near_hails = λ g hails. refl;
    far_hails = λ g hails. refl;
    near_most = omega arith;
    far_most = omega arith;
  }

-- ---- what joined ends keep to

-- how far an end stands
pub record Counted (setup : SetupValue) (brought : AtBoth Belongings) (side : Side) (c : EndCourse) : Type 0 where
  pub count : ℕ
  pub within : count ≤ length c.taken
  pub stands : StandsAt setup brought side c.state.keeper (messages_sent c.emitted) count

module _ (setup : SetupValue) (brought : AtBoth Belongings) (sound : IsSoundSession setup brought) where
  counted : (side : Side) (c d : EndCourse) → Joins setup brought side c d → Counted setup brought side c
  counted side c d j = by j.near_keeps
    where
      stands : StandsAt setup brought side j.near_talk (messages_sent c.emitted) (length c.taken)
      stands = stands_at setup brought sound side (moment c j.near_talk j.near_places) (moment d j.far_talk j.far_places) j.joined

      by : Keeps setup brought side c j.near_talk → Counted setup brought side c
      by (inl same) = record {
        count = length c.taken;
        within = omega arith;
        stands = subst (λ (talk : DialogueState). StandsAt setup brought side talk (messages_sent c.emitted) (length c.taken)) same stands;
      }
      by (inr failed) = record { count = failed.count; within = failed.within; stands = failed.stands }

  front : (side : Side) (c d : EndCourse) → Joins setup brought side c d → IsFrontOf c.taken (messages_sent d.emitted)
  front side c d j =
      front_of setup brought sound side (moment c j.near_talk j.near_places) (moment d j.far_talk j.far_places) j.joined

  -- an end has taken no more than the other may have said
  to_floor : (side : Side) (c d : EndCourse) → Joins setup brought side c d → (here : Counted setup brought side c)
      (there : Counted setup brought (other side) d) →
      here.count ≤ floor there.count (view_at (parties setup brought) (other side))
  to_floor side c d j here there =
      let shorter = front_shorter c.taken (messages_sent d.emitted) (front side c d j) in
      omega (arith, here.within, there.stands.said, shorter)

  -- what it has struck and stored since its beginning
  abbrev struck_since : Side → EndCourse → List Job
  struck_since side c = since (at side brought).lists.struck c.state.keeper.machine.lists.struck

  abbrev stored_since : Side → EndCourse → List Kept
  stored_since side c = since (at side brought).kept c.state.keeper.kept

  struck_is : (side : Side) (c : EndCourse) (n : Counted setup brought side c) →
      struck_since side c ≡ struck_in (parties setup brought) side n.count
  struck_is side c n =
      since_is (at side brought).lists.struck (struck_in (parties setup brought) side n.count) c.state.keeper.machine.lists.struck n.stands.struck

  stored_is : (side : Side) (c : EndCourse) (n : Counted setup brought side c) →
      stored_since side c ≡ stored_in (parties setup brought) side n.count
  stored_is side c n =
      since_is (at side brought).kept (stored_in (parties setup brought) side n.count) c.state.keeper.kept n.stands.stored

  own : (giver : Side) (c d : EndCourse) → (at giver (parties setup brought)).holdings ≡ (at giver setup).holdings →
      (at (other giver) (parties setup brought)).holdings ≡ (at (other giver) setup).holdings →
      (here : Counted setup brought giver c) (there : Counted setup brought (other giver) d) →
      here.count ≤ floor there.count (view_at (parties setup brought) (other giver)) →
      there.count ≤ floor here.count (view_at (parties setup brought) giver) →
      HasOwnEntries (at giver setup).holdings (at (other giver) setup).holdings (struck_since giver c) (struck_since (other giver) d) (stored_since (other giver) d)
  own giver c d same same_there here there near far =
      let p = parties setup brought in
      let gs = struck_in p giver here.count in
      let rs = struck_in p (other giver) there.count in
      let es = stored_in p (other giver) there.count in
      subst (λ xs. HasOwnEntries (at giver setup).holdings (at (other giver) setup).holdings xs (struck_since (other giver) d) (stored_since (other giver) d)) (sym (struck_is giver c here))
      (subst (λ xs. HasOwnEntries (at giver setup).holdings (at (other giver) setup).holdings gs xs (stored_since (other giver) d)) (sym (struck_is (other giver) d there))
      (subst (λ xs. HasOwnEntries (at giver setup).holdings (at (other giver) setup).holdings gs rs xs) (sym (stored_is (other giver) d there))
      (subst₂ (λ (h others : Holdings). HasOwnEntries h others gs rs es) same same_there
      (by_places (at giver p).holdings (at (other giver) p).holdings (at giver p).jobs gs rs es (session_own p giver here.count there.count near far)))))

-- ---- the law

pub record AreKept (ends : AtBoth EndBeginning) (both : AtBoth EndCourse) : Type 0 where
  pub front : (side : Side) → IsFrontOf (at side both).taken (messages_sent (at (other side) both).emitted)
  pub stored : (giver : Side) → HasOwnEntries (at giver ends).holdings (at (other giver) ends).holdings
      (since (at giver ends).lists.struck (at giver both).state.keeper.machine.lists.struck)
      (since (at (other giver) ends).lists.struck (at (other giver) both).state.keeper.machine.lists.struck)
      (since (at (other giver) ends).kept (at (other giver) both).state.keeper.kept)
  pub struck_before : (side : Side) → (at side both).state.keeper.machine.lists.struck
      ≡ (at side ends).lists.struck ++ since (at side ends).lists.struck (at side both).state.keeper.machine.lists.struck
  pub stored_before : (side : Side) → (at side both).state.keeper.kept
      ≡ (at side ends).kept ++ since (at side ends).kept (at side both).state.keeper.kept
  pub window : (side : Side) → (at side both).most ≤ (at (other side) ends).own.window

kept : (ends : AtBoth EndBeginning) → AreSound ends → (both : AtBoth EndCourse) →
    Joins (setup_of ends) (brought_of ends) Caller both.at_caller both.at_called → AreKept ends both
kept ends sound both j = record {
  front = fronts;
  stored = stored;
  struck_before = struck_before;
  stored_before = stored_before;
  window = window;
} where
  s : IsSoundSession (setup_of ends) (brought_of ends)
  s = sound_session ends sound

  back : Joins (setup_of ends) (brought_of ends) Called both.at_called both.at_caller
  back = turned (setup_of ends) (brought_of ends) Caller both.at_caller both.at_called j

  here : Counted (setup_of ends) (brought_of ends) Caller both.at_caller
  here = counted (setup_of ends) (brought_of ends) s Caller both.at_caller both.at_called j

  there : Counted (setup_of ends) (brought_of ends) Called both.at_called
  there = counted (setup_of ends) (brought_of ends) s Called both.at_called both.at_caller back

  fronts : (side : Side) → IsFrontOf (at side both).taken (messages_sent (at (other side) both).emitted)
  fronts Caller = front (setup_of ends) (brought_of ends) s Caller both.at_caller both.at_called j
  fronts Called = front (setup_of ends) (brought_of ends) s Called both.at_called both.at_caller back

  stored : (giver : Side) → HasOwnEntries (at giver ends).holdings (at (other giver) ends).holdings
      (since (at giver ends).lists.struck (at giver both).state.keeper.machine.lists.struck)
      (since (at (other giver) ends).lists.struck (at (other giver) both).state.keeper.machine.lists.struck)
      (since (at (other giver) ends).kept (at (other giver) both).state.keeper.kept)
  stored Caller =
      own (setup_of ends) (brought_of ends) s Caller both.at_caller both.at_called refl refl here there
      (to_floor (setup_of ends) (brought_of ends) s Caller both.at_caller both.at_called j here there)
      (to_floor (setup_of ends) (brought_of ends) s Called both.at_called both.at_caller back there here)
  stored Called =
      own (setup_of ends) (brought_of ends) s Called both.at_called both.at_caller refl refl there here
      (to_floor (setup_of ends) (brought_of ends) s Called both.at_called both.at_caller back there here)
      (to_floor (setup_of ends) (brought_of ends) s Caller both.at_caller both.at_called j here there)

  struck_before : (side : Side) → (at side both).state.keeper.machine.lists.struck
      ≡ (at side ends).lists.struck ++ since (at side ends).lists.struck (at side both).state.keeper.machine.lists.struck
  struck_before Caller = front_stays ends.at_caller.lists.struck _ both.at_caller.state.keeper.machine.lists.struck here.stands.struck
  struck_before Called = front_stays ends.at_called.lists.struck _ both.at_called.state.keeper.machine.lists.struck there.stands.struck

  stored_before : (side : Side) → (at side both).state.keeper.kept
      ≡ (at side ends).kept ++ since (at side ends).kept (at side both).state.keeper.kept
  stored_before Caller = front_stays ends.at_caller.kept _ both.at_caller.state.keeper.kept here.stands.stored
  stored_before Called = front_stays ends.at_called.kept _ both.at_called.state.keeper.kept there.stands.stored

  window : (side : Side) → (at side both).most ≤ (at (other side) ends).own.window
  window Caller = j.near_most
  window Called = j.far_most

pub two_keep : (ends : AtBoth EndBeginning) (order : List EventAt) → AreSound ends → NoneIsFooled ends order → KeepsPromises ends order
two_keep ends order sound none = record {
  front = λ side. both_sides (λ s c d. IsFrontOf c.taken (messages_sent d.emitted)) side (are.front side);
  stored = λ giver. both_sides (λ s c d. HasOwnEntries (at s ends).holdings (at (other s) ends).holdings
      (since (at s ends).lists.struck c.state.keeper.machine.lists.struck)
      (since (at (other s) ends).lists.struck d.state.keeper.machine.lists.struck)
      (since (at (other s) ends).kept d.state.keeper.kept)) giver (are.stored giver);
  struck_before = λ side. both_sides (λ s c d. c.state.keeper.machine.lists.struck
      ≡ (at s ends).lists.struck ++ since (at s ends).lists.struck c.state.keeper.machine.lists.struck) side (are.struck_before side);
  stored_before = λ side. both_sides (λ s c d. c.state.keeper.kept
      ≡ (at s ends).kept ++ since (at s ends).kept c.state.keeper.kept) side (are.stored_before side);
  window = λ side. both_sides (λ s c d. c.most ≤ (at (other s) ends).own.window) side (are.window side);
} where
  are : AreKept ends (both_after ends order (both_at_first ends))
  are = kept ends sound (both_after ends order (both_at_first ends))
      (all_join ends sound order (both_at_first ends) (first_join ends sound) (never_fooled ends order none))

  both_sides : (P : Side → EndCourse → EndCourse → Type 0) (side : Side) →
      P side (at side (both_after ends order (both_at_first ends))) (at (other side) (both_after ends order (both_at_first ends))) →
      P side (course_at ends order side) (course_at ends order (other side))
  both_sides P side so =
      subst (λ (c : EndCourse). P side c (course_at ends order (other side))) (course_is ends order side)
      (subst (λ (d : EndCourse). P side (at side (both_after ends order (both_at_first ends))) d) (course_is ends order (other side)) so)
