-- What the ends of a run have, session by session: jobs struck since the set-up have entries of their own in what was
-- stored since then.
use Rattle.std.proofs.Common.{◌≡◌, inl, inr, ℕ, ◌≤◌, Bool, true, false, List, [], ◌++◌, length, drop, All, refl, sym, ap, subst, subst₂, ◌∙◌, append_assoc, append-nil, arith, Option}
use Rattle.std.proofs.lemmas.List.{length-append}
use Rattle.std.proofs.Math.Seq.{drop-append_seam}
use Rattle.uug_conversation.specs.Turns.{other}
use Rattle.uug_conversation.specs.declared.job.Job.{Job}
use Rattle.uug_conversation.specs.Holdings.{Kept, Holdings}
use Rattle.uug_conversation.specs.Jobs.{pending}
use Rattle.uug_conversation.specs.OwnEntries.{OwnEntries, none, HasOwnEntries}
use Rattle.uug_conversation.specs.Party.{Party, HasNames}
use Rattle.uug_conversation.specs.DialogueState.{DialogueState}
use Rattle.uug_session.specs.TwoEnds.{talker}
use Rattle.uug_conversation.specs.View.{floor, kept_after, lists_after}
use Rattle.uug_conversation.specs.declared.side.Side.{Side}
use Rattle.uug_conversation.specs.declared.side.Side.TheVariants.{Caller, Called}
use Rattle.uug_line.specs.Belongings.{Belongings, SetupValue, party, renewed}
use Rattle.uug_line.specs.Headline.{since}
use Rattle.uug_line.specs.LineEndState.{LineEndState}
use Rattle.uug_line.specs.Run.{parties}
use Rattle.uug_line.specs.RunKeeper.{by_themselves, has_by, view_at}
use Rattle.uug_conversation.specs.Sides.{AtBoth, at, at_each}
use Rattle.uug_line.proofs.World.Joining.{IsTalk, EndsJoined, IsSoundSession}
use Rattle.uug_line.proofs.SideLemmas.{at_each_is}
use Rattle.uug_line.proofs.World.Steps.{Steps}
use Rattle.uug_conversation.proofs.StoredLemmas.{called_store, caller_store, nothing_struck_at_first, nothing_stored_at_first}
use Rattle.uug_conversation.proofs.OwnEntryLemmas.{of_sessions, by_places}
use Rattle.uug_conversation.proofs.SharingLemmas.{lists_are_shared, AreShared-All}
use Rattle.uug_conversation.specs.Partials.{holding}
use Rattle.uug_conversation.proofs.OwnEntryLemmas.{own_for_base}
use Rattle.uug_line.proofs.World.JoinedSteps.{steps}

-- ---- in a session of these parties

-- what the end on the side has struck and stored when it has taken so many messages
abbrev pub struck_in : AtBoth Party → Side → ℕ → List Job
struck_in parties side taken = (lists_after side parties.at_caller parties.at_called taken).struck

abbrev pub stored_in : AtBoth Party → Side → ℕ → List Kept
stored_in parties side taken = kept_after taken (view_at parties side)

pub session_own : (parties : AtBoth Party) (giver : Side) (own others : ℕ) →
    own ≤ floor others (view_at parties (other giver)) → others ≤ floor own (view_at parties giver) →
    OwnEntries (at giver parties).holdings (at (other giver) parties).holdings (at giver parties).jobs (struck_in parties giver own)
    (struck_in parties (other giver) others) (stored_in parties (other giver) others)
session_own parties Caller own others p q = called_store parties.at_caller parties.at_called own others p q
session_own parties Called own others p q = caller_store parties.at_caller parties.at_called others own q p

-- before its link is up an end has taken nothing
took_nothing : (setup : SetupValue) (brought : AtBoth Belongings) (side : Side) (e f : LineEndState DialogueState) →
    EndsJoined setup brought side e f → e.state.keeper.opened ≡ false → length e.log.taken ≡ 0
took_nothing setup brought side e f joined shut = by joined.joined.near_talk
  where
    by : IsTalk side (party setup brought side) (at side brought) e.state.keeper
        (talker side joined.joined.two) → length e.log.taken ≡ 0
    by (inl first) =
        ap length (sym joined.joined.near_taken ∙ ap (λ t. t.taken) first.1)
    by (inr opened) = absurd (let k : true ≡ false = sym (ap (λ (t : DialogueState). t.opened) opened) ∙ shut in cc)

has_struck : (number : Option ℕ) → (parties : AtBoth Party) (side : Side) (b : Belongings) (opened : Bool) (taken : ℕ) →
    (opened ≡ false → taken ≡ 0) → (has_by opened parties side b number taken).lists.struck ≡ b.lists.struck ++ struck_in parties side taken
has_struck number parties side b true taken first = refl
has_struck number parties side b false taken first =
    sym (ap (λ z. b.lists.struck ++ z)
    (ap (struck_in parties side) (first refl) ∙ nothing_struck_at_first side parties.at_caller parties.at_called)
    ∙ append-nil b.lists.struck)

has_stored : (number : Option ℕ) → (parties : AtBoth Party) (side : Side) (b : Belongings) (opened : Bool) (taken : ℕ) →
    (opened ≡ false → taken ≡ 0) → (has_by opened parties side b number taken).kept ≡ b.kept ++ stored_in parties side taken
has_stored number parties side b true taken first = refl
has_stored number parties side b false taken first =
    sym (ap (λ z. b.kept ++ z)
    (ap (stored_in parties side) (first refl) ∙ nothing_stored_at_first side parties.at_caller parties.at_called)
    ∙ append-nil b.kept)

has_names : (number : Option ℕ) → (parties : AtBoth Party) (side : Side) (b : Belongings) (opened : Bool) (taken : ℕ) →
    pending b.lists ≡ (at side parties).jobs → All HasNames (at side parties).jobs →
    All HasNames (pending (has_by opened parties side b number taken).lists)
has_names number parties side b false taken same names = subst (All HasNames) (sym same) names
has_names number parties Caller b true taken same names =
    let l = lists_after Caller parties.at_caller parties.at_called taken in
    (AreShared-All HasNames (lists_are_shared Caller parties.at_caller parties.at_called taken) names).0
has_names number parties Called b true taken same names =
    let l = lists_after Called parties.at_caller parties.at_called taken in
    (AreShared-All HasNames (lists_are_shared Called parties.at_caller parties.at_called taken) names).0

-- ---- since the set-up

-- the ends have this now: what they struck and stored since the set-up, and whose the entries are
pub record OwnSince (setup : SetupValue) (now : AtBoth Belongings) (giver : Side) : Type 0 where
  pub jobs : List Job
  pub givers : List Job
  pub receivers : List Job
  pub entries : List Kept
  pub givers_are : (at giver now).lists.struck ≡ (at giver setup).belongings.lists.struck ++ givers
  pub receivers_are : (at (other giver) now).lists.struck ≡ (at (other giver) setup).belongings.lists.struck ++ receivers
  pub entries_are : (at (other giver) now).kept ≡ (at (other giver) setup).belongings.kept ++ entries
  pub own : OwnEntries (at giver setup).holdings (at (other giver) setup).holdings jobs givers receivers entries

abbrev pub set_up : SetupValue → AtBoth Belongings
set_up setup = at_each (λ side. renewed (at side setup).belongings)

pub own_at_first : (setup : SetupValue) (giver : Side) → OwnSince setup (set_up setup) giver
own_at_first setup giver =
    let first : (side : Side) → at side (set_up setup) ≡ renewed (at side setup).belongings = at_each_is (λ side. renewed (at side setup).belongings) in
    record {
      jobs = [];
      givers = [];
      receivers = [];
      entries = [];
      givers_are = ap (λ (b : Belongings). b.lists.struck) (first giver) ∙ sym (append-nil (at giver setup).belongings.lists.struck);
      receivers_are = ap (λ (b : Belongings). b.lists.struck) (first (other giver)) ∙ sym (append-nil (at (other giver) setup).belongings.lists.struck);
      entries_are = ap (λ (b : Belongings). b.kept) (first (other giver)) ∙ sym (append-nil (at (other giver) setup).belongings.kept);
      own = none;
    }

more_behind : {A : Type 0} (front xs ys now before : List A) → now ≡ before ++ ys → before ≡ front ++ xs →
    now ≡ front ++ (xs ++ ys)
more_behind front xs ys now before e f = e ∙ ap (λ z. z ++ ys) f ∙ append_assoc front xs ys

own_more : (setup : SetupValue) (brought now : AtBoth Belongings) (giver : Side) (own others : ℕ) →
    OwnSince setup brought giver →
    (at giver now).lists.struck ≡ (at giver brought).lists.struck ++ struck_in (parties setup brought) giver own →
    (at (other giver) now).lists.struck
    ≡ (at (other giver) brought).lists.struck ++ struck_in (parties setup brought) (other giver) others →
    (at (other giver) now).kept ≡ (at (other giver) brought).kept ++ stored_in (parties setup brought) (other giver) others →
    OwnEntries (at giver setup).holdings (at (other giver) setup).holdings (at giver (parties setup brought)).jobs (struck_in (parties setup brought) giver own)
    (struck_in (parties setup brought) (other giver) others) (stored_in (parties setup brought) (other giver) others) →
    OwnSince setup now giver
own_more setup brought now giver own others before g r k here =
    let p = parties setup brought in
    let gs = struck_in p giver own in
    let rs = struck_in p (other giver) others in
    let es = stored_in p (other giver) others in
    record {
      jobs = before.jobs ++ (at giver p).jobs;
      givers = before.givers ++ gs;
      receivers = before.receivers ++ rs;
      entries = before.entries ++ es;
      givers_are = more_behind (at giver setup).belongings.lists.struck before.givers gs (at giver now).lists.struck
          (at giver brought).lists.struck g before.givers_are;
      receivers_are = more_behind (at (other giver) setup).belongings.lists.struck before.receivers rs
          (at (other giver) now).lists.struck (at (other giver) brought).lists.struck r before.receivers_are;
      entries_are = more_behind (at (other giver) setup).belongings.kept before.entries es
          (at (other giver) now).kept (at (other giver) brought).kept k before.entries_are;
      own = of_sessions (at giver setup).holdings (at (other giver) setup).holdings before.jobs (at giver p).jobs before.givers before.receivers gs rs
          before.entries es before.own here;
    }

-- ---- what the ends of a session have by now

module _ (setup : SetupValue) (brought : AtBoth Belongings) (sound : IsSoundSession setup brought) where
  all_steps : Steps setup brought
  all_steps = steps setup brought sound

  abbrev has : Side → LineEndState DialogueState → Belongings
  has side e = by_themselves.has (parties setup brought) side (at side brought) e.state.number e.state.keeper

  struck_now : (side : Side) (e f : LineEndState DialogueState) → EndsJoined setup brought side e f →
      (has side e).lists.struck ≡ (at side brought).lists.struck ++ struck_in (parties setup brought) side (length e.log.taken)
  struck_now side e f joined =
      ap (λ (b : Belongings). b.lists.struck) (sym (all_steps.has_counted side e f joined))
      ∙ has_struck e.state.number (parties setup brought) side (at side brought) e.state.keeper.opened (length e.log.taken)
      (took_nothing setup brought side e f joined)

  stored_now : (side : Side) (e f : LineEndState DialogueState) → EndsJoined setup brought side e f →
      (has side e).kept ≡ (at side brought).kept ++ stored_in (parties setup brought) side (length e.log.taken)
  stored_now side e f joined =
      ap (λ (b : Belongings). b.kept) (sym (all_steps.has_counted side e f joined))
      ∙ has_stored e.state.number (parties setup brought) side (at side brought) e.state.keeper.opened (length e.log.taken)
      (took_nothing setup brought side e f joined)

  pub names_now : (side : Side) (e f : LineEndState DialogueState) → EndsJoined setup brought side e f →
      pending (at side brought).lists ≡ (at side (parties setup brought)).jobs →
      All HasNames (at side (parties setup brought)).jobs → All HasNames (pending (has side e).lists)
  names_now side e f joined same names =
      subst (λ (b : Belongings). All HasNames (pending b.lists)) (all_steps.has_counted side e f joined)
      (has_names e.state.number (parties setup brought) side (at side brought) e.state.keeper.opened (length e.log.taken) same names)

  -- no end has taken more than the other may have said
  to_floor : (side : Side) (e f : LineEndState DialogueState) → EndsJoined setup brought side e f →
      EndsJoined setup brought (other side) f e →
      length e.log.taken ≤ floor (length f.log.taken) (view_at (parties setup brought) (other side))
  to_floor side e f near far =
      let front = all_steps.front side e f near in
      omega (arith, all_steps.to_floor (other side) f e far, ap length front.1, length-append e.log.taken front.0)

  own_now : (giver : Side) (now : AtBoth Belongings) (e f : LineEndState DialogueState) → (at giver (parties setup brought)).holdings ≡ holding (at giver brought).partials (at giver setup).holdings →
      (at (other giver) (parties setup brought)).holdings ≡ holding (at (other giver) brought).partials (at (other giver) setup).holdings →
      (at giver now ≡ has giver e) → (at (other giver) now ≡ has (other giver) f) →
      EndsJoined setup brought giver e f → EndsJoined setup brought (other giver) f e →
      length f.log.taken ≤ floor (length e.log.taken) (view_at (parties setup brought) giver) →
      OwnSince setup brought giver → OwnSince setup now giver
  own_now giver now e f same same_there near_has far_has near far behind before =
      own_more setup brought now giver (length e.log.taken) (length f.log.taken) before
      (ap (λ (b : Belongings). b.lists.struck) near_has ∙ struck_now giver e f near)
      (ap (λ (b : Belongings). b.lists.struck) far_has ∙ struck_now (other giver) f e far)
      (ap (λ (b : Belongings). b.kept) far_has ∙ stored_now (other giver) f e far)
      (own_for_base (at giver brought).partials (at (other giver) brought).partials (at giver setup).holdings (at (other giver) setup).holdings _ _ _ _
      (subst₂ (λ h others. OwnEntries h others (at giver (parties setup brought)).jobs (struck_in (parties setup brought) giver (length e.log.taken))
      (struck_in (parties setup brought) (other giver) (length f.log.taken)) (stored_in (parties setup brought) (other giver) (length f.log.taken)))
      same same_there
      (session_own (parties setup brought) giver (length e.log.taken) (length f.log.taken) (to_floor giver e f near far) behind)))

  -- of both ends
  pub own_of_both : (giver : Side) (now : AtBoth Belongings) (e f : LineEndState DialogueState) → EndsJoined setup brought Caller e f →
      now.at_caller ≡ has Caller e → now.at_called ≡ has Called f →
      OwnSince setup brought giver → OwnSince setup now giver
  own_of_both Caller now e f near near_has far_has before =
      let far = all_steps.turned Caller e f near in
      own_now Caller now e f refl refl near_has far_has near far (to_floor Called f e far near) before
  own_of_both Called now e f near near_has far_has before =
      let far = all_steps.turned Caller e f near in
      own_now Called now f e refl refl far_has near_has far near (to_floor Caller e f near far) before

-- ---- by places, as the headline has it

pub record OwnPlaces (setup : SetupValue) (now : AtBoth Belongings) (giver : Side) : Type 0 where
  pub places : HasOwnEntries (at giver setup).holdings (at (other giver) setup).holdings
      (since (at giver setup).belongings.lists.struck (at giver now).lists.struck)
      (since (at (other giver) setup).belongings.lists.struck (at (other giver) now).lists.struck)
      (since (at (other giver) setup).belongings.kept (at (other giver) now).kept)
  pub struck : (at giver now).lists.struck ≡ (at giver setup).belongings.lists.struck
      ++ since (at giver setup).belongings.lists.struck (at giver now).lists.struck
  pub stored : (at (other giver) now).kept ≡ (at (other giver) setup).belongings.kept
      ++ since (at (other giver) setup).belongings.kept (at (other giver) now).kept

pub since_is : {A : Type 0} (before more now : List A) → now ≡ before ++ more → since before now ≡ more
since_is before more now e = ap (drop (length before)) e ∙ drop-append_seam before more

pub front_stays : {A : Type 0} (before more now : List A) → now ≡ before ++ more → now ≡ before ++ since before now
front_stays before more now e = e ∙ ap (λ z. before ++ z) (sym (since_is before more now e))

pub own_places : (setup : SetupValue) (now : AtBoth Belongings) (giver : Side) → OwnSince setup now giver →
    OwnPlaces setup now giver
own_places setup now giver own = record {
  places =
      subst (λ gs. HasOwnEntries h others gs rs es)
      (sym (since_is (at giver setup).belongings.lists.struck own.givers (at giver now).lists.struck own.givers_are))
      (subst (λ xs. HasOwnEntries h others own.givers xs es)
      (sym (since_is (at (other giver) setup).belongings.lists.struck own.receivers (at (other giver) now).lists.struck own.receivers_are))
      (subst (λ xs. HasOwnEntries h others own.givers own.receivers xs)
      (sym (since_is (at (other giver) setup).belongings.kept own.entries (at (other giver) now).kept own.entries_are))
      (by_places h others own.jobs own.givers own.receivers own.entries own.own)));
  struck = front_stays (at giver setup).belongings.lists.struck own.givers (at giver now).lists.struck own.givers_are;
  stored = front_stays (at (other giver) setup).belongings.kept own.entries (at (other giver) now).kept own.entries_are;
}
  where
    h : Holdings
    h = (at giver setup).holdings

    others : Holdings
    others = (at (other giver) setup).holdings

    rs : List Job
    rs = since (at (other giver) setup).belongings.lists.struck (at (other giver) now).lists.struck

    es : List Kept
    es = since (at (other giver) setup).belongings.kept (at (other giver) now).kept
