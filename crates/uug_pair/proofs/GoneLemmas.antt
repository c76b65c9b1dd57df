-- The file of a job that is gone was kept.
use Rattle.std.proofs.Common.{◌≡◌, ◌⊎◌, inl, inr, ℕ, List, [], ◌++◌, Contains, Option, Some, slice_get, sym, ap, subst, ◌∙◌}
use Rattle.std.proofs.lemmas.List.Elements.{Contains-append_cases, Contains-append_left}
use Rattle.std.proofs.lemmas.List.Sorted.{Contains-permutation}
use Rattle.std.proofs.lemmas.Option.{get_or_from_slice_get, slice_get-get_or, slice_get_within}
use Rattle.uug_conversation.proofs.MachineMoveLemmas.{stays}
use Rattle.uug_conversation.specs.Choice.{fetched_by}
use Rattle.uug_conversation.specs.Holdings.{Holdings, Kept, kept_as}
use Rattle.uug_conversation.specs.Jobs.{Lists, pending}
use Rattle.uug_conversation.specs.OwnEntries.{HasOwnEntries, Struck, brought, by_giver, by_receiver, brought_by_request, brought_by_send}
use Rattle.uug_conversation.specs.Sharing.{HaveSameJobs, OnlyMoves, all_jobs}
use Rattle.uug_conversation.specs.Sides.{AtBoth, at}
use Rattle.uug_conversation.specs.declared.job.Job.{Job}
use Rattle.uug_conversation.specs.declared.job.Job.TheVariants as job
use Rattle.uug_conversation.specs.declared.side.Side.{Side}
use Rattle.uug_conversation.specs.declared.side.Side.TheVariants.{Caller, Called}
use Rattle.uug_session.proofs.SameJobsLemmas.{moved_together}
use Rattle.uug_session.specs.EndStep.{EndState}
use Rattle.uug_session.specs.Node.{NodeState, struck_jobs}
use Rattle.uug_conversation.specs.DialogueState.{DialogueState}
use Rattle.uug_line.specs.Headline.{since}
use Rattle.uug_session.specs.Beginnings.{AreSound, EndBeginning, first_effect, identity_of}
use Rattle.uug_pair.specs.Gone.{FileWasKept, IsGone, WasKept}
use Rattle.uug_session.specs.NodeRuns.{HasRun}
use Rattle.uug_pair.specs.TwoCourses.{EventAt, NoneIsFooled}
use Rattle.uug_pair.specs.TwoNodes.{HaveRun, holdings_at, kept_at, kept_by_both, lists_of, struck_at}
use Rattle.uug_pair.proofs.MovedLemmas.{events_move}
use Rattle.uug_pair.proofs.TwoNodesLaw.{nodes_keep, run_state}

-- ---- a job that is gone is struck

there_at : {X : Type 0} (xs : List X) (x : X) → Contains xs x → (i : ℕ) × (slice_get xs i ≡ Some x)
there_at xs x has = (has.0, slice_get-get_or xs has.0 x has.1 ∙ ap Some has.2)

is_there : {X : Type 0} (xs : List X) (x : X) (i : ℕ) → slice_get xs i ≡ Some x → Contains xs x
is_there xs x i at_i = (i, slice_get_within xs i x at_i, get_or_from_slice_get xs i x x at_i)

gone_is_struck : (which : Job) (before now : Lists) → HaveSameJobs before now → IsGone which before now → Contains now.struck which
gone_is_struck which before now same gone =
    by (Contains-append_cases (pending now) (now.struck ++ now.failed) which
    (Contains-permutation (all_jobs before) (all_jobs now) which same
    (Contains-append_left (pending before) (before.struck ++ before.failed) which gone.was_pending)))
  where
    struck_or_failed : Contains now.struck which ⊎ Contains now.failed which → Contains now.struck which
    struck_or_failed (inl struck) = struck
    struck_or_failed (inr failed) = absurd (gone.not_failed failed)

    by : Contains (pending now) which ⊎ Contains (now.struck ++ now.failed) which → Contains now.struck which
    by (inl waits) = absurd (gone.not_pending waits)
    by (inr done) = struck_or_failed (Contains-append_cases now.struck now.failed which done)

-- ---- the entry of a struck job

entry_of : (h others : Holdings) (givers receivers : List Job) (entries : List Kept) → HasOwnEntries h others givers receivers entries →
    (job : Struck) (source target : List ℕ) → brought others givers receivers job ≡ Some (record { source = source; target = target }) →
    WasKept h source target entries
entry_of h others givers receivers entries own struck source target brings =
    let entry = own.entry struck (record { source = source; target = target }) brings in
    record {
      file = entry.0;
      is_given = entry.1;
      is_kept = is_there entries (kept_as target entry.0) (own.place struck) entry.2;
    }

sent_kept : (h others : Holdings) (givers receivers : List Job) (entries : List Kept) (source target user : List ℕ) (temp : Option (List ℕ)) →
    HasOwnEntries h others givers receivers entries → Contains givers (job.Send source target user temp) →
    WasKept h (fetched_by source temp) (others.landing source target) entries
sent_kept h others givers receivers entries source target user temp own has =
    let at_i = there_at givers (job.Send source target user temp) has in
    entry_of h others givers receivers entries own (by_giver at_i.0) (fetched_by source temp) (others.landing source target) (ap (brought_by_send others) at_i.1)

asked_kept : (h others : Holdings) (givers receivers : List Job) (entries : List Kept) (source target user : List ℕ) →
    HasOwnEntries h others givers receivers entries → Contains receivers (job.Request source target user) →
    WasKept h source (others.landing source target) entries
asked_kept h others givers receivers entries source target user own has =
    let at_i = there_at receivers (job.Request source target user) has in
    entry_of h others givers receivers entries own (by_receiver at_i.0) source (others.landing source target) (ap (brought_by_request others) at_i.1)

-- ---- a node's jobs

run_moves : (side : Side) (b : EndBeginning) (kept : List Kept) (n : NodeState) → HasRun side b kept n → OnlyMoves b.lists (lists_of n)
run_moves side b kept n run =
    subst (λ (e : EndState DialogueState). OnlyMoves b.lists e.keeper.machine.lists) (run_state side b kept n run)
    (events_move b.holdings b.lists (identity_of side b) run.led.events (first_effect side b).state (stays b.lists))

module _ (ends : AtBoth EndBeginning) (order : List EventAt) (kept : AtBoth (List Kept)) (nodes : AtBoth NodeState)
    (sound : AreSound ends) (none : NoneIsFooled ends order) (have : HaveRun ends order kept nodes) where
  -- where none was struck before
  gone_struck : (side : Side) (which : Job) → (at side ends).lists.struck ≡ [] →
      IsGone which (at side ends).lists (lists_of (at side nodes)) → Contains (struck_at ends nodes side) which
  gone_struck side which fresh gone =
      let n : NodeState = at side nodes in
      let moves = run_moves side (at side ends) (at side kept) n (have.runs side) in
      subst (λ (before : List Job). Contains (since before (struck_jobs n)) which) (sym fresh)
      (gone_is_struck which (at side ends).lists (lists_of n) (moved_together (at side ends).lists (lists_of n) moves) gone)

  pub gone_was_kept : (side : Side) (which : Job) → (at side ends).lists.struck ≡ [] →
      IsGone which (at side ends).lists (lists_of (at side nodes)) →
      FileWasKept (holdings_at ends) (kept_by_both ends kept) side which
  gone_was_kept Caller (job.Send source target user temp) fresh gone =
      sent_kept ends.at_caller.holdings ends.at_called.holdings (struck_at ends nodes Caller) (struck_at ends nodes Called) (kept_at ends kept Called)
      source target user temp (nodes_keep ends order kept nodes sound none have Caller)
      (gone_struck Caller (job.Send source target user temp) fresh gone)
  gone_was_kept Called (job.Send source target user temp) fresh gone =
      sent_kept ends.at_called.holdings ends.at_caller.holdings (struck_at ends nodes Called) (struck_at ends nodes Caller) (kept_at ends kept Caller)
      source target user temp (nodes_keep ends order kept nodes sound none have Called)
      (gone_struck Called (job.Send source target user temp) fresh gone)
  gone_was_kept Caller (job.Request source target user) fresh gone =
      asked_kept ends.at_called.holdings ends.at_caller.holdings (struck_at ends nodes Called) (struck_at ends nodes Caller) (kept_at ends kept Caller)
      source target user (nodes_keep ends order kept nodes sound none have Called)
      (gone_struck Caller (job.Request source target user) fresh gone)
  gone_was_kept Called (job.Request source target user) fresh gone =
      asked_kept ends.at_caller.holdings ends.at_called.holdings (struck_at ends nodes Caller) (struck_at ends nodes Called) (kept_at ends kept Called)
      source target user (nodes_keep ends order kept nodes sound none have Caller)
      (gone_struck Called (job.Request source target user) fresh gone)
