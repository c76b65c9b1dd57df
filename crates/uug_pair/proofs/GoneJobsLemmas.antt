-- The law of two ends, of two that have run their sessions and whose jobs were just read.
use Rattle.std.proofs.Common.{◌≡◌, ℕ, ◌≤◌, List, [], length, Option, Some, None, ap, subst, sym, arith}
use Rattle.std.proofs.lemmas.Bool.Decides.{nat_tests}
use Rattle.uug_conversation.specs.Holdings.{Kept}
use Rattle.uug_conversation.specs.Jobs.{Lists}
use Rattle.uug_conversation.specs.Party.{HoldsFronts, HoldsNone, TakesSizes}
use Rattle.uug_conversation.specs.Turns.{other}
use Rattle.uug_conversation.specs.Holdings.{File, within_limit}
use Rattle.uug_conversation.proofs.ResumingLemmas.{holds_no_fronts}
use Rattle.uug_conversation.specs.Sides.{AtBoth, at}
use Rattle.uug_conversation.specs.declared.job.Job.{Job}
use Rattle.uug_conversation.specs.declared.side.Side.{Side}
use Rattle.uug_conversation.specs.declared.side.Side.TheVariants.{Caller, Called}
use Rattle.uug_pair.specs.Gone.{FileWasKept, IsGone}
use Rattle.uug_pair.specs.TwoCourses.{EventAt, NoneIsFooled}
use Rattle.uug_pair.specs.TwoNodes.{HaveRun, holdings_at, kept_by_both, lists_of}
use Rattle.uug_session.specs.Beginnings.{AreSound, EndBeginning, IsSoundBeginning}
use Rattle.uug_session.specs.NodeRuns.{HasRun}
use Rattle.uug_store.specs.JobsText.{IsQueueOf}
use Rattle.uug_pair.specs.GoneJobs.{GoneJobsWereDone, of_both}
use Rattle.uug_session.specs.Engine.{all_ahead}
use Rattle.uug_session.specs.Node.{NodeState}

-- no job of a queue that was just read was done
pub none_struck : (text : List ℕ) (queue : Lists) → IsQueueOf text queue → (all_ahead queue).struck ≡ []
none_struck text queue read = ap (λ (l : Lists). l.struck) read.fresh

is_within : (limit : ℕ) (found : Option File) (file : File) → within_limit limit found ≡ Some file → length file.bytes ≤ limit
is_within limit None file e = absurd cc
is_within limit (Some f) file e =
    let small : length f.bytes ≤ limit = grind (arith, nat_tests, e) in
    let same : f ≡ file = grind (arith, nat_tests, e) in
    subst (λ (z : File). length z.bytes ≤ limit) same small

module _ (law : (ends : AtBoth EndBeginning) (order : List EventAt) (kept : AtBoth (List Kept)) (nodes : AtBoth NodeState) →
    AreSound ends → NoneIsFooled ends order → HaveRun ends order kept nodes → (side : Side) (which : Job) →
    (at side ends).lists.struck ≡ [] → IsGone which (at side ends).lists (lists_of (at side nodes)) →
    FileWasKept (holdings_at ends) (kept_by_both ends kept) side which)
    (caller called : EndBeginning) (caller_kept called_kept : List Kept) (a b : NodeState)
    (caller_sound : IsSoundBeginning caller) (called_sound : IsSoundBeginning called)
    (caller_holds_none : HoldsNone caller.holdings) (called_holds_none : HoldsNone called.holdings)
    (same_limit : caller.holdings.limit ≡ called.holdings.limit)
    (caller_fresh : caller.lists.struck ≡ []) (called_fresh : called.lists.struck ≡ [])
    (caller_ran : HasRun Caller caller caller_kept a) (called_ran : HasRun Called called called_kept b) where
  each_sound : (side : Side) → IsSoundBeginning (at side (of_both caller called))
  each_sound Caller = caller_sound
  each_sound Called = called_sound

  both_hold_fronts : (giver : Side) → HoldsFronts (at giver (of_both caller called)).holdings (at (other giver) (of_both caller called)).holdings
  both_hold_fronts Caller = holds_no_fronts caller.holdings called.holdings called_holds_none
  both_hold_fronts Called = holds_no_fronts called.holdings caller.holdings caller_holds_none

  -- what the one gives is within its own limit, which is that of the other
  both_take_sizes : (giver : Side) → TakesSizes (at giver (of_both caller called)).holdings (at (other giver) (of_both caller called)).holdings
  both_take_sizes Caller source file given =
      subst (λ limit. length file.bytes ≤ limit) same_limit (is_within caller.holdings.limit (caller.holdings.file source) file given)
  both_take_sizes Called source file given =
      subst (λ limit. length file.bytes ≤ limit) (sym same_limit) (is_within called.holdings.limit (called.holdings.file source) file given)

  both_sound : AreSound (of_both caller called)
  both_sound = record { each = each_sound; fronts = both_hold_fronts; sizes = both_take_sizes }

  both_fresh : (side : Side) → (at side (of_both caller called)).lists.struck ≡ []
  both_fresh Caller = caller_fresh
  both_fresh Called = called_fresh

  both_ran : (side : Side) → HasRun side (at side (of_both caller called)) (at side (of_both caller_kept called_kept))
      (at side (of_both a b))
  both_ran Caller = caller_ran
  both_ran Called = called_ran

  pub gone_done : GoneJobsWereDone (of_both caller called) (of_both caller_kept called_kept) (of_both a b)
  gone_done = record {
    runs = both_ran;
    files = λ order ran none side which gone.
        law (of_both caller called) order (of_both caller_kept called_kept) (of_both a b) both_sound none ran side which
        (both_fresh side) gone;
  }
