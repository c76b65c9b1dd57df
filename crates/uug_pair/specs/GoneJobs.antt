-- The files of the jobs that are gone after two ends have run their sessions (this project's profile).
use Rattle.std.specs.Prelude.{List}
use Rattle.uug_conversation.specs.Holdings.{Holdings, Kept}
use Rattle.uug_conversation.specs.Sides.{AtBoth, at}
use Rattle.uug_conversation.specs.declared.job.Job.{Job}
use Rattle.uug_conversation.specs.declared.side.Side.{Side}
use Rattle.uug_pair.specs.Gone.{FileWasKept, IsGone}
use Rattle.uug_pair.specs.TwoCourses.{EventAt, NoneIsFooled}
use Rattle.uug_pair.specs.TwoNodes.{HaveRun, holdings_at, kept_by_both, lists_of}
use Rattle.uug_session.specs.Beginnings.{EndBeginning}
use Rattle.uug_session.specs.NodeRuns.{HasRun}
use Rattle.uug_session.specs.Node.{NodeState}
use Rattle.uug_config.specs.Tasks.{beginning_of}
use Rattle.uug_config.specs.declared.end_parts.EndParts.{EndParts}
use Rattle.uug_transfer.specs.BufferedNodes.{node_in, spool_in}
use Rattle.uug_transfer.specs.declared.buffered_node.BufferedNode.{BufferedNode}

-- a value at the caller, and one at the called end
abbrev pub of_both : {X : Type 0} → (caller called : X) → AtBoth X
of_both caller called = record { at_caller = caller; at_called = called }

-- the beginnings of the sessions of two ends that are made of these parts
abbrev pub beginnings_of : {S J N A : Type 0} → (holdings : S → Holdings) (kept : S → List Kept) →
    (caller called : EndParts S J N A) → AtBoth EndBeginning
beginnings_of holdings kept caller called =
    of_both (beginning_of holdings kept caller) (beginning_of holdings kept called)

-- all files that the spools of two ends have kept
abbrev pub kept_by : {S A : Type 0} → (kept : S → List Kept) (caller called : BufferedNode S A) → AtBoth (List Kept)
kept_by kept caller called = of_both (kept (spool_in caller)) (kept (spool_in called))

abbrev pub nodes_of : {S A : Type 0} → (caller called : BufferedNode S A) → AtBoth NodeState
nodes_of caller called = of_both (node_in caller) (node_in called)

-- Events led each of the two nodes to its state. For every order of the events of both in which neither end was fooled:
-- the file of each job that is gone from an end's pending jobs, and did not fail, was kept, complete, at the end to
-- which it went.
pub record GoneJobsWereDone (ends : AtBoth EndBeginning) (kept : AtBoth (List Kept)) (nodes : AtBoth NodeState) : Type 0 where
  pub runs : (side : Side) → HasRun side (at side ends) (at side kept) (at side nodes)
  pub files : (order : List EventAt) → HaveRun ends order kept nodes → NoneIsFooled ends order →
      (side : Side) (job : Job) → IsGone job (at side ends).lists (lists_of (at side nodes)) →
      FileWasKept (holdings_at ends) (kept_by_both ends kept) side job
