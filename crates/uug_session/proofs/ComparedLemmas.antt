-- Whatever comes to a node: what it keeps is what was told of, and what it tells is so.
use Rattle.std.proofs.Common.{ℕ, List, [], ◌++◌, subst}
use Rattle.uug_talk.specs.Chunks.{Measure}
use Rattle.uug_conversation.specs.DialogueState.{DialogueState, end_keeper, is_empty, opened_with, taking}
use Rattle.uug_conversation.specs.DialogueValue.{dialogue_of}
use Rattle.uug_conversation.specs.Holdings.{Holdings, Kept}
use Rattle.uug_conversation.proofs.ComparingLemmas.{reply_fits}
use Rattle.uug_conversation.proofs.TruthLemmas.{opening_tells_truly, reply_tells_truly}
use Rattle.uug_session.specs.Arriving.{Arrival, Buffered, takes_piece}
use Rattle.uug_session.specs.Compared.{Compares, begins, opens, says, takes}
use Rattle.uug_session.specs.EndStep.{EndEvent, EndState, Identity, end_step}
use Rattle.uug_session.specs.Engine.{EngineState, end_of}
use Rattle.uug_session.specs.Node.{NodeState, effect_of}
use Rattle.uug_session.specs.NodeArriving.{NodeEnd, TakesAll, hearer_of, node_taker}
use Rattle.uug_session.proofs.KeeperLemmas.{piece_keeps, step_keeps, talk_in}

module _ (id : Identity) (h : Holdings) (from : DialogueState) where
  abbrev Since : DialogueState → Type 0
  Since talk = Compares id.side h from talk

  opened_so : (measure : Measure) (talk : DialogueState) → Since talk → Since (opened_with id.side h measure talk)
  opened_so measure talk c = record {
    talk = opens measure c.talk;
    all_so = (opening_tells_truly h id.side talk.machine.lists, c.all_so);
  }

  taking_so : (message : List ℕ) (talk : DialogueState) → Since talk → Since (taking h message talk)
  taking_so message talk c = record {
    talk = takes message c.talk;
    all_so = (
      record {
        kept = reply_fits h (is_empty talk.waiting) talk.machine message;
        told = reply_tells_truly h (is_empty talk.waiting) talk.machine message;
      },
      c.all_so,
    );
  }

  event_so : (event : EndEvent) (e : EndState DialogueState) → Since e.keeper → Since (end_step (end_keeper id.side h) id event e).state.keeper
  event_so event e c =
      step_keeps DialogueState (end_keeper id.side h) Since opened_so taking_so
      (λ talk same. record { talk = says same.talk; all_so = same.all_so }) id event e c

  piece_so : (piece : List ℕ) (r : Buffered NodeEnd) → Since r.end.state.keeper → Since (talk_in (takes_piece (node_taker h id) piece r))
  piece_so piece r c = piece_keeps id h (λ e. Since e.keeper) event_so piece r c

from_itself : (id : Identity) (h : Holdings) (talk : DialogueState) → Compares id.side h talk talk
from_itself id h talk = record { talk = begins; all_so = tt }

pub event_compares : (h : Holdings) (kept : List Kept) (event : EndEvent) (e : EngineState)
    → Compares e.identity.side h (dialogue_of h kept e.dialogue) (effect_of h kept event e).state.keeper
event_compares h kept event e =
    event_so e.identity h (dialogue_of h kept e.dialogue) event (end_of h kept e) (from_itself e.identity h (dialogue_of h kept e.dialogue))

pub takes_all_compares : (h : Holdings) (kept kept_after : List Kept) (failure : Type 0) (bytes : List ℕ) (before after : NodeState)
    → TakesAll h kept kept_after failure bytes before after
    → Compares before.engine.identity.side h (dialogue_of h kept before.engine.dialogue) (dialogue_of h kept_after after.engine.dialogue)
takes_all_compares h kept kept_after failure bytes before after g =
    let id : Identity = before.engine.identity in
    let start : DialogueState = dialogue_of h kept before.engine.dialogue in
    let hearer : Buffered NodeEnd = hearer_of h kept [] (g.course.failures ++ []) before in
    subst (λ (c : Arrival NodeEnd). Compares id.side h start (talk_in c)) (g.taken [] [])
    (piece_so id h start bytes hearer (from_itself id h start))
