-- How a node takes up the bytes that come to it, beside its spool (this project's profile).
use Rattle.std.specs.Prelude.{◌≡◌, ℕ, Bool, true, false, List, [], ◌∷◌, ◌++◌, map, All, Some}
use Rattle.uug_session.specs.Arriving.{Receiver, Buffered, all_taken, takes_piece}
use Rattle.uug_session.specs.EndStep.{EndState, Emitted, EndEffect, Identity, packet_found_whole, end_step}
use Rattle.uug_session.specs.Engine.{end_of, entry_of}
use Rattle.uug_session.specs.Finding.{finds_nothing, finding}
use Rattle.uug_conversation.specs.Holdings.{Kept, Holdings}
use Rattle.uug_session.specs.Node.{NodeState, held_bytes, struck_jobs}
use Rattle.uug_conversation.specs.OwnRequests.{KeepsWhatItAskedFor}
use Rattle.uug_conversation.specs.DialogueState.{DialogueState, end_keeper}

-- ---- what takes up what is found

-- what a node has come to beside its spool
pub record NodeEnd : Type 0 where
  pub state : EndState DialogueState
  pub emitted : List Emitted
  -- whether the spool's device fails at each of the packets that are still to come; at those behind them it does not
  pub failures : List Bool

abbrev pub fails_first : List Bool → Bool
fails_first [] = false
fails_first (failed ∷ failures) = failed

abbrev pub fails_later : List Bool → List Bool
fails_later [] = []
fails_later (failed ∷ failures) = failures

abbrev pub with_effect : EndEffect DialogueState → List Bool → NodeEnd → NodeEnd
with_effect effect failures x = record { state = effect.state; emitted = x.emitted ++ effect.emitted; failures = failures }

-- each item does what the step of its event says; a packet is always taken up
abbrev pub node_taker : Holdings → Identity → Receiver NodeEnd
node_taker h id = record {
  stage_of = λ x. x.state.stage;
  takes = λ event x. with_effect (end_step (end_keeper id.side h) id event x.state) x.failures x;
  takes_packet = λ p x. Some (with_effect
      (end_step (end_keeper id.side h) id (packet_found_whole (fails_first x.failures) p) x.state)
      (fails_later x.failures) x);
}

-- a node that has emitted this so far, with the bytes that it holds
abbrev pub hearer_of : Holdings → List Kept → (said : List Emitted) → (failures : List Bool) → NodeState → Buffered NodeEnd
hearer_of h kept said failures n = record {
  held = held_bytes n;
  end = record { state = end_of h kept n.engine; emitted = said; failures = failures };
}

-- ---- what some calls come to

-- This was emitted and stands in order behind what the outbox held. The device failed so at the packets that were taken up,
-- and where it did, that stands in its count of faults. Who the end is stays.
pub record Course (failure : Type 0) (before after : NodeState) : Type 0 where
  pub emitted : List Emitted
  pub failures : List Bool
  pub counted : All (λ failed. failed ≡ true → failure) failures
  pub entries : after.engine.outbox.entries ≡ before.engine.outbox.entries ++ map entry_of emitted
  pub identity : after.engine.identity ≡ before.engine.identity
  pub own : after.engine.own ≡ before.engine.own

-- These bytes have come, and from here the node goes on with whatever more comes as it would have done had all of it come
-- at once: nothing is lost, nothing is taken up twice. What it asked for and has struck, it has kept.
pub record GoesOn (h : Holdings) (kept kept_after : List Kept) (failure : Type 0) (bytes : List ℕ) (before after : NodeState) : Type 0 where
  pub course : Course failure before after
  pub goes_on : (more : List ℕ) (said : List Emitted) (later : List Bool)
      → takes_piece (node_taker h before.engine.identity) (bytes ++ more) (hearer_of h kept said (course.failures ++ later) before)
      ≡ takes_piece (node_taker h before.engine.identity) more (hearer_of h kept_after (said ++ course.emitted) later after)
  pub requests : KeepsWhatItAskedFor h (struck_jobs before) (struck_jobs after) kept kept_after

-- These bytes have come, and all that is found in them was taken up.
pub record TakesAll (h : Holdings) (kept kept_after : List Kept) (failure : Type 0) (bytes : List ℕ) (before after : NodeState) : Type 0 where
  pub course : Course failure before after
  pub taken : (said : List Emitted) (later : List Bool)
      → takes_piece (node_taker h before.engine.identity) bytes (hearer_of h kept said (course.failures ++ later) before)
      ≡ all_taken (hearer_of h kept_after (said ++ course.emitted) later after)

-- ---- between the calls

-- nothing is found, and all that is held waits
abbrev pub IsAtRest : NodeState → Type 0
IsAtRest n = finding n.engine.stage (held_bytes n) ≡ finds_nothing (held_bytes n)
