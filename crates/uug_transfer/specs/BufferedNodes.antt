-- One end at a line: its state, and what arriving bytes and a timeout do to it (this project's profile).
use Rattle.std.specs.Prelude.{◌≡◌, ◌++◌, ℕ, List, []}
use Rattle.uug_session.specs.Engine.{Does, EngineState, bare, stage_late, with_outbox}
use Rattle.uug_conversation.specs.Holdings.{Holdings, Kept}
use Rattle.uug_session.specs.Node.{NodeState, node_of}
use Rattle.uug_session.specs.NodeArriving.{TakesAll}
use Rattle.uug_conversation.specs.DialogueValue.{dialogue_has_parted}
use Rattle.uug_transfer.specs.Outgoing.{count_behind, outgoing_from}
use Rattle.uug_transfer.specs.Thinning.{thinned}
use Rattle.uug_transfer.specs.declared.fault_injector.FaultInjector.{FaultInjector}
use Rattle.uug_transfer.specs.declared.buffered_node.BufferedNode.{BufferedNode}

-- the state of the end, without its files
abbrev pub node_in : {S A : Type 0} → BufferedNode S A → NodeState
node_in buffered = node_of buffered.node

-- the bytes that are still to be written
abbrev pub to_write : {S A : Type 0} → BufferedNode S A → List ℕ
to_write buffered = buffered.outgoing.items

-- the injector of the packets that it emits
abbrev pub injector_in : {S A : Type 0} → BufferedNode S A → FaultInjector
injector_in buffered = buffered.injector

-- its files
abbrev pub spool_in : {S A : Type 0} → BufferedNode S A → S
spool_in buffered = buffered.node.spool

-- ---- what goes out

-- its outbox has no entries, and all else is as before
pub record IsCleared (before after : NodeState) : Type 0 where
  pub entries : after.engine.outbox.entries ≡ []
  pub engine : after.engine ≡ with_outbox after.engine.outbox before.engine
  pub texts : after.texts ≡ before.texts
  pub packets : after.packets ≡ before.packets

-- The outbox was moved to the end of the bytes to be written. Packets that are left out do not go out. The others were
-- counted, and the injector may have lost or changed some of them.
pub record SendsOut (injector injector_after : FaultInjector) (bytes bytes_after : List ℕ) (before after : NodeState) : Type 0 where
  pub goes_out : bytes_after ≡ bytes
      ++ outgoing_from injector.drop_every injector.flip_every injector.count (thinned injector.thinning before.engine.outbox.entries)
  pub count : injector_after.count ≡ count_behind injector.count (thinned injector.thinning before.engine.outbox.entries)
  pub drop_every : injector_after.drop_every ≡ injector.drop_every
  pub flip_every : injector_after.flip_every ≡ injector.flip_every
  pub thinning : injector_after.thinning ≡ injector.thinning
  pub cleared : IsCleared before after

-- The piece arrived, and the end handled all that is found in it. What it then had emitted is to be written.
pub record Hears (h : Holdings) (kept kept_after : List Kept) (failure : Type 0) (piece : List ℕ)
    (injector injector_after : FaultInjector) (bytes bytes_after : List ℕ) (before after : NodeState) : Type 0 where
  pub between : NodeState
  pub takes : TakesAll h kept kept_after failure piece before between
  pub sends : SendsOut injector injector_after bytes bytes_after between after

-- its session, its link and its conversation changed as the step of a timeout says, and it emitted what that says
abbrev pub LateStep : (before after : EngineState) → Type 0
LateStep before after = Does (stage_late before.number before.identity (dialogue_has_parted before.dialogue) before.stage before.link before.dialogue)
    (bare after) before after

-- The end handled a timeout. What it then had emitted is to be written.
pub record Waits (injector injector_after : FaultInjector) (bytes bytes_after : List ℕ) (before after : NodeState) : Type 0 where
  pub between : NodeState
  pub late : LateStep before.engine between.engine
  pub texts : between.texts ≡ before.texts
  pub packets : between.packets ≡ before.packets
  pub sends : SendsOut injector injector_after bytes bytes_after between after

-- its state is that after a timeout
abbrev pub IsLate : (before after : NodeState) → Type 0
IsLate before after = bare after.engine ≡ (stage_late before.engine.number before.engine.identity (dialogue_has_parted before.engine.dialogue)
    before.engine.stage before.engine.link before.engine.dialogue).state
