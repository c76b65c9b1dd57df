-- What calls of a node do, one after the other, as their clauses say, and what they add to its outbox (this project's
-- profile).
use Rattle.std.specs.Prelude.{◌≡◌, ◌<◌, ◌≤◌, ℕ, Bool, List, [], ◌∷◌, ◌++◌, ⊤}
use Rattle.uug_link.specs.Entries.{EntryValue}
use Rattle.uug_reader.specs.Cut.{Item}
use Rattle.uug_reader.specs.Search.{search_of, standing}
use Rattle.uug_session.specs.EndStep.{unmoved}
use Rattle.uug_session.specs.Engine.{CountsFaults, Does, EngineState, bare, stage_late, with_outbox}
use Rattle.uug_conversation.specs.Holdings.{Kept, Holdings}
use Rattle.uug_session.specs.Node.{NodeState, IsAsBefore, TakesShown, offered, searched}
use Rattle.uug_conversation.specs.DialogueValue.{dialogue_has_parted}

-- a node beside its spool: what that has kept, and how often its device has failed
pub record Beside : Type 0 where
  pub node : NodeState
  pub kept : List Kept
  pub faults : ℕ

abbrev pub beside : NodeState → List Kept → (faults : ℕ) → Beside
beside node kept faults = record { node = node; kept = kept; faults = faults }

pub data NodeCall : Type 0 where
  -- these first bytes of a piece were taken
  offers : (bytes : List ℕ) → NodeCall
  -- a first item was looked for
  looks : NodeCall
  -- the item that is shown was taken up, or memory for that was refused
  takes : (took : Bool) → NodeCall
  refuses : NodeCall
  -- nothing had come for some time, or memory for what that emits was refused
  times_out : NodeCall
  refuses_timeout : NodeCall
  -- all that was emitted was taken away
  clears : NodeCall

-- the spool is as before
pub record KeepsNothing (old new : Beside) : Type 0 where
  pub kept : new.kept ≡ old.kept
  pub faults : new.faults ≡ old.faults

-- and so are the bytes held
pub record HoldsTheSame (old new : Beside) : Type 0 where
  pub texts : new.node.texts ≡ old.node.texts
  pub packets : new.node.packets ≡ old.node.packets
  pub spool : KeepsNothing old new

-- what a timeout does to an end
abbrev pub IsLate : (old new : EngineState) → Type 0
IsLate old new =
    Does (stage_late old.number old.identity (dialogue_has_parted old.dialogue) old.stage old.link old.dialogue) (bare new) old new

-- the clauses of `offer`, of `next_found`, of `take_found`, of `on_timeout` and of `clear_outbox`; `most` is the greatest
-- count of faults
abbrev pub Makes : (h : Holdings) → (most : ℕ) → NodeCall → (old new : Beside) → Type 0
Makes h most (offers bytes) old new = (new.node ≡ offered bytes old.node) × KeepsNothing old new
Makes h most looks old new = (new.node ≡ searched old.node) × KeepsNothing old new
Makes h most (takes took) old new =
    (old.faults ≤ new.faults)
    × TakesShown h old.kept new.kept (CountsFaults most old.faults new.faults) old.node new.node took
Makes h most refuses old new =
    (new.faults ≡ old.faults) × IsAsBefore h old.kept new.kept old.node new.node
Makes h most times_out old new = IsLate old.node.engine new.node.engine × HoldsTheSame old new
Makes h most refuses_timeout old new =
    Does (unmoved (bare old.node.engine)) (bare new.node.engine) old.node.engine new.node.engine × HoldsTheSame old new
Makes h most clears old new =
    (new.node.engine ≡ with_outbox new.node.engine.outbox old.node.engine) × HoldsTheSame old new

-- what the call has added to the outbox, behind what that held
abbrev pub Adds : NodeCall → (added : List EntryValue) → (old new : Beside) → Type 0
Adds clears added old new = (added ≡ []) × (new.node.engine.outbox.entries ≡ [])
Adds _ added old new = new.node.engine.outbox.entries ≡ old.node.engine.outbox.entries ++ added

-- The calls, one after the other, and all that they have added: what was cleared away since is among it.
abbrev pub Make : (h : Holdings) → (most : ℕ) → List NodeCall → (added : List EntryValue) → (old new : Beside) → Type 0
Make h most [] added old new = (old ≡ new) × (added ≡ [])
Make h most (call ∷ calls) added old new =
    (middle : Beside) × (first more : List EntryValue) × (added ≡ first ++ more)
    × Makes h most call old middle × Adds call first old middle × Make h most calls more middle new

-- all bytes that were taken
abbrev pub taken_in : NodeCall → List ℕ
taken_in (offers bytes) = bytes
taken_in _ = []

abbrev pub all_offered : List NodeCall → List ℕ
all_offered [] = []
all_offered (call ∷ calls) = taken_in call ++ all_offered calls

-- no timeout is among them
abbrev pub HaveNoTimeout : List NodeCall → Type 0
HaveNoTimeout [] = ⊤
HaveNoTimeout (times_out ∷ calls) = ⊥
HaveNoTimeout (_ ∷ calls) = HaveNoTimeout calls

-- Some calls of `offer`, `next_found` and `take_found`, one after the other, in which these bytes were taken. What they
-- added to the outbox stands behind what that held.
pub record IsMadeOfCalls (h : Holdings) (most : ℕ) (bytes : List ℕ) (old new : Beside) : Type 0 where
  pub calls : List NodeCall
  pub added : List EntryValue
  pub made : Make h most calls added old new
  pub takes : all_offered calls ≡ bytes
  pub no_timeout : HaveNoTimeout calls
  pub adds : new.node.engine.outbox.entries ≡ old.node.engine.outbox.entries ++ added

-- Where an item of the link is shown, it is what is found in the bytes held. So it is in a node that holds nothing, and so
-- it stays.
abbrev pub ShowsWhatIsFound : NodeState → Type 0
ShowsWhatIsFound n = 0 < n.packets.shown_size → (item : Item) × (search_of n.packets.bytes ≡ standing item n.packets.shown_size n.packets.bytes)
