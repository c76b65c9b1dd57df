-- What a list of a node's calls comes to: steps in each of which bytes come, or there is a timeout. A timeout
-- counts, and may end a session, so it parts what came before it from what came after it (this project's profile).
use Rattle.std.specs.Prelude.{◌≡◌, ◌≤◌, ℕ, List, [], ◌∷◌, ◌++◌}
use Rattle.uug_link.specs.Entries.{EntryValue}
use Rattle.uug_session.specs.EndStep.{time_ran_out}
use Rattle.uug_session.specs.Engine.{Does, HasFailed, end_of, with_outbox}
use Rattle.uug_conversation.specs.Holdings.{Holdings}
use Rattle.uug_session.specs.Node.{NodeState, effect_of}
use Rattle.uug_session.specs.NodeArriving.{GoesOn}
use Rattle.uug_session.specs.NodeCalls.{Beside, HoldsTheSame, NodeCall, offers, times_out}

-- what comes to a node: these bytes, or nothing for some time
pub data Coming : Type 0 where
  bytes_come : (bytes : List ℕ) → Coming
  time_passes : Coming

-- bytes that come one right behind the other come as one
abbrev pub come_first : (bytes : List ℕ) → List Coming → List Coming
come_first bytes [] = bytes_come bytes ∷ []
come_first bytes (bytes_come more ∷ comings) = bytes_come (bytes ++ more) ∷ comings
come_first bytes (time_passes ∷ comings) = bytes_come bytes ∷ time_passes ∷ comings

abbrev pub comes_by : NodeCall → List Coming → List Coming
comes_by (offers bytes) comings = come_first bytes comings
comes_by times_out comings = time_passes ∷ comings
comes_by _ comings = come_first [] comings

-- what comes by these calls
abbrev pub comings_of : List NodeCall → List Coming
comings_of [] = []
comings_of (call ∷ calls) = comes_by call (comings_of calls)

-- the node, with just these entries in its outbox
abbrev pub with_entries : List EntryValue → NodeState → NodeState
with_entries entries n = record n {
  engine = with_outbox (record { entries = entries; spare = n.engine.outbox.spare }) n.engine;
}

-- One step: what came, what was added to the outbox, and the node before it and behind it. Bytes that come are taken up as
-- if they came at once; those that are not taken up yet are held. A timeout is the end's step, and leaves the bytes that
-- are held as they are. What the outbox held before, and what was cleared away since, is left out on both sides.
abbrev pub Comes : (h : Holdings) → (most : ℕ) → Coming → (added : List EntryValue) → (old new : Beside) → Type 0
Comes h most (bytes_come bytes) added old new =
    (old.faults ≤ new.faults)
    × GoesOn h old.kept new.kept (HasFailed most old.faults new.faults) bytes (with_entries [] old.node) (with_entries added new.node)
Comes h most time_passes added old new =
    HoldsTheSame old new
    × Does (effect_of h old.kept time_ran_out (with_entries [] old.node).engine) (end_of h new.kept new.node.engine)
    (with_entries [] old.node).engine (with_entries added new.node).engine

-- one step after the other
abbrev pub GoesThrough : (h : Holdings) → (most : ℕ) → List Coming → (added : List EntryValue) → (old new : Beside) → Type 0
GoesThrough h most [] added old new = (old ≡ new) × (added ≡ [])
GoesThrough h most (coming ∷ comings) added old new =
    (middle : Beside) × (first more : List EntryValue) × (added ≡ first ++ more)
    × Comes h most coming first old middle × GoesThrough h most comings more middle new
