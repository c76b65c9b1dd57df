-- The bytes that an end has written to its line: the first of those that it had to write (this project's profile).
use Rattle.std.specs.Prelude.{◌≡◌, ◌++◌, ℕ, List, [], ◌∷◌, Option, Some, None, map, ⊤}
use Rattle.uug_conversation.specs.Holdings.{Holdings, Kept}
use Rattle.uug_link.specs.Entries.{EntryValue}
use Rattle.uug_session.specs.EndStep.{Emitted}
use Rattle.uug_session.specs.Engine.{entry_of}
use Rattle.uug_session.specs.Node.{NodeState}
use Rattle.uug_transfer.specs.Listening.{HearsSaying}
use Rattle.uug_transfer.specs.Outgoing.{outgoing_from}
use Rattle.uug_transfer.specs.Received.{Received}
use Rattle.uug_transfer.specs.Thinning.{thinned}
use Rattle.uug_transfer.specs.declared.fault_injector.FaultInjector.{FaultInjector}
use Rattle.uug_transfer.specs.declared.thinning.Thinning.{Thinning}

-- the bytes that the line took with these added at the end, if the line exposes them
abbrev pub also_taken : List ℕ → Option (List ℕ) → Option (List ℕ)
also_taken bytes None = None
also_taken bytes (Some before) = Some (before ++ bytes)

-- if the line exposes the bytes that it took: it took the first of these, which may be none or all
abbrev pub TakesFront : List ℕ → (before after : Option (List ℕ)) → Type 0
TakesFront bytes None after = ⊤
TakesFront bytes (Some before) after = (front rest : List ℕ) × (bytes ≡ front ++ rest) × (after ≡ Some (before ++ front))

-- the entries that remain of those that each event made an end emit, joined
abbrev pub all_thinned : Thinning → (says : List (List Emitted)) → List EntryValue
all_thinned thinning [] = []
all_thinned thinning (said ∷ more) = thinned thinning (map entry_of said) ++ all_thinned thinning more

-- the bytes that go out of them
abbrev pub goes_out : FaultInjector → (says : List (List Emitted)) → List ℕ
goes_out injector says = outgoing_from injector.drop_every injector.flip_every injector.count (all_thinned injector.thinning says)

-- The line has taken the first of the bytes that the end had to write, in order: those that were to be written before,
-- then those that go out of what the end has emitted since at each event of its line.
pub record TalksAtLine (h : Holdings) (kept kept_after : List Kept) (received received_after : Option (List Received))
    (injector : FaultInjector) (bytes : List ℕ) (taken taken_after : Option (List ℕ)) (before after : NodeState) : Type 0 where
  pub says : List (List Emitted)
  pub heard : HearsSaying h kept kept_after received received_after says before after
  pub takes : TakesFront (bytes ++ goes_out injector says) taken taken_after
