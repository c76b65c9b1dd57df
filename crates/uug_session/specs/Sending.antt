-- An end sends while there is room, and closes where all is over (this project's profile).
use Rattle.std.specs.Prelude.{◌≡◌, true, false, List, [], None, ◌⊎◌, ⊤}
use Rattle.uug_link.specs.State.{State, HasRoom}
use Rattle.uug_session.specs.EndStep.{EndState, Stage, hailing, linked, ended, has_room, is_up}
use Rattle.uug_session.specs.Engine.{EngineState, end_of}
use Rattle.uug_conversation.specs.Holdings.{Holdings, Kept}
use Rattle.uug_conversation.specs.Keeper.{Keeper}
use Rattle.uug_conversation.specs.DialogueState.{end_keeper}

-- by how far its session is: the link is not up in the greeting; on a link that is up the window lets no message more out,
-- or none waits to be sent
abbrev pub SaidAt : {C : Type 0} → Keeper C → Stage → State → C → Type 0
SaidAt k (hailing greeting) s c = is_up s.phase ≡ false
SaidAt k linked s c = (has_room s ≡ false) ⊎ (k.next c ≡ None)
SaidAt k (ended how) s c = ⊤

-- The end has said what it can.
abbrev pub HasSaidWhatItCan : {C : Type 0} → Keeper C → EndState C → Type 0
HasSaidWhatItCan k e = SaidAt k e.stage e.link e.keeper

-- by how far its session is: where the link is up not all is said and taken yet
abbrev pub GoesOnAt : {C : Type 0} → Keeper C → Stage → State → C → Type 0
GoesOnAt k (hailing greeting) s c = is_up s.phase ≡ false
GoesOnAt k linked s c = is_up s.phase ≡ true → k.is_over c ≡ false
GoesOnAt k (ended how) s c = ⊤

-- The end has closed its link where all is said and taken.
abbrev pub HasClosedWhereItIsOver : {C : Type 0} → Keeper C → EndState C → Type 0
HasClosedWhereItIsOver k e = GoesOnAt k e.stage e.link e.keeper

-- a node, with what its spool gives and has kept
abbrev pub NodeHasSaidWhatItCan : Holdings → List Kept → EngineState → Type 0
NodeHasSaidWhatItCan h kept e = HasSaidWhatItCan (end_keeper e.identity.side h) (end_of h kept e)

-- The same of an end without what its spool holds: on a link that has begun and has room nothing is left to be said.
abbrev pub SaysWhatItCan : EngineState → Type 0
SaysWhatItCan e = e.stage ≡ linked → HasRoom e.link → e.dialogue.outgoing.sayings ≡ []
