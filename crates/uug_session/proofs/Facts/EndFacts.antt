-- A whole session of two ends over a clean line, worked out by hand and computed by an end's steps: with the two ends
-- themselves, and with two numbers and the whole conversation. Both come to the same.
use Rattle.std.proofs.Common.{◌≡◌, ℕ, zero, suc, Bool, true, false, List, [], ◌∷◌, ◌++◌, codes, None, refl}
use Rattle.uug_link.specs.Announced.{Announced}
use Rattle.uug_session.specs.declared.end.End.TheVariants as ends
use Rattle.uug_conversation.specs.Count.{Count, nothing_yet, count_keeper}
use Rattle.uug_session.specs.EndStep.{ended, EndState, Emitted, says_text, sends_packet, EndEffect, Identity, EndEvent, text_found, packet_found_whole, end_step, begins_session}
use Rattle.uug_conversation.specs.Jobs.{at_start}
use Rattle.uug_conversation.specs.Keeper.{Keeper}
use Rattle.uug_conversation.specs.Party.{Party}
use Rattle.uug_conversation.specs.DialogueState.{DialogueState, unopened, end_keeper}
use Rattle.uug_conversation.specs.declared.side.Side.TheVariants.{Caller, Called}
use Rattle.uug_conversation.specs.View.{conversation_view}
use Rattle.uug_conversation.proofs.ConversationFacts.{sender, taker}
use Rattle.uug_conversation.proofs.FactParties.{no_exception, send, y}

-- ---- a clean line: each end is given all that the other emits, and then the other what it emitted at that

abbrev pub found : Emitted → EndEvent
found (says_text text) = text_found text
found (sends_packet e) = packet_found_whole false e.packet

-- an end, what it has emitted at these events, and how many messages it took
pub record Played (C : Type 0) : Type 0 where
  pub state : EndState C
  pub emitted : List Emitted
  pub took : ℕ

abbrev pub one_if : Bool → ℕ → ℕ
one_if true n = suc n
one_if false n = n

abbrev pub with_effect : {C : Type 0} → Played C → EndEffect C → Played C
with_effect p e = record { state = e.state; emitted = p.emitted ++ e.emitted; took = one_if e.took p.took }

abbrev pub hears : {C : Type 0} → Keeper C → Identity → List Emitted → Played C → Played C
hears k id [] p = p
hears k id (e ∷ es) p = hears k id es (with_effect p (end_step k id (found e) p.state))

abbrev pub emptied : {C : Type 0} → Played C → Played C
emptied p = record { state = p.state; emitted = []; took = p.took }

pub record Both (C : Type 0) : Type 0 where
  pub caller_end : Played C
  pub called_end : Played C

abbrev pub two_ends : {C : Type 0} → Played C → Played C → Both C
two_ends a b = record { caller_end = a; called_end = b }

-- what the called end has emitted goes to the caller, and what the caller then has emitted goes to the called end
abbrev pub to_called : {C : Type 0} → Keeper C → Identity → Played C → Played C → Both C
to_called k id a b = two_ends (emptied a) (hears k id a.emitted (emptied b))

abbrev pub round : {C : Type 0} → (caller_keeper called_keeper : Keeper C) → (caller_id called_id : Identity) → Both C → Both C
round ka kb ida idb both =
    to_called kb idb (hears ka ida both.called_end.emitted both.caller_end) both.called_end

abbrev pub rounds : {C : Type 0} → ℕ → (caller_keeper called_keeper : Keeper C) → (caller_id called_id : Identity) → Both C → Both C
rounds zero ka kb ida idb both = both
rounds (suc n) ka kb ida idb both = rounds n ka kb ida idb (round ka kb ida idb both)

-- ---- the caller sends an empty file

abbrev pub caller_id : Identity
caller_id = record { side = Caller; me = codes "a"; peer = codes "b" }

abbrev pub called_id : Identity
called_id = record { side = Called; me = codes "b"; peer = codes "a" }

-- window 2, size 32
abbrev pub announced : Announced
announced = record { window = 2; size_code = 0; quiet = false; short = false }

abbrev pub played : {C : Type 0} → EndEffect C → Played C
played e = record { state = e.state; emitted = e.emitted; took = 0 }

abbrev pub begun : {C : Type 0} → C → C → Both C
begun a b = two_ends (played (begins_session caller_id announced None a)) (played (begins_session called_id announced None b))

abbrev pub dialogue_of : Party → DialogueState
dialogue_of p = unopened (at_start p.jobs [] []) []

-- the ends themselves, and the two numbers of each
abbrev pub by_themselves : (a b : Party) → Both DialogueState
by_themselves a b =
    rounds 12 (end_keeper Caller a.holdings) (end_keeper Called b.holdings) caller_id called_id (begun (dialogue_of a) (dialogue_of b))

abbrev pub by_numbers : (a b : Party) → Both Count
by_numbers a b =
    rounds 12 (count_keeper (conversation_view Caller a b)) (count_keeper (conversation_view Called a b))
    caller_id called_id (begun nothing_yet nothing_yet)

-- both ends are done, and by themselves they come to what the numbers say
pub record IsASession (a b : Party) (caller_numbers called_numbers : Count) : Type 0 where
  pub caller_done : (by_themselves a b).caller_end.state.stage ≡ ended ends.Done
  pub called_done : (by_themselves a b).called_end.state.stage ≡ ended ends.Done
  pub caller_took : (by_themselves a b).caller_end.took ≡ caller_numbers.taken
  pub called_took : (by_themselves a b).called_end.took ≡ called_numbers.taken
  pub caller_counts : (by_numbers a b).caller_end.state.keeper ≡ caller_numbers
  pub called_counts : (by_numbers a b).called_end.state.keeper ≡ called_numbers
  pub caller_stage : (by_numbers a b).caller_end.state.stage ≡ (by_themselves a b).caller_end.state.stage
  pub called_stage : (by_numbers a b).called_end.state.stage ≡ (by_themselves a b).called_end.state.stage
  pub caller_link : (by_numbers a b).caller_end.state.link ≡ (by_themselves a b).caller_end.state.link
  pub called_link : (by_numbers a b).called_end.state.link ≡ (by_themselves a b).called_end.state.link

pub sends_a_file : IsASession sender (taker no_exception)
    (record { opened = true; sent = 4; taken = 3 }) (record { opened = true; sent = 3; taken = 4 })
sends_a_file = record {
  caller_done = refl;
  called_done = refl;
  caller_took = refl;
  called_took = refl;
  caller_counts = refl;
  called_counts = refl;
  caller_stage = refl;
  called_stage = refl;
  caller_link = refl;
  called_link = refl;
}

-- the roles are exchanged: the called end sends the file
pub exchanges_the_roles : IsASession (taker no_exception) sender
    (record { opened = true; sent = 4; taken = 5 }) (record { opened = true; sent = 5; taken = 4 })
exchanges_the_roles = record {
  caller_done = refl;
  called_done = refl;
  caller_took = refl;
  called_took = refl;
  caller_counts = refl;
  called_counts = refl;
  caller_stage = refl;
  called_stage = refl;
  caller_link = refl;
  called_link = refl;
}

pub record IsAFileSent : Type 0 where
  pub caller_lists : (by_themselves sender (taker no_exception)).caller_end.state.keeper.machine.lists ≡
      record { passed = []; ahead = []; struck = send ∷ []; failed = [] }
  pub called_keeps : (by_themselves sender (taker no_exception)).called_end.state.keeper.kept ≡
      record { name = y; mode = 420; bytes = [] } ∷ []

pub file_is_sent : IsAFileSent
file_is_sent = record { caller_lists = refl; called_keeps = refl }
