-- How a node greets, by all bytes that came to it since its session began. Taylor UUCP manual, "UUCP Protocol".
use Rattle.std.specs.Prelude.{◌≡◌, ◌≢◌, ℕ, Bool, List, [], ◌++◌, map, Option}
use Rattle.uug_link.specs.Announced.{Announced}
use Rattle.uug_link.specs.Entries.{EntryValue}
use Rattle.uug_session.specs.declared.end.End.{End}
use Rattle.uug_session.specs.declared.greeting.Greeting.{Greeting}
use Rattle.uug_session.specs.Arriving.{Buffered, all_taken, takes_piece}
use Rattle.uug_session.specs.EndStep.{hailing, ended, Emitted, EndEffect, Identity, begins_link, first_link, greeted_so, says_text}
use Rattle.uug_session.specs.Engine.{BeginsSession, HasFailed, entry_of}
use Rattle.uug_session.specs.Finding.{finding, finds_nothing}
use Rattle.uug_conversation.specs.Holdings.{Kept, Holdings}
use Rattle.uug_conversation.specs.Jobs.{Lists}
use Rattle.uug_session.specs.Node.{NodeState, held_bytes}
use Rattle.uug_session.specs.NodeArriving.{NodeEnd, TakesAll, hearer_of, node_taker}
use Rattle.uug_session.specs.Says.{entry_of_text}
use Rattle.uug_session.specs.Sessions.{HoldsNothing}
use Rattle.uug_conversation.specs.DialogueState.{DialogueState, unopened}
use Rattle.uug_session.specs.WholeGreeting.{GreetingRun}

-- what a node is beside its spool when its session has come to this, and only this was emitted
abbrev pub come_to : EndEffect DialogueState → (failures : List Bool) → NodeEnd
come_to effect failures = record { state = effect.state; emitted = effect.emitted; failures = failures }

abbrev pub holding_nothing : NodeEnd → Buffered NodeEnd
holding_nothing x = record { held = []; end = x }

-- when its greeting was this run: it has said these texts, and where they led to the link, the caller has begun it
abbrev pub greeted_by : Identity → Announced → GreetingRun → DialogueState → EndEffect DialogueState
greeted_by id own run talk = greeted_so run.number id run.greeted (map says_text run.says) (first_link id.side own) talk

-- the link's begin alone, at an end that keeps this number or none
abbrev pub at_link : Identity → Announced → (number : Option ℕ) → DialogueState → EndEffect DialogueState
at_link id own number talk = begins_link number id.side (first_link id.side own) talk []

-- a node whose link has begun so, and that has emitted nothing since
abbrev pub on_link : Identity → Announced → (number : Option ℕ) → DialogueState → (failures : List Bool) → NodeEnd
on_link id own number talk failures = record { state = (at_link id own number talk).state; emitted = []; failures = failures }

-- ---- a node to which bytes came

-- A node that kept this number or none has begun a session, and then these bytes have come to it, in whatever pieces, and all
-- that is found in them was taken up. What it emits in the session stands behind these entries of its outbox.
pub record HasHeard (h : Holdings) (id : Identity) (own : Announced) (number : Option ℕ) (entries : List EntryValue) (came : List ℕ) (now : NodeState) : Type 0 where
  pub lists : Lists
  pub kept : List Kept
  pub kept_now : List Kept
  -- the greatest count of the spool's faults, and those before and after
  pub most : ℕ
  pub faults : ℕ
  pub faults_now : ℕ
  pub start : NodeState
  pub begins : BeginsSession id own number lists entries start.engine
  pub held : HoldsNothing start
  pub takes : TakesAll h kept kept_now (HasFailed most faults faults_now) came start now

-- what it keeps of the conversation until its link is up
abbrev pub talk_at_first : {h : Holdings} {id : Identity} {own : Announced} {number : Option ℕ} {entries : List EntryValue} {came : List ℕ} {now : NodeState} → HasHeard h id own number entries came now → DialogueState
talk_at_first m = unopened m.lists m.kept

-- It greets still. It has said these texts, keeps this number or none, its link has not begun, and it holds what waits of
-- these bytes.
pub record GreetsStill (id : Identity) (own : Announced) (entries : List EntryValue) (texts : List (List ℕ)) (number : Option ℕ) (g : Greeting) (behind : List ℕ) (now : NodeState) : Type 0 where
  pub stage : now.engine.stage ≡ hailing g
  pub keeps : now.engine.number ≡ number
  pub says : now.engine.outbox.entries ≡ entries ++ map entry_of_text texts
  pub link : now.engine.link ≡ first_link id.side own
  pub waits : finding (hailing g) behind ≡ finds_nothing (held_bytes now)

-- Its greeting has ended the session. It has said these texts, and nothing else, and keeps this number or none.
pub record HasEnded (entries : List EntryValue) (texts : List (List ℕ)) (number : Option ℕ) (how : End) (now : NodeState) : Type 0 where
  pub stage : now.engine.stage ≡ ended how
  pub keeps : now.engine.number ≡ number
  pub says : now.engine.outbox.entries ≡ entries ++ map entry_of_text texts

-- Its greeting has led to the link and left it this number or none, which it keeps. Behind these texts stands what the link's
-- begin has emitted, and then what these bytes, and no others, led to on the link.
pub record HasBegunLink {h : Holdings} {id : Identity} {own : Announced} {first : Option ℕ} {entries : List EntryValue} {came : List ℕ} {now : NodeState} (m : HasHeard h id own first entries came now) (texts : List (List ℕ)) (number : Option ℕ) (behind : List ℕ) : Type 0 where
  pub stage : (g : Greeting) → now.engine.stage ≢ hailing g
  pub keeps : now.engine.number ≡ number
  pub later : List Emitted
  pub says : now.engine.outbox.entries ≡ entries ++ map entry_of_text texts
      ++ map entry_of (at_link id own number (talk_at_first m)).emitted ++ map entry_of later
  pub takes : takes_piece (node_taker h id) behind (holding_nothing (on_link id own number (talk_at_first m) m.takes.course.failures))
      ≡ all_taken (hearer_of h m.kept_now later [] now)
