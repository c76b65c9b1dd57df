-- An end but for its spool and the bytes that it has not read yet, and what its calls do: the step of the definitions.
use Rattle.std.specs.Prelude.{◌≡◌, ◌<◌, ◌⊎◌, ℕ, Bool, true, false, List, [], ◌++◌, map, ⊤, Option}
use Rattle.uug_link.specs.Announced.{Announced}
use Rattle.uug_link.specs.Entries.{EntryValue, Held}
use Rattle.uug_link.specs.Follows.{written}
use Rattle.uug_link.specs.State.{State, IsUp}
use Rattle.uug_packet.specs.Packet.{PacketValue}
use Rattle.uug_conversation.specs.declared.awaits.Awaits.TheVariants as awaits
use Rattle.uug_session.specs.declared.end.End.TheVariants as ends
use Rattle.uug_session.specs.declared.stage.Stage.{Stage as CodeStage}
use Rattle.uug_session.specs.declared.stage.Stage.TheVariants.{Hailing, Linked, Ended}
use Rattle.uug_session.specs.EndStep.{Stage, hailing, linked, ended, EndState, Emitted, says_text, sends_packet, EndEffect, Identity, Sending, behind_greeting, begins_session, first_link, how_it_ends, is_up, late, packet_came, sends_up_to, speaks_by, unmoved, measure_of}
use Rattle.uug_session.specs.Greeting.{timed_out}
use Rattle.uug_conversation.specs.Holdings.{Kept, Holdings}
use Rattle.uug_conversation.specs.Jobs.{Lists, at_start, pending}
use Rattle.uug_conversation.specs.Machine.{between}
use Rattle.uug_session.specs.Says.{entry_of_text}
use Rattle.uug_conversation.specs.DialogueState.{DialogueState, end_keeper, unmeasured}
use Rattle.uug_conversation.specs.DialogueValue.{DialogueValue, dialogue_of}

pub record EngineState : Type 0 where
  pub identity : Identity
  -- what the other end shall use
  pub own : Announced
  pub stage : Stage
  pub link : State
  pub dialogue : DialogueValue
  -- what was emitted and not yet cleared
  pub outbox : Held
  -- the number of its conversations, where it keeps one
  pub number : Option ℕ

-- beside a spool with these holdings that has kept these files
abbrev pub end_of : Holdings → List Kept → EngineState → EndState DialogueState
end_of h kept engine =
    record { stage = engine.stage; link = engine.link; keeper = dialogue_of h kept engine.dialogue; number = engine.number }

-- what goes out, as an outbox holds it: a text framed, a packet in its canonical spelling
abbrev pub entry_of : Emitted → EntryValue
entry_of (says_text text) = entry_of_text text
entry_of (sends_packet emission) = written emission

-- how far the code's session has come
abbrev pub stage_of : CodeStage → Stage
stage_of (Hailing greeting) = hailing greeting
stage_of Linked = linked
stage_of (Ended how) = ended how

-- with what the code keeps of the conversation as its keeper's value
abbrev pub bare : EngineState → EndState DialogueValue
bare engine = record { stage = engine.stage; link = engine.link; keeper = engine.dialogue; number = engine.number }

-- The call did what the step says: the end is then as it says, and exactly what it emits stands in order behind what the
-- outbox held. Who the end is stays.
pub record Does {C : Type 0} (e : EndEffect C) (end_after : EndState C) (before after : EngineState) : Type 0 where
  pub end : end_after ≡ e.state
  pub emitted : after.outbox.entries ≡ before.outbox.entries ++ map entry_of e.emitted
  pub identity : after.identity ≡ before.identity
  pub own : after.own ≡ before.own

-- ---- what every end keeps to

abbrev pub IsHailing : Stage → Type 0
IsHailing (hailing greeting) = ⊤
IsHailing _ = ⊥

-- in the greeting the link has not begun; where it is up, the conversation goes on in messages as it says
pub record IsReady (stage : Stage) (id : Identity) (own : Announced) (link : State) (dialogue : DialogueValue) : Type 0 where
  pub first : IsHailing stage → link ≡ first_link id.side own
  pub opened : IsUp link → dialogue.opened ≡ true
  pub measure : IsUp link → dialogue.measure ≡ measure_of link

-- ---- sends

-- what the link and the conversation come to, and what the outbox then has
pub record Spoken : Type 0 where
  pub link : State
  pub talk : DialogueState
  pub entries : List EntryValue

abbrev pub spoken_of : Holdings → List Kept → EngineState → Spoken
spoken_of h kept engine =
    record { link = engine.link; talk = dialogue_of h kept engine.dialogue; entries = engine.outbox.entries }

abbrev pub spoken_with : List EntryValue → Sending DialogueState → Spoken
spoken_with entries x = record { link = x.link; talk = x.keeper; entries = entries ++ map written x.emissions }

-- when at most so many messages were sent
abbrev pub after_sends : ℕ → Holdings → List Kept → EngineState → Spoken
after_sends n h kept engine =
    spoken_with engine.outbox.entries (sends_up_to n (end_keeper engine.identity.side h) engine.link (dialogue_of h kept engine.dialogue))

-- all else stays
pub record StandsStill (before after : EngineState) : Type 0 where
  pub number : after.number ≡ before.number
  pub stage : after.stage ≡ before.stage
  pub identity : after.identity ≡ before.identity
  pub own : after.own ≡ before.own

-- when what there is to say was said, and CLOSE behind it where all is over
abbrev pub after_speaking : Holdings → List Kept → EngineState → Spoken
after_speaking h kept engine = spoken_with engine.outbox.entries
    (speaks_by (is_up engine.link.phase) (end_keeper engine.identity.side h) engine.link (dialogue_of h kept engine.dialogue))

-- ---- a session begins

-- the link has not come up in this session, and these are the jobs
pub record IsUnopened (l : Lists) (dialogue : DialogueValue) : Type 0 where
  pub opened : dialogue.opened ≡ false
  pub machine : dialogue.machine ≡ between l awaits.Order
  pub measure : dialogue.measure ≡ unmeasured
  pub silent : dialogue.outgoing.sayings ≡ []

-- ---- a timeout

abbrev pub stage_late : {C : Type 0} → (number : Option ℕ) → Identity → (has_parted : Bool) → Stage → State → C → EndEffect C
stage_late number id has_parted (hailing greeting) s c = behind_greeting number id (timed_out greeting) s c
stage_late number id has_parted linked s c = late number id has_parted s c
stage_late number id has_parted (ended how) s c = unmoved (record { stage = ended how; link = s; keeper = c; number = number })

-- all else as before
abbrev pub with_stage : Stage → EngineState → EngineState
with_stage stage engine = record engine { stage = stage }

abbrev pub with_outbox : Held → EngineState → EngineState
with_outbox outbox engine = record engine { outbox = outbox }

abbrev pub with_number : Option ℕ → EngineState → EngineState
with_number number engine = record engine { number = number }

-- ---- the line is gone

abbrev pub hung_up : (has_parted : Bool) → Stage → Stage
hung_up has_parted (hailing greeting) = ended ends.HungUp
hung_up has_parted linked = ended (how_it_ends has_parted ends.HungUp)
hung_up has_parted (ended how) = ended how

-- ---- a packet

abbrev pub packet_effect : Holdings → List Kept → (device_failed : Bool) → PacketValue → EngineState → EndEffect DialogueState
packet_effect h kept device_failed p engine =
    packet_came engine.number (end_keeper engine.identity.side h) engine.identity device_failed p engine.link
    (dialogue_of h kept engine.dialogue)

-- the device failed between these counts of faults, of which the greatest stands
abbrev pub HasFailed : (most faults faults_after : ℕ) → Type 0
HasFailed most faults faults_after = (faults < faults_after) ⊎ (faults ≡ most)

-- where a spool's count of faults stands at its greatest
abbrev pub faults_max : ℕ
faults_max = 18446744073709551615

-- How the count of faults went, by whether the device failed: it rises where that did, and only there.
abbrev pub CountsFaults : (most faults faults_after : ℕ) → (device_failed : Bool) → Type 0
CountsFaults most faults faults_after true = HasFailed most faults faults_after
CountsFaults most faults faults_after false = faults_after ≡ faults

-- The packet was taken up as the step says, where the spool's device failed or did not, and the answer says whether its
-- message was taken. Whether the device failed stands in its count of faults.
pub record TakesUp (h : Holdings) (kept kept_after : List Kept) (counts : Bool → Type 0) (p : PacketValue) (before after : EngineState) (took : Bool) : Type 0 where
  pub device_failed : Bool
  pub does : Does (packet_effect h kept device_failed p before) (end_of h kept_after after) before after
  pub answer : took ≡ (packet_effect h kept device_failed p before).took
  pub device : counts device_failed

-- ---- the next session

-- the session is over
abbrev pub IsEnded : Stage → Type 0
IsEnded (ended how) = ⊤
IsEnded _ = ⊥

-- every pending job is to be offered
abbrev pub all_ahead : Lists → Lists
all_ahead l = at_start (pending l) l.struck l.failed

-- The end that is so called, announces this, and keeps this number or none has begun a session, with these jobs: nothing is
-- left of an earlier session, and what it says first stands behind these entries of its outbox.
pub record BeginsSession (id : Identity) (announces : Announced) (number : Option ℕ) (l : Lists) (entries : List EntryValue) (after : EngineState) : Type 0 where
  pub end : bare after ≡ (begins_session id announces number after.dialogue).state
  pub emitted : after.outbox.entries ≡ entries ++ map entry_of (begins_session id announces number after.dialogue).emitted
  pub identity : after.identity ≡ id
  pub own : after.own ≡ announces
  pub unopened : IsUnopened l after.dialogue
