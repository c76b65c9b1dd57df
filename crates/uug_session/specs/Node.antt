-- One whole end, as what its parts are: all but its spool.
use Rattle.std.specs.Prelude.{◌≡◌, ◌<◌, ℕ, ◌-◌, min, Bool, List, [], ◌++◌, length, drop}
use Rattle.uug_packet.specs.Packet.{PacketValue, shown}
use Rattle.uug_reader.specs.Cut.{found, bad}
use Rattle.uug_reader.specs.Reading.{Reading, Shows}
use Rattle.uug_reader.specs.Search.{after_search}
use Rattle.uug_reader.specs.declared.reader.TheConstants.{READER_SIZE}
use Rattle.uug_session.specs.declared.item.Item.{Item}
use Rattle.uug_conversation.specs.declared.job.Job.{Job}
use Rattle.uug_session.specs.declared.item.Item.TheVariants as items
use Rattle.uug_session.specs.declared.node.Node.{Node}
use Rattle.uug_session.specs.declared.end.End.TheVariants as ends
use Rattle.uug_session.specs.EndStep.{Stage, hailing, linked, ended, EndEffect, EndEvent, text_found, packet_found_whole, broken_found, end_step, unmoved}
use Rattle.uug_session.specs.Engine.{EngineState, Does, end_of, with_stage}
use Rattle.uug_conversation.specs.Holdings.{Kept, Holdings}
use Rattle.uug_conversation.specs.DialogueState.{DialogueState, end_keeper}
use Rattle.uug_session.specs.TextsHeld.{TextsHeld, TextSearch, ShowsText, text_too_long, text_waits, text_stands, after_text_search, search_text}

pub record NodeState : Type 0 where
  pub engine : EngineState
  -- the bytes that are not read yet: those of the greeting, and those of the link
  pub texts : TextsHeld
  pub packets : Reading

abbrev pub node_of : {S A : Type 0} → Node S A → NodeState
node_of n = record { engine = n.engine; texts = n.texts; packets = n.packets }

-- its files
abbrev pub spool_of : {S A : Type 0} → Node S A → S
spool_of n = n.spool

-- the jobs that are done
abbrev pub struck_jobs : NodeState → List Job
struck_jobs n = n.engine.dialogue.machine.lists.struck

-- ---- items

-- what was found: a text of the greeting, a packet, or a broken one
pub data ItemValue : Type 0 where
  text_item : (text : List ℕ) → ItemValue
  packet_item : PacketValue → ItemValue
  bad_item : ItemValue

abbrev pub shown_item : Item → ItemValue
shown_item (items.Text text) = text_item text.now
shown_item (items.Packet packet) = packet_item (shown packet)
shown_item items.Bad = bad_item

-- the item stands first among the bytes held, and is shown: a text in the greeting, a packet or a broken one on the link
abbrev pub ShowsItem : Stage → TextsHeld → Reading → ItemValue → Type 0
ShowsItem (hailing greeting) texts packets (text_item text) = ShowsText text texts
ShowsItem linked texts packets (packet_item p) = Shows (found p) packets
ShowsItem linked texts packets bad_item = Shows bad packets
ShowsItem _ texts packets _ = ⊥

-- ---- the bytes held

abbrev pub bytes_at : Stage → NodeState → List ℕ
bytes_at (hailing greeting) n = n.texts.bytes
bytes_at linked n = n.packets.bytes
bytes_at (ended how) n = []

abbrev pub shown_size_at : Stage → NodeState → ℕ
shown_size_at (hailing greeting) n = n.texts.shown_size
shown_size_at linked n = n.packets.shown_size
shown_size_at (ended how) n = 0

abbrev pub held_bytes : NodeState → List ℕ
held_bytes n = bytes_at n.engine.stage n

abbrev pub item_size : NodeState → ℕ
item_size n = shown_size_at n.engine.stage n

-- of a piece so many bytes are taken: those that fit, and all where the session is over
abbrev pub accepted_at : Stage → NodeState → (piece : List ℕ) → ℕ
accepted_at (ended how) n piece = length piece
accepted_at (hailing greeting) n piece = min (READER_SIZE - length n.texts.bytes) (length piece)
accepted_at linked n piece = min (READER_SIZE - length n.packets.bytes) (length piece)

abbrev pub accepted : NodeState → (piece : List ℕ) → ℕ
accepted n piece = accepted_at n.engine.stage n piece

-- at least a byte of each piece is taken that has one
abbrev pub HasRoom : NodeState → Type 0
HasRoom n = (piece : List ℕ) → 0 < length piece → 0 < accepted n piece

-- so it is where no item is shown
abbrev pub LeavesRoom : NodeState → Type 0
LeavesRoom n = item_size n ≡ 0 → HasRoom n

-- they stand behind those held; an end whose session is over forgets them
abbrev pub offered_at : Stage → (bytes : List ℕ) → NodeState → NodeState
offered_at (hailing greeting) bytes n =
    record n { texts = record { bytes = n.texts.bytes ++ bytes; shown_size = n.texts.shown_size } }
offered_at linked bytes n =
    record n { packets = record { bytes = n.packets.bytes ++ bytes; shown_size = n.packets.shown_size } }
offered_at (ended how) bytes n = n

abbrev pub offered : (bytes : List ℕ) → NodeState → NodeState
offered bytes n = offered_at n.engine.stage bytes n

-- ---- the search for the first item

abbrev pub texts_searched : TextSearch → NodeState → NodeState
texts_searched text_too_long n =
    record n { engine = with_stage (ended ends.BadTalk) n.engine; texts = after_text_search text_too_long }
texts_searched (text_waits rest) n = record n { texts = after_text_search (text_waits rest) }
texts_searched (text_stands text others) n = record n { texts = after_text_search (text_stands text others) }

abbrev pub searched_at : Stage → NodeState → NodeState
searched_at (hailing greeting) n = texts_searched (search_text n.texts.bytes) n
searched_at linked n = record n { packets = after_search n.packets.bytes }
searched_at (ended how) n = n

-- what is skipped in front of the first item is taken away, and the item is shown; at a text that is too long the
-- session is over
abbrev pub searched : NodeState → NodeState
searched n = searched_at n.engine.stage n

-- ---- an item is taken up

abbrev pub event_of : (device_failed : Bool) → ItemValue → EndEvent
event_of device_failed (text_item text) = text_found text
event_of device_failed (packet_item p) = packet_found_whole device_failed p
event_of device_failed bad_item = broken_found

abbrev pub effect_of : Holdings → List Kept → EndEvent → EngineState → EndEffect DialogueState
effect_of h kept event e = end_step (end_keeper e.identity.side h) e.identity event (end_of h kept e)

-- Just the item's bytes are taken away. What is left behind a text is what the link begins with, too.
abbrev pub IsLeft : ItemValue → (before after : NodeState) → Type 0
IsLeft (text_item text) before after =
    (after.texts ≡ record { bytes = drop before.texts.shown_size before.texts.bytes; shown_size = 0 })
    × (after.packets ≡ record { bytes = drop before.texts.shown_size before.texts.bytes; shown_size = 0 })
IsLeft (packet_item p) before after =
    after.packets ≡ record { bytes = drop before.packets.shown_size before.packets.bytes; shown_size = 0 }
IsLeft bad_item before after =
    after.packets ≡ record { bytes = drop before.packets.shown_size before.packets.bytes; shown_size = 0 }

-- The item was taken up as the step of its event says, where the spool's device failed or did not, and the answer says
-- whether a message was taken. Whether the device failed stands in its count of faults.
pub record TakesItem (h : Holdings) (kept kept_after : List Kept) (counts : Bool → Type 0) (item : ItemValue) (before after : NodeState) (took : Bool) : Type 0 where
  pub device_failed : Bool
  pub does : Does (effect_of h kept (event_of device_failed item) before.engine) (end_of h kept_after after.engine) before.engine after.engine
  pub answer : took ≡ (effect_of h kept (event_of device_failed item) before.engine).took
  pub device : counts device_failed
  pub left : IsLeft item before after

-- the item that is shown was taken up so
abbrev pub TakesShown : (h : Holdings) (kept kept_after : List Kept) (counts : Bool → Type 0) (before after : NodeState) (took : Bool) → Type 0
TakesShown h kept kept_after counts before after took = (item : ItemValue)
    × ShowsItem before.engine.stage before.texts before.packets item
    × TakesItem h kept kept_after counts item before after took

-- when out of memory nothing has changed, and the item is still there
pub record IsAsBefore (h : Holdings) (kept kept_after : List Kept) (before after : NodeState) : Type 0 where
  pub does : Does (unmoved (end_of h kept before.engine)) (end_of h kept_after after.engine) before.engine after.engine
  pub texts : after.texts ≡ before.texts
  pub packets : after.packets ≡ before.packets
