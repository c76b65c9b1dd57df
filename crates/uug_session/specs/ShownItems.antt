-- What a node shows as its next item, beside what is found next in the bytes that it holds (this project's profile).
use Rattle.std.specs.Prelude.{◌≡◌, ◌↔◌, List, ℕ, ◌++◌, drop, ⊤}
use Rattle.uug_reader.specs.Cut.{found, bad}
use Rattle.uug_reader.specs.Finding.{FindsFirst, FindsNothing, PassesNoise}
use Rattle.uug_talk.specs.Texts.{IsFirstText}
use Rattle.uug_session.specs.declared.end.End.TheVariants as ends
use Rattle.uug_session.specs.declared.greeting.Greeting.{Greeting}
use Rattle.uug_session.specs.EndStep.{Stage, hailing, linked, ended, broken_found, long_text_found, text_found}
use Rattle.uug_session.specs.Engine.{with_stage}
use Rattle.uug_session.specs.Finding.{Finding, finding, finds, finds_nothing, finds_packet}
use Rattle.uug_session.specs.Node.{ItemValue, NodeState, ShowsItem, bad_item, held_bytes, item_size, packet_item, text_item}

abbrev pub IsShown : ItemValue → NodeState → Type 0
IsShown item n = ShowsItem n.engine.stage n.texts n.packets item

-- what is found, where it is this item, with these bytes from its first one on and these behind it
abbrev pub finding_of : ItemValue → (from behind : List ℕ) → Finding
finding_of (text_item text) from behind = finds (text_found text) behind
finding_of (packet_item p) from behind = finds_packet p from behind
finding_of bad_item from behind = finds broken_found behind

-- the item is what is found next in the bytes that were held before a search, and what is held after it begins with it
pub record ItemFound (item : ItemValue) (before after : NodeState) : Type 0 where
  pub engine : after.engine ≡ before.engine
  pub finding : finding before.engine.stage (held_bytes before)
      ≡ finding_of item (held_bytes after) (drop (item_size after) (held_bytes after))

-- nothing was whole in the bytes that were held, or the first text was too long, with which the session is over
pub data NothingFound (before after : NodeState) : Type 0 where
  waits : after.engine ≡ before.engine → finding before.engine.stage (held_bytes before) ≡ finds_nothing (held_bytes after)
      → NothingFound before after
  is_too_long : (g : Greeting) (behind : List ℕ) → before.engine.stage ≡ hailing g
      → finding before.engine.stage (held_bytes before) ≡ finds long_text_found behind
      → after.engine ≡ with_stage (ended ends.BadTalk) before.engine → NothingFound before after

-- ---- what stands first in the bytes held

-- the first text of the greeting, or behind noise the first item of the link
abbrev pub StandsNext : Stage → ItemValue → (bytes : List ℕ) → Type 0
StandsNext (hailing g) (text_item text) bytes =
    (front : List ℕ) × (behind : List ℕ) × (bytes ≡ front ++ behind) × IsFirstText front text
StandsNext linked (packet_item p) bytes = FindsFirst bytes (found p)
StandsNext linked bad_item bytes = FindsFirst bytes bad
StandsNext _ _ bytes = ⊥

-- no text is whole in front of the place at which one is too long, or all is noise and a rest that waits
abbrev pub NothingStands : Stage → (bytes : List ℕ) → Type 0
NothingStands (hailing g) bytes =
    (front behind text : List ℕ) → bytes ≡ front ++ behind → ¬ IsFirstText front text
NothingStands linked bytes = FindsNothing bytes
NothingStands (ended how) bytes = ⊤

abbrev pub IsFirstItem : ItemValue → NodeState → Type 0
IsFirstItem item n = StandsNext n.engine.stage item (held_bytes n)

abbrev pub HoldsNoItem : NodeState → Type 0
HoldsNoItem n = NothingStands n.engine.stage (held_bytes n)

-- Only noise of the link is skipped, and it is all but a rest that waits where no item is shown then.
pub record PassesNoiseAt (before after : NodeState) : Type 0 where
  pub noise : PassesNoise before.packets.bytes after.packets.bytes
  pub none : item_size after ≡ 0 ↔ FindsNothing before.packets.bytes

abbrev pub PassesNoiseOnLink : (before after : NodeState) → Type 0
PassesNoiseOnLink before after = before.engine.stage ≡ linked → PassesNoiseAt before after
