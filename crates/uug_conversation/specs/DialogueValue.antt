-- What the code of one end keeps of its conversation, as what it keeps of it in the definitions. What the spool kept, and
-- the files that are being sent, are the spool's.
use Rattle.std.specs.Prelude.{◌≡◌, ◌≤◌, Bool, false, ◌&&◌, List, [], length, Option, Some, None}
use Rattle.uug_talk.specs.Chunks.{Measure}
use Rattle.uug_talk.specs.Gathering.{Gathering, limit_of}
use Rattle.uug_conversation.specs.declared.awaits.Awaits.{Awaits}
use Rattle.uug_conversation.specs.declared.reaction.Reaction.{Reaction}
use Rattle.uug_conversation.specs.Holdings.{Kept, Holdings}
use Rattle.uug_conversation.specs.Jobs.{Lists}
use Rattle.uug_conversation.specs.Machine.{State, Reply, kind_awaited}
use Rattle.uug_conversation.specs.Outgoing.{Outgoing, is_silent, outgoing_messages}
use Rattle.uug_conversation.specs.Reactions.{reply_of}
use Rattle.uug_conversation.specs.Runs.{is_over}
use Rattle.uug_conversation.specs.DialogueState.{DialogueState, has_parted_by}

pub record DialogueValue : Type 0 where
  -- the link has come up in this session
  pub opened : Bool
  pub machine : State
  -- how it cuts its messages, once the link is up
  pub measure : Measure
  pub outgoing : Outgoing

-- beside a spool with these holdings that has kept these files
abbrev pub dialogue_of : Holdings → List Kept → DialogueValue → DialogueState
dialogue_of h kept t = record {
  opened = t.opened;
  machine = t.machine;
  measure = t.measure;
  waiting = outgoing_messages h t.measure t.outgoing;
  kept = kept;
}

-- all is said and nothing more is to come
abbrev pub dialogue_is_through : DialogueValue → Bool
dialogue_is_through t = is_over t.machine.awaits && is_silent t.outgoing.sayings

-- HY was said or taken
abbrev pub dialogue_has_parted : DialogueValue → Bool
dialogue_has_parted t = has_parted_by t.machine.awaits (is_silent t.outgoing.sayings)

-- what has come of what is awaited: it is not whole, and within its limit
pub record IsPart (awaited : Awaits) (g : Gathering) : Type 0 where
  pub kind : g.kind ≡ kind_awaited awaited
  pub not_whole : g.whole ≡ false
  pub within : length g.bytes ≤ limit_of g.kind

-- these jobs, what is awaited, and what has come of it
abbrev pub state_of : Lists → Awaits → Gathering → State
state_of l awaited g = record { lists = l; awaits = awaited; gathered = g.bytes }

-- what the code answers to a message, as the machine's reply: nothing is done where more is to come
abbrev pub told_as : Holdings → State → Option Reaction → (keeps : List Kept) → Reply
told_as h s None keeps = record { state = s; says = []; keeps = keeps }
told_as h s (Some reaction) keeps = reply_of h s.lists reaction keeps
