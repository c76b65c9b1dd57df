-- What one end keeps of its conversation: the one-sided machine, what it has still to say, and what its spool kept (this
-- project's profile). What waits when a message fitted no turn is never sent: the end has ended then.
use Rattle.std.specs.Prelude.{ℕ, Bool, true, false, ◌&&◌, nat_le, List, [], ◌∷◌, ◌++◌, length, Option, Some, None}
use Rattle.uug_talk.specs.Chunks.{Measure}
use Rattle.uug_talk.specs.Gathering.{Gathering, limit_of}
use Rattle.uug_conversation.specs.declared.awaits.Awaits.{Awaits}
use Rattle.uug_conversation.specs.declared.awaits.Awaits.TheVariants as awaits
use Rattle.uug_conversation.specs.declared.verdict.Verdict.{Verdict}
use Rattle.uug_conversation.specs.declared.verdict.Verdict.TheVariants.{Yes}
use Rattle.uug_conversation.specs.Holdings.{Kept, Holdings}
use Rattle.uug_conversation.specs.Jobs.{Lists}
use Rattle.uug_conversation.specs.Keeper.{Keeper}
use Rattle.uug_conversation.specs.Machine.{State, Reply, between, gathered_with, reply_to, opening}
use Rattle.uug_conversation.specs.Reactions.{FileAwaited, awaited_verdict, file_awaited}
use Rattle.uug_conversation.specs.Runs.{is_over, is_bad}
use Rattle.uug_conversation.specs.Turns.{all_messages}
use Rattle.uug_conversation.specs.declared.side.Side.{Side}

pub record DialogueState : Type 0 where
  -- the link has come up in this session
  pub opened : Bool
  pub machine : State
  -- how it cuts its messages, once the link is up
  pub measure : Measure
  -- the messages that it has to say and that were not sent, in order
  pub waiting : List (List ℕ)
  -- all that the spool has kept
  pub kept : List Kept

-- before the link is up it is not known how messages are cut
abbrev pub unmeasured : Measure
unmeasured = record { size = 0; short = false }

-- before the link is up nothing is done
abbrev pub unopened : Lists → List Kept → DialogueState
unopened l kept = record { opened = false; machine = between l awaits.Order; measure = unmeasured; waiting = []; kept = kept }

abbrev pub replied : Measure → (waiting : List (List ℕ)) → (kept : List Kept) → Reply → DialogueState
replied measure waiting kept reply = record {
  opened = true;
  machine = reply.state;
  measure = measure;
  waiting = waiting ++ all_messages measure reply.says;
  kept = kept ++ reply.keeps;
}

abbrev pub first_of : List (List ℕ) → Option (List ℕ)
first_of [] = None
first_of (message ∷ messages) = Some message

abbrev pub behind_first : List (List ℕ) → List (List ℕ)
behind_first [] = []
behind_first (message ∷ messages) = messages

abbrev pub is_empty : List (List ℕ) → Bool
is_empty [] = true
is_empty (message ∷ messages) = false

-- HY was taken, or it was said and nothing waits any more
abbrev pub has_parted_by : Awaits → (none_waits : Bool) → Bool
has_parted_by awaits.NothingMore none_waits = true
has_parted_by awaits.LastHangUp none_waits = none_waits
has_parted_by _ none_waits = false

abbrev pub is_yes : Verdict → Bool
is_yes Yes = true
is_yes _ = false

-- the awaited file is whole with this message, within its limit, the one that was told of, and can be put in its place
abbrev pub is_kept_now : Holdings → Gathering → Option FileAwaited → Bool
is_kept_now h g None = false
is_kept_now h g (Some file) =
    (g.whole && nat_le (length g.bytes) (limit_of g.kind)) && is_yes (awaited_verdict h file g.bytes)

abbrev pub asks_spool : Holdings → State → (message : List ℕ) → Bool
asks_spool h s message = is_kept_now h (gathered_with s message) (file_awaited h s.awaits s.lists.ahead)

-- the link has come up, with messages cut so
abbrev pub opened_with : Side → Holdings → Measure → DialogueState → DialogueState
opened_with side h measure talk = replied measure [] talk.kept (opening side h talk.machine.lists)

-- a message of the other end is taken
abbrev pub taking : Holdings → (message : List ℕ) → DialogueState → DialogueState
taking h message talk =
    replied talk.measure talk.waiting talk.kept (reply_to h (is_empty talk.waiting) talk.machine message)

-- the first message that waits is sent
abbrev pub with_first_sent : DialogueState → DialogueState
with_first_sent talk = record talk { waiting = behind_first talk.waiting }

-- all is said and nothing more is to come
abbrev pub is_through : DialogueState → Bool
is_through talk = is_over talk.machine.awaits && is_empty talk.waiting

abbrev pub state_has_parted : DialogueState → Bool
state_has_parted talk = has_parted_by talk.machine.awaits (is_empty talk.waiting)

-- the keeper of an end on this side with these holdings
abbrev pub end_keeper : Side → Holdings → Keeper DialogueState
end_keeper side h = record {
  opened = opened_with side h;
  taking = taking h;
  asks_spool = λ message talk. asks_spool h talk.machine message;
  next = λ talk. first_of talk.waiting;
  sent = with_first_sent;
  is_bad = λ talk. is_bad talk.machine.awaits;
  is_over = is_through;
  has_parted = state_has_parted;
}
