-- Two ends that hear each other: each sends what it has to say, in order, and takes what the other has sent, in order.
-- Nothing is said of when it does (this project's profile).
use Rattle.std.specs.Prelude.{◌≡◌, ℕ, ◌≤◌, List, [], ◌∷◌, ◌++◌, length, take, drop}
use Rattle.uug_link.specs.TwoLinks.{IsFrontOf}
use Rattle.uug_conversation.specs.DialogueState.{is_empty}
use Rattle.uug_conversation.specs.Holdings.{Kept}
use Rattle.uug_conversation.specs.Machine.{State, Reply, reply_to}
use Rattle.uug_conversation.specs.Party.{Party}
use Rattle.uug_conversation.specs.Runs.{Progress, opened, progress_at, IsAt}
use Rattle.uug_conversation.specs.Turns.{other, all_messages}
use Rattle.uug_conversation.specs.declared.side.Side.{Side}
use Rattle.uug_conversation.specs.declared.side.Side.TheVariants.{Caller, Called}
use Rattle.uug_conversation.specs.View.{conversation_view, own_messages, others_messages, floor, party}

-- one end: its machine and what it has kept, its messages that wait to be sent, those that were sent, and those of the
-- other end that it has taken
pub record Talker : Type 0 where
  pub state : State
  pub kept : List Kept
  pub waiting : List (List ℕ)
  pub sent : List (List ℕ)
  pub taken : List (List ℕ)

abbrev pub progress_of : Talker → Progress
progress_of t = record { state = t.state; said = t.sent ++ t.waiting; kept = t.kept }

pub record Two : Type 0 where
  pub caller_end : Talker
  pub called_end : Talker

abbrev pub talker : Side → Two → Talker
talker Caller two = two.caller_end
talker Called two = two.called_end

abbrev pub with_talker : Side → Talker → Two → Two
with_talker Caller t two = record { caller_end = t; called_end = two.called_end }
with_talker Called t two = record { caller_end = two.caller_end; called_end = t }

-- when the link has come up
abbrev pub first_talker : Side → Party → Talker
first_talker me p = record {
  state = (opened me p).state;
  kept = (opened me p).kept;
  waiting = (opened me p).said;
  sent = [];
  taken = [];
}

abbrev pub first_two : (a b : Party) → Two
first_two a b = record { caller_end = first_talker Caller a; called_end = first_talker Called b }

-- an end sends the first message that waits, or takes a message
pub data Act : Type 0 where
  sends : Act
  takes : (message : List ℕ) → Act

-- there is a message that waits; what was taken, with this message, is a front of what the other end has sent
abbrev pub Permits : Act → (own others : Talker) → Type 0
Permits sends own others = (message : List ℕ) × (more : List (List ℕ)) × (own.waiting ≡ message ∷ more)
Permits (takes message) own others = IsFrontOf (own.taken ++ message ∷ []) others.sent

abbrev pub reply_taken : Party → Talker → (message : List ℕ) → Reply → Talker
reply_taken p t message reply = record {
  state = reply.state;
  kept = t.kept ++ reply.keeps;
  waiting = t.waiting ++ all_messages p.measure reply.says;
  sent = t.sent;
  taken = t.taken ++ message ∷ [];
}

abbrev pub after_act : Act → Party → Talker → Talker
after_act sends p t = record {
  state = t.state;
  kept = t.kept;
  waiting = drop 1 t.waiting;
  sent = t.sent ++ take 1 t.waiting;
  taken = t.taken;
}
after_act (takes message) p t = reply_taken p t message (reply_to p.holdings (is_empty t.waiting) t.state message)

-- what two ends may come to
pub data Reached (a b : Party) : Two → Type 0 where
  at_first : Reached a b (first_two a b)
  after : (two : Two) (me : Side) (act : Act) → Reached a b two → Permits act (talker me two) (talker (other me) two) →
      Reached a b (with_talker me (after_act act (party me a b) (talker me two)) two)

-- the end is described by two numbers: how many messages it has sent, and how many it has taken
pub record IsTold (me : Side) (a b : Party) (own others : Talker) : Type 0 where
  -- what it has taken and sent are the first messages of the conversation, and what waits is what it may yet say
  pub taken_first : own.taken ≡ take (length own.taken) (others_messages (conversation_view me a b))
  pub sent_first : own.sent ≡ take (length own.sent) (own_messages (conversation_view me a b))
  pub waiting_next : own.waiting ≡ drop (length own.sent)
      (take (floor (length own.taken) (conversation_view me a b)) (own_messages (conversation_view me a b)))
  -- it has taken no more than was sent, and sent no more than it may
  pub taken_of_sent : length own.taken ≤ length others.sent
  pub sent_to_floor : length own.sent ≤ floor (length own.taken) (conversation_view me a b)
  -- its machine is that after those taken, so it stands where the conversation says
  pub machine : progress_of own ≡ progress_at me a b (length own.taken)
  pub stands : IsAt me a b (length own.taken) (progress_of own)
