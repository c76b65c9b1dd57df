-- One end of a conversation once its link is up, as a node keeps it: it sends and takes, in any order that a link allows
-- (this project's profile).
use Rattle.std.specs.Prelude.{◌≡◌, ◌≢◌, ◌↔◌, ℕ, ◌≤◌, true, false, List, [], ◌∷◌, ◌++◌, length, take}
use Rattle.uug_conversation.specs.declared.job.Job.{Job}
use Rattle.uug_conversation.specs.DialogueState.{DialogueState, unopened, opened_with, taking, with_first_sent}
use Rattle.uug_conversation.specs.EarlierJobs.{behind}
use Rattle.uug_conversation.specs.Holdings.{Kept, Holdings}
use Rattle.uug_conversation.specs.Jobs.{at_start}
use Rattle.uug_conversation.specs.Party.{Party}
use Rattle.uug_conversation.specs.Runs.{has_said_all, is_bad, is_over}
use Rattle.uug_conversation.specs.Turns.{other}
use Rattle.uug_conversation.specs.View.{conversation_view, own_messages, others_messages, floor, kept_after, lists_after, party}
use Rattle.uug_conversation.specs.declared.side.Side.{Side}

-- its conversation, the messages that it has sent, and those of the other end that it has taken
pub record LinkedEnd : Type 0 where
  pub talk : DialogueState
  pub sent : List (List ℕ)
  pub taken : List (List ℕ)

-- when the link has come up; these jobs were struck and failed before, and these files kept
abbrev pub link_up : Side → Party → (struck failed : List Job) → List Kept → LinkedEnd
link_up me p struck failed kept = record {
  talk = opened_with me p.holdings p.measure (unopened (at_start p.jobs struck failed) kept);
  sent = [];
  taken = [];
}

-- it sends the first message that waits, or takes one of the other end
pub data Act : Type 0 where
  sends : Act
  takes : (message : List ℕ) → Act

abbrev pub after_act : Holdings → LinkedEnd → Act → LinkedEnd
after_act h s sends =
    record { talk = with_first_sent s.talk; sent = s.sent ++ take 1 s.talk.waiting; taken = s.taken }
after_act h s (takes message) =
    record { talk = taking h message s.talk; sent = s.sent; taken = s.taken ++ message ∷ [] }

abbrev pub after_acts : Holdings → LinkedEnd → List Act → LinkedEnd
after_acts h s [] = s
after_acts h s (act ∷ acts) = after_acts h (after_act h s act) acts

-- ---- what a link allows

-- what an end may have said in the conversation when it has taken the first k of the other's messages
abbrev pub may_be_said : Side → (a b : Party) → ℕ → List (List ℕ)
may_be_said me a b k = take (floor k (conversation_view me a b)) (own_messages (conversation_view me a b))

-- A message waits to be sent; what was taken, with this message, are first messages of those that the other end may have said
-- when it has taken all that was sent to it.
abbrev pub Allows : Side → (a b : Party) → LinkedEnd → Act → Type 0
Allows me a b s sends = s.talk.waiting ≢ []
Allows me a b s (takes message) =
    (more : List (List ℕ)) × (s.taken ++ message ∷ more ≡ may_be_said (other me) a b (length s.sent))

abbrev pub AllAllowed : Side → (a b : Party) → LinkedEnd → List Act → Type 0
AllAllowed me a b s [] = Unit {0}
AllAllowed me a b s (act ∷ acts) =
    Allows me a b s act × AllAllowed me a b (after_act (party me a b).holdings s act) acts

-- ---- where the conversation has it

-- What it has sent and what waits are just its first messages, up to the floor; its lists and what it has kept are those of the
-- conversation, behind what it has brought; and what it has taken fitted its turn. It awaits nothing more exactly where all was
-- taken, and has parted exactly where it has said all.
pub record FollowsConversation (me : Side) (a b : Party) (struck failed : List Job) (kept : List Kept) (s : LinkedEnd) : Type 0 where
  pub taken : s.taken ≡ take (length s.taken) (others_messages (conversation_view me a b))
  pub given : s.sent ++ s.talk.waiting ≡ may_be_said me a b (length s.taken)
  pub lists : s.talk.machine.lists ≡ behind struck failed (lists_after me a b (length s.taken))
  pub stored : s.talk.kept ≡ kept ++ kept_after (length s.taken) (conversation_view me a b)
  pub not_bad : is_bad s.talk.machine.awaits ≡ false
  pub over : (is_over s.talk.machine.awaits ≡ true) ↔ (length (others_messages (conversation_view me a b)) ≤ length s.taken)
  pub parted : (has_said_all s.talk.machine.awaits ≡ true)
      ↔ (floor (length s.taken) (conversation_view me a b) ≡ length (own_messages (conversation_view me a b)))
