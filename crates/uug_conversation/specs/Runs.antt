-- The machine of one end of a conversation alone, over the messages that it takes: what waits to be sent plays no part in it (this
-- project's profile).
use Rattle.std.specs.Prelude.{◌≡◌, ◌↔◌, ℕ, ◌≤◌, Bool, true, false, List, [], ◌∷◌, ◌++◌, length, take}
use Rattle.uug_talk.specs.Chunks.{Measure}
use Rattle.uug_conversation.specs.declared.awaits.Awaits.{Awaits}
use Rattle.uug_conversation.specs.declared.awaits.Awaits.TheVariants as awaits
use Rattle.uug_conversation.specs.Holdings.{Kept}
use Rattle.uug_conversation.specs.Jobs.{at_start}
use Rattle.uug_conversation.specs.Machine.{State, Reply, step, opening}
use Rattle.uug_conversation.specs.Party.{Party}
use Rattle.uug_conversation.specs.Turns.{all_messages}
use Rattle.uug_conversation.specs.declared.side.Side.{Side}
use Rattle.uug_conversation.specs.View.{conversation_view, own_messages, others_messages, floor, kept_after, lists_after, party}

-- its state, the messages that it has said since the start, and what it has kept since then
pub record Progress : Type 0 where
  pub state : State
  pub said : List (List ℕ)
  pub kept : List Kept

abbrev pub with_reply : Measure → (said : List (List ℕ)) → (kept : List Kept) → Reply → Progress
with_reply measure said kept reply = record {
  state = reply.state;
  said = said ++ all_messages measure reply.says;
  kept = kept ++ reply.keeps;
}

abbrev pub taking : Party → Progress → (message : List ℕ) → Progress
taking p progress message = with_reply p.measure progress.said progress.kept (step p.holdings progress.state message)

abbrev pub taking_all : Party → Progress → (messages : List (List ℕ)) → Progress
taking_all p progress [] = progress
taking_all p progress (message ∷ messages) = taking_all p (taking p progress message) messages

-- when the link has come up
abbrev pub opened : Side → Party → Progress
opened me p = with_reply p.measure [] [] (opening me p.holdings (at_start p.jobs [] []))

-- when these messages of the other end were taken since then
abbrev pub progress_after : Side → Party → (taken : List (List ℕ)) → Progress
progress_after me p taken = taking_all p (opened me p) taken

-- the end has nothing more to say: it has said its HY, or has taken the other's
abbrev pub has_said_all : Awaits → Bool
has_said_all awaits.LastHangUp = true
has_said_all awaits.NothingMore = true
has_said_all _ = false

-- nothing more is to come
abbrev pub is_over : Awaits → Bool
is_over awaits.NothingMore = true
is_over _ = false

-- what came fitted no turn
abbrev pub is_bad : Awaits → Bool
is_bad awaits.Bad = true
is_bad _ = false

-- how an end of a conversation stands when the first k of the other's messages are taken: what it has said since the
-- start are its own first messages up to the floor, its lists and what it has kept are those of the conversation; it
-- awaits nothing more exactly where all was taken, and has parted exactly where it has said all
pub record IsAt (me : Side) (a b : Party) (k : ℕ) (p : Progress) : Type 0 where
  pub said : p.said ≡ take (floor k (conversation_view me a b)) (own_messages (conversation_view me a b))
  pub lists : p.state.lists ≡ lists_after me a b k
  pub kept : p.kept ≡ kept_after k (conversation_view me a b)
  pub not_bad : is_bad p.state.awaits ≡ false
  pub over : (is_over p.state.awaits ≡ true) ↔ (length (others_messages (conversation_view me a b)) ≤ k)
  pub parted : (has_said_all p.state.awaits ≡ true)
      ↔ (floor k (conversation_view me a b) ≡ length (own_messages (conversation_view me a b)))

-- the end when it has taken the first k of the other's messages
abbrev pub progress_at : Side → (a b : Party) → ℕ → Progress
progress_at me a b k = progress_after me (party me a b) (take k (others_messages (conversation_view me a b)))
