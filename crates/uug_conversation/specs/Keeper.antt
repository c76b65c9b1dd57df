-- What keeps the conversation of one end: how it goes on, and what is asked of it. An end's steps are told once over any
-- such keeper: over the end itself, which doesn't know the other's jobs, and over two numbers, how many messages of the
-- whole conversation were sent and taken (this project's profile).
use Rattle.std.specs.Prelude.{ℕ, Bool, List, Option}
use Rattle.uug_talk.specs.Chunks.{Measure}

pub record Keeper (C : Type 0) : Type 0 where
  -- the link has come up, and messages are cut so
  pub opened : Measure → C → C
  -- the other end's next message is taken
  pub taking : (message : List ℕ) → C → C
  -- a file ends with this message, and the spool is asked to keep it
  pub asks_spool : (message : List ℕ) → C → Bool
  -- the message that is to be said next, if there is one
  pub next : C → Option (List ℕ)
  -- that message is sent
  pub sent : C → C
  -- what was taken fitted no turn
  pub is_bad : C → Bool
  -- all was taken and sent: the link may close
  pub is_over : C → Bool
  -- HY was sent or taken: however the session ends now, it is done
  pub has_parted : C → Bool
