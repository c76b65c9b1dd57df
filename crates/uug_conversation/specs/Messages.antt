-- The messages of a conversation (Taylor UUCP manual, "UUCP 'g' Protocol").
use Rattle.std.specs.Prelude.{ℕ, List, [], ◌∷◌}
use Rattle.uug_talk.specs.Chunks.{Measure}
use Rattle.uug_conversation.specs.Conversation.{conversation}
use Rattle.uug_conversation.specs.Holdings.{Kept}
use Rattle.uug_conversation.specs.Jobs.{Move}
use Rattle.uug_conversation.specs.Party.{Party}
use Rattle.uug_conversation.specs.Turns.{Turn, said_messages}
use Rattle.uug_conversation.specs.declared.side.Side.{Side}
use Rattle.uug_conversation.specs.declared.side.Side.TheVariants.{Caller, Called}

-- one message, and what its hearer does when it has taken it
pub record Message : Type 0 where
  pub speaker : Side
  pub bytes : List ℕ
  pub moves : List Move
  pub keeps : List Kept

-- a turn's messages, in front of those that come then; its hearer acts at the last of them
abbrev pub turn_messages : Turn → List (List ℕ) → (rest : List Message) → List Message
turn_messages t [] rest = rest
turn_messages t (bytes ∷ []) rest =
    record { speaker = t.speaker; bytes = bytes; moves = t.moves; keeps = t.keeps } ∷ rest
turn_messages t (bytes ∷ next ∷ more) rest =
    record { speaker = t.speaker; bytes = bytes; moves = []; keeps = [] } ∷ turn_messages t (next ∷ more) rest

-- the messages of these turns, where each side cuts what it says in its own way
abbrev pub messages : (Side → Measure) → List Turn → List Message
messages measures [] = []
messages measures (t ∷ ts) = turn_messages t (said_messages (measures t.speaker) t.said) (messages measures ts)

-- the caller's and the called end's
abbrev pub measures : (a b : Party) → Side → Measure
measures a b Caller = a.measure
measures a b Called = b.measure

abbrev pub conversation_messages : (a b : Party) → List Message
conversation_messages a b = messages (measures a b) (conversation a b)
