-- A conversation as one end sees it, and what it has brought about at that end (this project's profile).
use Rattle.std.specs.Prelude.{ℕ, zero, suc, List, [], ◌∷◌, ◌++◌}
use Rattle.uug_conversation.specs.Choice.{choice}
use Rattle.uug_conversation.specs.Holdings.{Kept}
use Rattle.uug_conversation.specs.Jobs.{Lists, at_start, Move, moved}
use Rattle.uug_conversation.specs.Messages.{Message, conversation_messages}
use Rattle.uug_conversation.specs.Party.{Party}
use Rattle.uug_conversation.specs.declared.side.Side.{Side}
use Rattle.uug_conversation.specs.declared.side.Side.TheVariants.{Caller, Called}

-- a message that the end says, or one that it hears, and what it does when it has taken it
pub data Seen : Type 0 where
  says : (bytes : List ℕ) → Seen
  hears : (bytes : List ℕ) → List Move → List Kept → Seen

abbrev pub seen : (me speaker : Side) → (bytes : List ℕ) → List Move → List Kept → Seen
seen Caller Caller bytes moves keeps = says bytes
seen Called Called bytes moves keeps = says bytes
seen Caller Called bytes moves keeps = hears bytes moves keeps
seen Called Caller bytes moves keeps = hears bytes moves keeps

abbrev pub view : Side → List Message → List Seen
view me [] = []
view me (m ∷ ms) = seen me m.speaker m.bytes m.moves m.keeps ∷ view me ms

-- the conversation of a caller and a called end, as one of them sees it
abbrev pub conversation_view : Side → (a b : Party) → List Seen
conversation_view me a b = view me (conversation_messages a b)

-- the end's own messages, and those of the other
abbrev pub own_messages : List Seen → List (List ℕ)
own_messages [] = []
own_messages (says bytes ∷ v) = bytes ∷ own_messages v
own_messages (hears bytes moves keeps ∷ v) = own_messages v

abbrev pub others_messages : List Seen → List (List ℕ)
others_messages [] = []
others_messages (says bytes ∷ v) = others_messages v
others_messages (hears bytes moves keeps ∷ v) = bytes ∷ others_messages v

-- how many own messages stand before the other's message number k + 1, or all of them where there is none: so many may
-- be said when k of the other's are taken
abbrev pub floor : ℕ → List Seen → ℕ
floor k [] = 0
floor k (says bytes ∷ v) = suc (floor k v)
floor zero (hears bytes moves keeps ∷ v) = 0
floor (suc k) (hears bytes moves keeps ∷ v) = floor k v

-- what the end has done when the first k of the other's messages are taken: what became of its jobs, and what it kept
abbrev pub moves_after : ℕ → List Seen → List Move
moves_after k [] = []
moves_after k (says bytes ∷ v) = moves_after k v
moves_after zero (hears bytes moves keeps ∷ v) = []
moves_after (suc k) (hears bytes moves keeps ∷ v) = moves ++ moves_after k v

abbrev pub kept_after : ℕ → List Seen → List Kept
kept_after k [] = []
kept_after k (says bytes ∷ v) = kept_after k v
kept_after zero (hears bytes moves keeps ∷ v) = []
kept_after (suc k) (hears bytes moves keeps ∷ v) = keeps ++ kept_after k v

-- the side's party
abbrev pub party : Side → (a b : Party) → Party
party Caller a b = a
party Called a b = b

-- what becomes of an end's jobs when its link comes up: the caller makes its first choice
abbrev pub opening_moves : Side → Party → List Move
opening_moves Caller p = (choice p.holdings p.jobs).failing
opening_moves Called p = []

-- the end's lists when its link has come up and the first k of the other's messages are taken; struck and failed are
-- what this session added
abbrev pub lists_after : Side → (a b : Party) → ℕ → Lists
lists_after me a b k =
    moved (moves_after k (conversation_view me a b))
    (moved (opening_moves me (party me a b)) (at_start (party me a b).jobs [] []))
