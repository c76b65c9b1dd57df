-- The messages that an end says are no longer than the size that the other end announced.
use Rattle.std.proofs.Common.{ℕ, ◌≤◌, List, [], ◌∷◌, All, length}
use Rattle.std.proofs.lemmas.List.Elements.{All-nil, All-cons, All-head, All-tail}
use Rattle.uug_talk.specs.Chunks.{Measure}
use Rattle.uug_talk.specs.Answer.{answer_text}
use Rattle.uug_talk.specs.Lenient.{refusal_text}
use Rattle.uug_conversation.specs.Told.{giving_said, order_said}
use Rattle.uug_conversation.specs.Conversation.{conversation}
use Rattle.uug_conversation.specs.Holdings.{Kept}
use Rattle.uug_conversation.specs.Jobs.{Move}
use Rattle.uug_conversation.specs.Messages.{Message, turn_messages, messages, measures}
use Rattle.uug_conversation.specs.Party.{Party}
use Rattle.uug_conversation.specs.Turns.{Said, the_order, the_answer, the_consent, the_giving, the_file, the_refusal, said_messages, Turn}
use Rattle.uug_conversation.specs.declared.side.Side.{Side}
use Rattle.uug_conversation.specs.declared.side.Side.TheVariants.{Caller, Called}
use Rattle.uug_conversation.specs.View.{view, conversation_view, own_messages, party}
use Rattle.uug_talk.proofs.ChunkLemmas.{command_fits, file_fits}
use Rattle.uug_talk.specs.Positions.{consent_text}

abbrev Fits : ℕ → List ℕ → Type 0
Fits size message = length message ≤ size

pub said_fit : (measure : Measure) (said : Said) → All (Fits measure.size) (said_messages measure said)
said_fit measure (the_order order told) = command_fits measure (order_said order told)
said_fit measure (the_answer answer) = command_fits measure (answer_text answer)
said_fit measure (the_consent position) = command_fits measure (consent_text position)
said_fit measure (the_giving mode told) = command_fits measure (giving_said mode told)
said_fit measure (the_file bytes) = file_fits measure.size bytes
said_fit measure (the_refusal letter) = command_fits measure (refusal_text letter)

message_fits : (measures : Side → Measure) (me speaker : Side) (bytes : List ℕ) (moves : List Move) (keeps : List Kept) (ms : List Message) →
    length bytes ≤ (measures speaker).size → All (Fits (measures me).size) (own_messages (view me ms)) →
    All (Fits (measures me).size) (own_messages (view me (record { speaker = speaker; bytes = bytes; moves = moves; keeps = keeps } ∷ ms)))
message_fits measures Caller Caller bytes moves keeps ms fits more =
    All-cons (Fits (measures Caller).size) bytes (own_messages (view Caller ms)) fits more
message_fits measures Called Called bytes moves keeps ms fits more =
    All-cons (Fits (measures Called).size) bytes (own_messages (view Called ms)) fits more
message_fits measures Caller Called bytes moves keeps ms fits more = more
message_fits measures Called Caller bytes moves keeps ms fits more = more

turn_fits : (measures : Side → Measure) (me : Side) (t : Turn) (chunks : List (List ℕ)) (ms : List Message) →
    All (Fits (measures t.speaker).size) chunks → All (Fits (measures me).size) (own_messages (view me ms)) →
    All (Fits (measures me).size) (own_messages (view me (turn_messages t chunks ms)))
turn_fits measures me t [] ms fits more = more
turn_fits measures me t (bytes ∷ []) ms fits more =
    message_fits measures me t.speaker bytes t.moves t.keeps ms (All-head (Fits (measures t.speaker).size) bytes [] fits) more
turn_fits measures me t (bytes ∷ next ∷ chunks) ms fits more =
    message_fits measures me t.speaker bytes [] [] (turn_messages t (next ∷ chunks) ms)
    (All-head (Fits (measures t.speaker).size) bytes (next ∷ chunks) fits)
    (turn_fits measures me t (next ∷ chunks) ms (All-tail (Fits (measures t.speaker).size) bytes (next ∷ chunks) fits) more)

turns_fit : (measures : Side → Measure) (me : Side) (ts : List Turn) →
    All (Fits (measures me).size) (own_messages (view me (messages measures ts)))
turns_fit measures me [] = All-nil (Fits (measures me).size)
turns_fit measures me (t ∷ ts) =
    turn_fits measures me t (said_messages (measures t.speaker) t.said) (messages measures ts)
    (said_fit (measures t.speaker) t.said) (turns_fit measures me ts)

pub own_fit : (me : Side) (a b : Party) →
    All (Fits (party me a b).measure.size) (own_messages (conversation_view me a b))
own_fit Caller a b = turns_fit (measures a b) Caller (conversation a b)
own_fit Called a b = turns_fit (measures a b) Called (conversation a b)
