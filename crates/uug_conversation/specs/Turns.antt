-- The turns of a conversation (Taylor UUCP manual, "UUCP Protocol").
use Rattle.std.specs.Prelude.{ℕ, List, [], ◌∷◌, ◌++◌, Option}
use Rattle.uug_talk.specs.declared.file_digest.FileDigest.{FileDigest}
use Rattle.uug_conversation.specs.declared.side.Side.{Side}
use Rattle.uug_conversation.specs.declared.side.Side.TheVariants.{Caller, Called}
use Rattle.uug_talk.specs.declared.answer.Answer.{Answer}
use Rattle.uug_talk.specs.declared.order.Order.{Order}
use Rattle.uug_talk.specs.Answer.{answer_text}
use Rattle.uug_talk.specs.Chunks.{Measure, command_messages, file_messages}
use Rattle.uug_talk.specs.Lenient.{refusal_text}
use Rattle.uug_conversation.specs.Holdings.{Kept}
use Rattle.uug_conversation.specs.Jobs.{Move}
use Rattle.uug_conversation.specs.Told.{giving_said, order_said}
use Rattle.uug_talk.specs.Positions.{consent_text}

-- the other end of a session
abbrev pub other : Side → Side
other Caller = Called
other Called = Caller

-- what is said in one turn: a command, with what is told of its file; an answer; SY, with the position from which on the file is to
-- be sent; RY, with the file's mode and what is told of the file; a file, or the rest of one; a refusal of a command that can't be read, in its letter
pub data Said : Type 0 where
  the_order : Order → (told : Option FileDigest) → Said
  the_answer : Answer → Said
  the_consent : (position : ℕ) → Said
  the_giving : (mode : ℕ) → (told : Option FileDigest) → Said
  the_file : (bytes : List ℕ) → Said
  the_refusal : (letter : ℕ) → Said

-- the messages in which it goes out, cut so
abbrev pub said_messages : Measure → Said → List (List ℕ)
said_messages measure (the_order order told) = command_messages measure (order_said order told)
said_messages measure (the_answer answer) = command_messages measure (answer_text answer)
said_messages measure (the_consent position) = command_messages measure (consent_text position)
said_messages measure (the_giving mode told) = command_messages measure (giving_said mode told)
said_messages measure (the_file bytes) = file_messages measure.size bytes
said_messages measure (the_refusal letter) = command_messages measure (refusal_text letter)

-- the messages of several turns of one end
abbrev pub all_messages : Measure → List Said → List (List ℕ)
all_messages measure [] = []
all_messages measure (said ∷ more) = said_messages measure said ++ all_messages measure more

-- who says what, and what the hearer does when it has taken the last message of it: what becomes of its jobs, and
-- what it keeps
pub record Turn : Type 0 where
  pub speaker : Side
  pub said : Said
  pub moves : List Move
  pub keeps : List Kept

-- the hearer does nothing but speak next
abbrev pub plain : Side → Said → Turn
plain speaker said = record { speaker = speaker; said = said; moves = []; keeps = [] }

-- the hearer's jobs move
abbrev pub moving : Side → Said → List Move → Turn
moving speaker said moves = record { speaker = speaker; said = said; moves = moves; keeps = [] }
