-- What an end has still to say, as places: turns, and how much of the first one was sent (this project's profile). A file
-- is cut from what the spool lends when a message goes out, so an end holds no copy of it.
use Rattle.std.specs.Prelude.{◌≡◌, ℕ, ◌≤◌, Bool, true, false, List, [], ◌∷◌, ◌++◌, length, drop, map}
use Rattle.uug_talk.specs.Answer.{IsWritten, answer_text}
use Rattle.uug_talk.specs.Chunks.{Measure, command_messages, file_messages}
use Rattle.uug_talk.specs.Lenient.{is_refusable, refusal_text}
use Rattle.uug_talk.specs.Order.{HasMode}
use Rattle.uug_talk.specs.declared.mode.TheConstants.{MODE_MAX}
use Rattle.uug_conversation.specs.declared.reaction.Saying.{Saying}
use Rattle.uug_conversation.specs.declared.reaction.Saying.TheVariants as saying
use Rattle.uug_conversation.specs.declared.reaction.Says.{Says}
use Rattle.uug_conversation.specs.declared.reaction.Says.TheVariants.{Nothing, One, Two}
use Rattle.uug_conversation.specs.Holdings.{Holdings}
use Rattle.uug_conversation.specs.Reactions.{said_by}
use Rattle.uug_conversation.specs.Told.{giving_said, order_said}
use Rattle.uug_conversation.specs.Turns.{Said, the_order, the_answer, the_consent, the_giving, the_file, the_refusal, all_messages}
use Rattle.uug_talk.specs.Positions.{consent_text}

pub record Outgoing : Type 0 where
  -- what is to be said, in order
  pub sayings : List Saying
  -- so many bytes of the first one's text or file were sent
  pub offset : ℕ
  -- so many more find room without memory
  pub room : ℕ

-- the messages of a text or a file from an offset on
abbrev pub messages_from : Measure → (offset : ℕ) → Said → List (List ℕ)
messages_from measure offset (the_order order told) = command_messages measure (drop offset (order_said order told))
messages_from measure offset (the_answer answer) = command_messages measure (drop offset (answer_text answer))
messages_from measure offset (the_consent position) = command_messages measure (drop offset (consent_text position))
messages_from measure offset (the_giving mode told) = command_messages measure (drop offset (giving_said mode told))
messages_from measure offset (the_file bytes) = file_messages measure.size (drop offset bytes)
messages_from measure offset (the_refusal letter) = command_messages measure (drop offset (refusal_text letter))

-- the messages that follow one, by whether it is the last
abbrev pub unless_last : (is_last : Bool) → (behind : List (List ℕ)) → List (List ℕ)
unless_last true behind = []
unless_last false behind = behind

-- the messages of these, and of the first one from an offset on
abbrev pub messages_of : Holdings → Measure → (offset : ℕ) → List Saying → List (List ℕ)
messages_of h measure offset [] = []
messages_of h measure offset (first ∷ more) =
    messages_from measure offset (said_by h first) ++ all_messages measure (map (said_by h) more)

-- the messages that are still to go out
abbrev pub outgoing_messages : Holdings → Measure → Outgoing → List (List ℕ)
outgoing_messages h measure out = messages_of h measure out.offset out.sayings

-- what is said at once
abbrev pub sayings_of : Says → List Saying
sayings_of Nothing = []
sayings_of (One first) = first ∷ []
sayings_of (Two first next) = first ∷ next ∷ []

-- whether nothing is to be said
abbrev pub is_silent : List Saying → Bool
is_silent [] = true
is_silent (first ∷ more) = false

-- a command, an answer or a refusal that can be written
abbrev pub IsSayable : Saying → Type 0
IsSayable (saying.Order order told) = HasMode order
IsSayable (saying.Answer answer) = IsWritten answer
IsSayable (saying.Consent position) = Unit {0}
IsSayable (saying.Giving mode told) = mode ≤ MODE_MAX
IsSayable (saying.File name position) = Unit {0}
IsSayable (saying.Refusal letter) = is_refusable letter ≡ true

-- the offset lies in the first text; where nothing is to be said, nothing of it was sent
abbrev pub IsWithin : List Saying → (offset : ℕ) → Type 0
IsWithin [] offset = offset ≡ 0
IsWithin (saying.Order order told ∷ more) offset = offset ≤ length (order_said order told)
IsWithin (saying.Answer answer ∷ more) offset = offset ≤ length (answer_text answer)
IsWithin (saying.Consent position ∷ more) offset = offset ≤ length (consent_text position)
IsWithin (saying.Giving mode told ∷ more) offset = offset ≤ length (giving_said mode told)
IsWithin (saying.File name position ∷ more) offset = Unit {0}
IsWithin (saying.Refusal letter ∷ more) offset = offset ≤ length (refusal_text letter)
