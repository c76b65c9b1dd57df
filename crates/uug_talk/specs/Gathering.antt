-- What messages say together (Taylor UUCP manual, "UUCP 'g' Protocol" and "UUCP Protocol").
use Rattle.std.specs.Prelude.{◌≡◌, ◌≢◌, ◌==◌, ℕ, ◌+◌, ◌≤◌, Bool, true, false, List, [], ◌∷◌, ◌++◌, length}
use Rattle.std.specs.List.{list_any, concat, before_first}
use Rattle.uug_talk.specs.declared.words.TheConstants.{COMMAND_MAX}

-- a command, or a file of at most so many bytes
pub data Kind : Type 0 where
  OfCommand : Kind
  OfFile : (limit : ℕ) → Kind

-- the text or file so far, and whether it is whole
pub record Gathering : Type 0 where
  pub kind : Kind
  pub bytes : List ℕ
  pub whole : Bool

abbrev pub is_zero : ℕ → Bool
is_zero b = b == 0

abbrev pub is_empty : List ℕ → Bool
is_empty [] = true
is_empty (b ∷ bs) = false

-- what stands before the first zero byte
abbrev pub text_part : List ℕ → List ℕ
text_part message = before_first is_zero message

-- what a message of this kind says, and whether it is the last
abbrev pub part_of : Kind → List ℕ → List ℕ
part_of OfCommand message = text_part message
part_of (OfFile limit) message = message

abbrev pub ends : Kind → List ℕ → Bool
ends OfCommand message = list_any is_zero message
ends (OfFile limit) message = is_empty message

abbrev pub limit_of : Kind → ℕ
limit_of OfCommand = COMMAND_MAX
limit_of (OfFile limit) = limit

-- what the messages say together: a command goes up to the first zero byte of all of them, and is whole
-- with it; a file is all of them, and is whole with an empty one
abbrev pub gathered : Kind → List (List ℕ) → Gathering
gathered OfCommand messages = record { kind = OfCommand; bytes = text_part (concat messages); whole = list_any is_zero (concat messages) }
gathered (OfFile limit) messages = record { kind = OfFile limit; bytes = concat messages; whole = list_any is_empty messages }

-- the same behind what is held already
abbrev pub behind : (front : List ℕ) → Gathering → Gathering
behind front g = record { kind = g.kind; bytes = front ++ g.bytes; whole = g.whole }

-- with one message more
abbrev pub with_message : Gathering → List ℕ → Gathering
with_message g message = record { kind = g.kind; bytes = g.bytes ++ part_of g.kind message; whole = ends g.kind message }

-- The messages are whole exactly with the last one, hold this text or file then, and no message would
-- pass its length.
pub record GathersBack (kind : Kind) (messages : List (List ℕ)) (held : List ℕ) : Type 0 where
  pub whole : gathered kind messages ≡ record { kind = kind; bytes = held; whole = true }
  pub not_before : (front rest : List (List ℕ)) → messages ≡ front ++ rest → rest ≢ [] → (gathered kind front).whole ≡ false
  pub within : (front rest : List (List ℕ)) (message : List ℕ) → messages ≡ front ++ message ∷ rest
      → length (gathered kind front).bytes + length (part_of kind message) ≤ length held
