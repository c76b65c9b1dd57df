-- The messages of a command and of a file (Taylor UUCP manual, "UUCP 'g' Protocol").
use Rattle.std.specs.Prelude.{◌≡◌, ◌≢◌, ℕ, suc, zero, ◌+◌, ◌-◌, ◌%◌, ◌≤◌, Bool, List, [], ◌∷◌, ◌++◌, length, take, drop, replicate, All, if◌then◌else◌}
use Rattle.uug_talk.specs.declared.words.TheConstants.{COMMAND_MAX}

-- how an end cuts what it says: every size bytes; and whether the last message of a command ends with its zero byte, in
-- place of zeros up to the size (this project's)
pub record Measure : Type 0 where
  pub size : ℕ
  pub short : Bool

-- the first n parts of size bytes each, the last shorter where need be
abbrev pub cut_up_to : ℕ → ℕ → List ℕ → List (List ℕ)
cut_up_to zero size xs = []
cut_up_to (suc n) size [] = []
cut_up_to (suc n) size (x ∷ xs) = take size (x ∷ xs) ∷ cut_up_to n size (drop size (x ∷ xs))

-- the list, cut every size elements: there are no more parts than elements
abbrev pub cut : ℕ → List ℕ → List (List ℕ)
cut size xs = cut_up_to (length xs) size xs

-- how many more make n a multiple of the size
abbrev pub up_to_multiple : ℕ → ℕ → ℕ
up_to_multiple size n = (size - n % size) % size

-- how many zeros fill up a text that has n bytes with its zero byte: up to a multiple of the size, or none
abbrev pub filling : Measure → ℕ → ℕ
filling m n = if m.short then 0 else up_to_multiple m.size n

-- the text, one zero byte, and the zeros that fill it up, cut every size bytes
abbrev pub command_messages : Measure → List ℕ → List (List ℕ)
command_messages m text = cut m.size (text ++ 0 ∷ replicate (filling m (length text + 1)) 0)

-- how many zeros stand behind the last n bytes of a text, which are fewer than the size
abbrev pub last_zeros : Measure → ℕ → ℕ
last_zeros m n = if m.short then 1 else m.size - n

-- the bytes, cut every size bytes, and one empty message
abbrev pub file_messages : ℕ → List ℕ → List (List ℕ)
file_messages size bytes = cut size bytes ++ [] ∷ []

-- The messages of a command where the setting is on, beside those where it is off: all the same, but the last lacks the
-- zeros that fill it up.
pub record AreShortOf (short filled : List (List ℕ)) : Type 0 where
  pub front : List (List ℕ)
  pub last : List ℕ
  pub zeros : ℕ
  pub is_short : short ≡ front ++ last ∷ []
  pub is_filled : filled ≡ front ++ (last ++ replicate zeros 0) ∷ []

-- what may be sent as a command: no zero byte, and not too long
pub record IsCommandText (text : List ℕ) : Type 0 where
  pub short : length text ≤ COMMAND_MAX
  pub no_zero : All (λ b. b ≢ 0) text
