-- The name of the caller, as a called end hears it (this project's profile).
use Rattle.std.specs.Prelude.{ℕ, List, Option, Some, None, codes, if◌then◌else◌}
use Rattle.uug_session.specs.Greeting.{begins_with, name_in_caller_text}
use Rattle.uug_talk.specs.Name.{name_of}
use Rattle.uug_talk.specs.Texts.{Heard, Passing, Open, Whole, hear}

-- the name of the caller in a text, as a session reads it, if it is a valid name
abbrev pub caller_in : List ℕ → Option (List ℕ)
caller_in text = if begins_with text (codes "S") then name_of (name_in_caller_text text) else None

-- the name of the caller in the first text that arrived, once the text is complete
abbrev pub caller_heard : Heard → Option (List ℕ)
caller_heard Passing = None
caller_heard (Open text) = None
caller_heard (Whole text) = caller_in text

abbrev pub heard_by : Option (ℕ × Heard) → Heard
heard_by None = Passing
heard_by (Some found) = found.1

-- what is heard once these bytes have arrived too; a text that is too long counts as none
abbrev pub heard_then : Heard → (piece : List ℕ) → Heard
heard_then heard piece = heard_by (hear heard piece)
