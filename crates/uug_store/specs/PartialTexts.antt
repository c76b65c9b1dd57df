-- The text in which an end holds a partial file: a line that names the file, and after it the bytes that arrived (this
-- project's profile).
use Rattle.std.specs.Prelude.{ℕ, ◌+◌, List, ◌∷◌, ◌++◌, drop, take, Option, Some, None}
use Rattle.std.specs.List.{position}
use Rattle.uug_conversation.specs.Partial.{Partial}
use Rattle.uug_talk.specs.Named.{named_text, read_named}
use Rattle.uug_talk.specs.declared.named_digest.NamedDigest.{NamedDigest}
use Rattle.uug_talk.specs.Lines.{is_line_feed}

abbrev pub partial_text : Partial → List ℕ
partial_text p = named_text (record { name = p.key.source; told = p.key.told }) ++ 10 ∷ p.bytes

abbrev pub partial_named : Option NamedDigest → (bytes : List ℕ) → Option Partial
partial_named None bytes = None
partial_named (Some n) bytes = Some (record { key = record { source = n.name; told = n.told }; bytes = bytes })

abbrev pub partial_split : (feed : Option ℕ) → (text : List ℕ) → Option Partial
partial_split None text = None
partial_split (Some at) text = partial_named (read_named (take at text)) (drop (at + 1) text)

abbrev pub partial_in : (text : List ℕ) → Option Partial
partial_in text = partial_split (position is_line_feed text) text
