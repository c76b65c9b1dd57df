-- Reads the program's value of an end's partial files.
use Rattle.std.specs.Prelude.{ℕ, List, map, Option, Some, None}
use Rattle.uug_talk.specs.declared.file_digest.FileDigest.{FileDigest}
use Rattle.uug_conversation.specs.declared.partial_file.PartialFile.{PartialFile}
use Rattle.uug_conversation.specs.Partial.{Key, Partial}

abbrev pub key_of : (source : List ℕ) → FileDigest → Key
key_of source told = record { source = source; told = told }

abbrev pub partial_of : {A : Type 0} → PartialFile A → Partial
partial_of p = record { key = key_of p.source p.told; bytes = p.bytes.items }

abbrev pub partials_of : {A : Type 0} → List (PartialFile A) → List Partial
partials_of ps = map partial_of ps

abbrev pub shown_partial : {A : Type 0} → Option (PartialFile A) → Option Partial
shown_partial None = None
shown_partial (Some p) = Some (partial_of p)
