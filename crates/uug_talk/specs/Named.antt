-- The name of a file, and behind it what is told of the file, as one line (this project's profile).
use Rattle.std.specs.Prelude.{ℕ, List, [], ◌∷◌, Option, Some, None}
use Rattle.uug_talk.specs.Digests.{digest_in, digest_words}
use Rattle.uug_talk.specs.declared.file_digest.FileDigest.{FileDigest}
use Rattle.uug_talk.specs.declared.named_digest.NamedDigest.{NamedDigest}
use Rattle.uug_talk.specs.Name.{name_of}
use Rattle.uug_talk.specs.Words.{joined, words}

abbrev pub named_text : NamedDigest → List ℕ
named_text n = joined (n.name ∷ digest_words n.told)

abbrev pub both_named : Option (List ℕ) → Option FileDigest → Option NamedDigest
both_named (Some name) (Some told) = Some (record { name = name; told = told })
both_named _ _ = None

abbrev pub named_by_words : List (List ℕ) → Option NamedDigest
named_by_words [] = None
named_by_words (name ∷ more) = both_named (name_of name) (digest_in more)

abbrev pub read_named : (line : List ℕ) → Option NamedDigest
read_named line = named_by_words (words line)
