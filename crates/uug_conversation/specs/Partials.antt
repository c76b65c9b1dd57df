-- Defines the files that were cut off and that an end holds, of each name and digest one; an end that doesn't resume has
-- none (this project's profile).
use Rattle.std.specs.Prelude.{ℕ, Bool, ◌&&◌, List, [], ◌∷◌, ◌++◌, filter, not, Option, Some, None, if◌then◌else◌}
use Rattle.std.specs.Str.{bytes_eq}
use Rattle.uug_talk.specs.declared.file_digest.FileDigest.{FileDigest}
use Rattle.uug_conversation.specs.Holdings.{Holdings}
use Rattle.uug_conversation.specs.Partial.{Key, Partial}
use Rattle.uug_conversation.specs.Told.{is_same}

abbrev pub is_key : Key → Key → Bool
is_key a b = bytes_eq a.source b.source && is_same a.told b.told

-- ---- in a session

abbrev pub bytes_under : Key → List Partial → List ℕ
bytes_under key [] = []
bytes_under key (p ∷ ps) = if is_key p.key key then p.bytes else bytes_under key ps

abbrev pub held_among : Option (List Partial) → (source : List ℕ) → FileDigest → List ℕ
held_among None source told = []
held_among (Some ps) source told = bytes_under (record { source = source; told = told }) ps

-- ---- from session to session

abbrev pub without : Key → List Partial → List Partial
without key ps = filter (λ (p : Partial). not (is_key p.key key)) ps

-- in the place of what was held under its key
abbrev pub put : Partial → List Partial → List Partial
put p ps = without p.key ps ++ p ∷ []

abbrev pub put_left : Option Partial → List Partial → List Partial
put_left None ps = ps
put_left (Some p) ps = put p ps

-- behind a session that has left this
abbrev pub partials_then : Option (List Partial) → (left : Option Partial) → Option (List Partial)
partials_then None left = None
partials_then (Some ps) left = Some (put_left left ps)

-- nothing of any file
abbrev pub none_of : Option (List Partial) → Option (List Partial)
none_of None = None
none_of (Some ps) = Some []

-- what it gives and accepts in a session to which an end brings this
abbrev pub holding : Option (List Partial) → Holdings → Holdings
holding partials h = record h { partials = partials }
