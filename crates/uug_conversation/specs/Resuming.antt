-- From which byte on a file is sent (this project's profile).
use Rattle.std.specs.Prelude.{◌≡◌, ℕ, nat_le, Bool, true, false, ◌&&◌, List, [], ◌∷◌, ◌++◌, length, drop, Option, Some, None}
use Rattle.uug_talk.specs.Positions.{position_told}
use Rattle.uug_talk.specs.declared.file_digest.FileDigest.{FileDigest}
use Rattle.uug_conversation.specs.Holdings.{File, Holdings}
use Rattle.uug_conversation.specs.Partials.{held_among}
use Rattle.uug_conversation.specs.Told.{heard, told_of}

-- ---- the giver

-- an end that tells no digests reads past what stands behind SY
abbrev pub position_heard : (digests : Bool) → (text : List ℕ) → ℕ
position_heard true text = position_told text
position_heard false text = 0

abbrev pub rest_where : (within : Bool) → (position : ℕ) → File → Option File
rest_where true position file = Some (record { mode = file.mode; bytes = drop position file.bytes })
rest_where false position file = None

-- a file from there on; beyond its end there is none
abbrev pub rest_from : (position : ℕ) → Option File → Option File
rest_from position None = None
rest_from position (Some file) = rest_where (nat_le position (length file.bytes)) position file

-- ---- the taker

abbrev pub front_where : (within : Bool) → (bytes : List ℕ) → List ℕ
front_where within [] = []
front_where true (b ∷ bytes) = b ∷ bytes
front_where false (b ∷ bytes) = []

-- what it holds of the file of this name of which this was told: no more bytes than were told, and of no file that is too large; where
-- nothing was told, none
abbrev pub front_of : Holdings → (source : List ℕ) → (told : Option FileDigest) → List ℕ
front_of h source None = []
front_of h source (Some told) =
    front_where (nat_le (length (held_among h.partials source told)) told.size && nat_le told.size h.limit) (held_among h.partials source told)

-- ---- both

-- what a taker holds of a file of a giver that tells digests or not
abbrev pub front_held : (taker : Holdings) → (digests : Bool) → (source : List ℕ) → Option File → List ℕ
front_held taker digests source found = front_of taker source (heard taker.digests (told_of digests found))

abbrev pub IsFront : (front whole : List ℕ) → Type 0
IsFront front whole = (rest : List ℕ) × (whole ≡ front ++ rest)
