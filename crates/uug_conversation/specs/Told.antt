-- What an end tells of a file, and what it makes of what it is told of one (this project's profile).
use Rattle.std.specs.Prelude.{ℕ, nat_lt, Bool, true, false, ◌==◌, ◌&&◌, List, Option, Some, None, if◌then◌else◌}
use Rattle.std.specs.Str.{bytes_eq}
use Rattle.uug_talk.specs.Digests.{digest_of, give_telling_text, order_telling_text}
use Rattle.uug_talk.specs.declared.file_digest.FileDigest.{FileDigest}
use Rattle.uug_talk.specs.Answer.{answer_text}
use Rattle.uug_talk.specs.Order.{order_text}
use Rattle.uug_talk.specs.declared.answer.Answer.TheVariants.{GiveYes}
use Rattle.uug_talk.specs.declared.order.Order.{Order}
use Rattle.uug_talk.specs.declared.order.Order.TheVariants.{Send}
use Rattle.uug_conversation.specs.Choice.{fetched_by}
use Rattle.uug_conversation.specs.Holdings.{File, Holdings, to_give}
use Rattle.uug_conversation.specs.declared.verdict.Verdict.{Verdict}
use Rattle.uug_conversation.specs.declared.verdict.Verdict.TheVariants.{Yes, Never, Later}

-- ---- what is told

-- the digest of a file, where there is one and digests are told
abbrev pub told_of : (digests : Bool) → Option File → Option FileDigest
told_of true (Some file) = Some (digest_of file.bytes)
told_of _ _ = None

-- what an end with these holdings tells with a command: of the file that it sends
abbrev pub told_with : Holdings → Order → Option FileDigest
told_with h (Send source target user temp mode) = told_of h.digests (to_give h (fetched_by source temp))
told_with h _ = None

-- the text of a command, and of the answer RY, that tells this of its file
abbrev pub order_said : Order → (told : Option FileDigest) → List ℕ
order_said order None = order_text order
order_said order (Some told) = order_telling_text order told

abbrev pub giving_said : (mode : ℕ) → (told : Option FileDigest) → List ℕ
giving_said mode None = answer_text (GiveYes mode)
giving_said mode (Some told) = give_telling_text mode told

-- ---- what is heard

-- an end that compares no digests hears none
abbrev pub heard : (digests : Bool) → Option FileDigest → Option FileDigest
heard true told = told
heard false told = None

abbrev pub is_same : FileDigest → FileDigest → Bool
is_same a b = (a.size == b.size) && bytes_eq a.hash b.hash

-- whether a file of these bytes is the one that was told of; where nothing was told, any is
abbrev pub fits : Option FileDigest → (bytes : List ℕ) → Bool
fits None bytes = true
fits (Some told) bytes = is_same told (digest_of bytes)

-- whether a file is kept that has come whole: not now where it isn't the one that was told of, and never where it can't be put in
-- its place
abbrev pub outcome : (fits immovable : Bool) → Verdict
outcome false immovable = Later
outcome true true = Never
outcome true false = Yes

-- whether the file that was told of has more bytes than any that is taken
abbrev pub is_too_large : (limit : ℕ) → Option FileDigest → Bool
is_too_large limit None = false
is_too_large limit (Some told) = nat_lt limit told.size

-- what is said to its command: it is refused, where it would be taken, before it comes
abbrev pub unless_too_large : (too_large : Bool) → Verdict → Verdict
unless_too_large too_large Yes = if too_large then Never else Yes
unless_too_large too_large Never = Never
unless_too_large too_large Later = Later
