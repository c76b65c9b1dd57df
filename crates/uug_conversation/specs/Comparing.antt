-- What it means that an end tells digests, and compares those that it is told (this project's profile).
use Rattle.std.specs.Prelude.{◌≡◌, List, [], ◌∷◌, All, Option, Some, None}
use Rattle.uug_talk.specs.Digests.{digest_of}
use Rattle.uug_talk.specs.declared.file_digest.FileDigest.{FileDigest}
use Rattle.uug_conversation.specs.declared.awaits.Awaits.{Awaits}
use Rattle.uug_conversation.specs.declared.awaits.Awaits.TheVariants as awaits
use Rattle.uug_conversation.specs.Holdings.{Holdings, Kept}
use Rattle.uug_conversation.specs.Told.{told_of, told_with}
use Rattle.uug_conversation.specs.Turns.{Said, the_order, the_answer, the_consent, the_giving, the_file, the_refusal}

-- what was told of the file that is awaited
abbrev pub told_awaited : Awaits → Option FileDigest
told_awaited (awaits.SentFile source target mode told limit) = told
told_awaited (awaits.AskedFile mode told limit) = told
told_awaited _ = None

-- each of these files is the one that was told of
abbrev pub AllFit : FileDigest → List Kept → Type 0
AllFit told files = All (λ (file : Kept). told ≡ digest_of file.bytes) files

-- what is told with a command is told of the file that these holdings give to it, and what is told with RY of the file behind it
abbrev pub TellsTruly : Holdings → List Said → Type 0
TellsTruly h [] = Unit {0}
TellsTruly h (the_order order told ∷ more) = (told ≡ told_with h order) × TellsTruly h more
TellsTruly h (the_answer answer ∷ more) = TellsTruly h more
TellsTruly h (the_consent position ∷ more) = TellsTruly h more
TellsTruly h (the_giving mode told ∷ the_file bytes ∷ more) =
    (told ≡ told_of h.digests (Some (record { mode = mode; bytes = bytes }))) × TellsTruly h more
TellsTruly h (the_giving mode told ∷ more) = ⊥
TellsTruly h (the_file bytes ∷ more) = TellsTruly h more
TellsTruly h (the_refusal letter ∷ more) = TellsTruly h more
