-- The line of a script that gives an end a job (this project's profile).
use Rattle.std.specs.Prelude.{ℕ, List, [], ◌∷◌, codes, Option, Some, None}
use Rattle.uug_conversation.specs.declared.job.Job.{Job}
use Rattle.uug_conversation.specs.declared.job.Job.TheVariants.{Send, Request}
use Rattle.uug_conversation.specs.declared.side.Side.{Side}
use Rattle.uug_talk.specs.Words.{joined}
use Rattle.uug_session.specs.PhaseWords.{side_word}

-- the name of the copy that was made of the file, if one was
abbrev pub copy_words : Option (List ℕ) → List (List ℕ)
copy_words None = []
copy_words (Some temp) = temp ∷ []

-- send SIDE SOURCE TARGET USER [TEMP], or request SIDE SOURCE TARGET USER
abbrev pub job_words : Side → Job → List (List ℕ)
job_words side (Send source target user temp) =
    codes "send" ∷ side_word side ∷ source ∷ target ∷ user ∷ copy_words temp
job_words side (Request source target user) = codes "request" ∷ side_word side ∷ source ∷ target ∷ user ∷ []

-- with one space between each two
abbrev pub job_text : Side → Job → List ℕ
job_text side job = joined (job_words side job)
