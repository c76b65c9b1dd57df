-- The lines that `pair`, `call` and `answer` print for an end (this project's profile).
use Rattle.std.specs.Prelude.{ℕ, List, [], ◌∷◌, ◌++◌, length, codes}
use Rattle.std.specs.Fmt.{decimal}
use Rattle.uug_conversation.specs.Jobs.{Lists, pending}
use Rattle.uug_conversation.specs.declared.job.Job.{Job}
use Rattle.uug_session.specs.declared.phase.Phase.{Phase}
use Rattle.uug_conversation.specs.declared.side.Side.{Side}
use Rattle.uug_session.specs.PhaseWords.{side_word, phase_word}
use Rattle.uug_talk.specs.Lines.{ended}
use Rattle.uug_store.specs.JobsText.{job_line}

-- SIDE PHASE pending P struck S failed F
abbrev pub state_line : Side → Phase → Lists → List ℕ
state_line side phase jobs =
    ended (side_word side ++ codes " " ++ phase_word phase ++ codes " pending " ++ decimal (length (pending jobs))
    ++ codes " struck " ++ decimal (length jobs.struck) ++ codes " failed " ++ decimal (length jobs.failed))

-- SIDE failed, and the job's line
abbrev pub failed_line : Side → Job → List ℕ
failed_line side job = side_word side ++ codes " failed " ++ job_line job

-- one line for each of these jobs
abbrev pub failed_lines : Side → List Job → List ℕ
failed_lines side [] = []
failed_lines side (job ∷ more) = failed_line side job ++ failed_lines side more
