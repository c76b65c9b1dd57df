-- The notice of a job that has failed: the reason, as far as its end knows, and the job's line (this project's
-- profile).
use Rattle.std.specs.Prelude.{◌≡◌, ℕ, List, [], ◌∷◌, ◌++◌, codes, Option, Some, None}
use Rattle.uug_conversation.specs.Choice.{fetched_by}
use Rattle.uug_conversation.specs.Holdings.{File, Holdings, to_give}
use Rattle.uug_conversation.specs.declared.job.Job.{Job}
use Rattle.uug_conversation.specs.declared.job.Job.TheVariants.{Send, Request}
use Rattle.uug_conversation.specs.declared.verdict.Verdict.{Verdict}
use Rattle.uug_conversation.specs.declared.verdict.Verdict.TheVariants.{Yes, Never, Later}
use Rattle.uug_talk.specs.Lines.{ended}
use Rattle.uug_store.specs.JobsText.{job_line}
use Rattle.uug_store.specs.declared.notices.WhyFailed.{WhyFailed}
use Rattle.uug_store.specs.declared.notices.WhyFailed.TheVariants.{NoFile, Refused, NotTaken, NotGiven}

-- ---- the reason

abbrev pub why_not_sent : Option File → WhyFailed
why_not_sent None = NoFile
why_not_sent (Some file) = Refused

abbrev pub why_not_got : Verdict → WhyFailed
why_not_got Never = NotTaken
why_not_got Yes = NotGiven
why_not_got Later = NotGiven

-- by what the end's own spool gives and takes
abbrev pub why_failed : Holdings → Job → WhyFailed
why_failed own (Send source target user temp) = why_not_sent (to_give own (fetched_by source temp))
why_failed own (Request source target user) = why_not_got (own.verdict (own.landing source target))

-- ---- the notice

abbrev pub why_words : WhyFailed → List ℕ
why_words NoFile = codes "no such file to send, or it is too large"
why_words Refused = codes "refused by the other end"
why_words NotTaken = codes "this end takes no file of this name"
why_words NotGiven = codes "not given by the other end, or can't be put in its place here"

-- the reason as a comment, and the job's line, so that the notice can be appended to a text of jobs
abbrev pub notice : Holdings → Job → List ℕ
notice own job = ended (codes "# " ++ why_words (why_failed own job)) ++ job_line job

abbrev pub notices : Holdings → List Job → List ℕ
notices own [] = []
notices own (job ∷ more) = notice own job ++ notices own more

-- ---- the file of notices

-- the notices with these appended, if the file exposes its text
abbrev pub also_told : List ℕ → Option (List ℕ) → Option (List ℕ)
also_told more None = None
also_told more (Some text) = Some (text ++ more)

-- the first bytes of these notices were appended, which may be none or all
pub record TellsSome (more : List ℕ) (told told_after : Option (List ℕ)) : Type 0 where
  pub front : List ℕ
  pub rest : List ℕ
  pub begins : more ≡ front ++ rest
  pub is : told_after ≡ also_told front told
