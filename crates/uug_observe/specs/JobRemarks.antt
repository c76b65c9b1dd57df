-- Spells the remarks on the jobs that an end has given up, and on those that its session put off (this project's
-- profile).
use Rattle.std.specs.Fmt.{decimal}
use Rattle.std.specs.Prelude.{ℕ, ◌==◌, Bool, true, false, List, [], ◌∷◌, ◌++◌, Option, Some, None, codes, length, if◌then◌else◌}
use Rattle.uug_conversation.specs.Choice.{fetched_by}
use Rattle.uug_conversation.specs.Holdings.{File, Holdings}
use Rattle.uug_conversation.specs.MemoryHoldings.{has_name}
use Rattle.uug_conversation.specs.declared.job.Job.{Job}
use Rattle.uug_conversation.specs.declared.job.Job.TheVariants.{Send, Request}
use Rattle.uug_store.specs.JobsText.{job_words}
use Rattle.uug_store.specs.LocalNames.{local_source}
use Rattle.uug_store.specs.Notices.{why_failed}
use Rattle.uug_store.specs.declared.notices.WhyFailed.{WhyFailed}
use Rattle.uug_store.specs.declared.notices.WhyFailed.TheVariants.{NoFile, Refused, NotTaken, NotGiven}
use Rattle.uug_session.specs.declared.end.End.TheVariants.{Done}
use Rattle.uug_session.specs.declared.phase.Phase.{Phase}
use Rattle.uug_session.specs.declared.phase.Phase.TheVariants.{Ended}
use Rattle.uug_talk.specs.Lines.{ended}
use Rattle.uug_talk.specs.Words.{joined}

-- the job, and why it is not done, as a line
abbrev pub job_line : Job → (why : List ℕ) → List ℕ
job_line job why = codes "uucpair: " ++ (joined (job_words job) ++ (codes ": " ++ ended why))

-- ---- a job that was given up

abbrev pub source_of : Job → List ℕ
source_of (Send source target user temp) = source
source_of (Request source target user) = source

abbrev pub target_of : Job → List ℕ
target_of (Send source target user temp) = target
target_of (Request source target user) = target

-- for the file of this name in `send` of this folder, which is too large or missing
abbrev pub path_lack : (dir name : List ℕ) → (is_large : Bool) → List ℕ
path_lack dir name true = dir ++ (codes "/send/" ++ (name ++ codes " is larger than --file-limit"))
path_lack dir name false = codes "no file " ++ (dir ++ (codes "/send/" ++ name))

abbrev pub local_lack : (dir : List ℕ) → (large : List (List ℕ)) → Option (List ℕ) → List ℕ
local_lack dir large None = codes "a source is a name: NAME or ~/NAME, without a leading dot"
local_lack dir large (Some name) = path_lack dir name (has_name large name)

-- the size of the file that a job sends, in bytes
abbrev pub size_of : Option File → ℕ
size_of None = 0
size_of (Some file) = length file.bytes

abbrev pub size_sent : Holdings → Job → ℕ
size_sent own (Send source target user temp) = size_of (own.file (fetched_by source temp))
size_sent own (Request source target user) = 0

-- for a file of this size whose target, a name in a folder, the other end refuses
abbrev pub sized_words : (size : ℕ) → List ℕ
sized_words size =
    if size == 0 then codes "refused by the other end: maybe a folder has that name there" else
    codes "refused by the other end: maybe " ++ (decimal size ++ codes " bytes are over its --file-limit, or a folder has that name there")

abbrev pub refused_words : Option (List ℕ) → (size : ℕ) → List ℕ
refused_words (Some name) size = sized_words size
refused_words None size = codes "refused by the other end: in a folder a target is a name, NAME or ~/NAME, without a leading dot"

abbrev pub not_taken_words : Option (List ℕ) → List ℕ
not_taken_words (Some name) = codes "this end takes no file of this name"
not_taken_words None = codes "a target is a name: NAME or ~/NAME, without a leading dot"

-- why a job was given up; `large` are the names of files that are too large
abbrev pub failed_words : (dir : List ℕ) → (large : List (List ℕ)) → Job → WhyFailed → (size : ℕ) → List ℕ
failed_words dir large job NoFile size = local_lack dir large (local_source (source_of job))
failed_words dir large job Refused size = refused_words (local_source (target_of job)) size
failed_words dir large job NotTaken size = not_taken_words (local_source (target_of job))
failed_words dir large job NotGiven size = codes "not given by the other end: no such file in its send, or barred there; or it can't be put in its place here"

-- a line for each job, by what the end's own files give and take
abbrev pub failed_remark : (dir : List ℕ) → (large : List (List ℕ)) → Holdings → List Job → List ℕ
failed_remark dir large own [] = []
failed_remark dir large own (job ∷ more) =
    job_line job (failed_words dir large job (why_failed own job) (size_sent own job)) ++ failed_remark dir large own more

-- whether a session in which these jobs were given up counts as one that is not done
abbrev pub has_failed : (is_fail_status : Bool) → (failed : List Job) → Bool
has_failed true [] = false
has_failed true (job ∷ more) = true
has_failed false failed = false

-- ---- a job that was put off, by whether its end announces digests

abbrev pub put_off_words : (digests : Bool) → Job → List ℕ
put_off_words false (Send source target user temp) = codes "put off: the other end will take it later"
put_off_words true (Send source target user temp) = codes "put off: the other end will take it later, or the digest was wrong there"
put_off_words false (Request source target user) = codes "put off: the other end will give it later"
put_off_words true (Request source target user) = codes "put off: the other end will give it later, or the digest was wrong"

abbrev pub put_off_lines : (digests : Bool) → List Job → List ℕ
put_off_lines digests [] = []
put_off_lines digests (job ∷ more) = job_line job (put_off_words digests job) ++ put_off_lines digests more

-- If a session ended as done, its pending jobs are reported as put off, also those that were not offered because the
-- other end hung up.
abbrev pub put_off_remark : Phase → (digests : Bool) → (pending : List Job) → List ℕ
put_off_remark (Ended Done) digests pending = put_off_lines digests pending
put_off_remark _ digests pending = []
