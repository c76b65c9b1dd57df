-- What has become of an end's jobs (this project's profile).
use Rattle.std.specs.Prelude.{◌≡◌, List, [], ◌∷◌, ◌++◌, IsPermutation}
use Rattle.uug_conversation.specs.declared.job.Job.{Job}
use Rattle.uug_conversation.specs.Jobs.{Lists, Move, moved, pending}

-- Each job is in exactly one of the three lists, each as often, and each list has its jobs in the order in which they
-- were given.
pub data AreShared : (jobs pending struck failed : List Job) → Type 0 where
  none : AreShared [] [] [] []
  one_pending : {job : Job} {jobs p s f : List Job} → AreShared jobs p s f → AreShared (job ∷ jobs) (job ∷ p) s f
  one_struck : {job : Job} {jobs p s f : List Job} → AreShared jobs p s f → AreShared (job ∷ jobs) p (job ∷ s) f
  one_failed : {job : Job} {jobs p s f : List Job} → AreShared jobs p s f → AreShared (job ∷ jobs) p s (job ∷ f)

-- ---- in one session and over several

-- Some jobs, one after the other, went from one list to another, and nothing else was done.
pub record OnlyMoves (before after : Lists) : Type 0 where
  pub moves : List Move
  pub are : after ≡ moved moves before

abbrev pub all_jobs : Lists → List Job
all_jobs l = pending l ++ (l.struck ++ l.failed)

-- the three lists have the same jobs together, each as often
abbrev pub HaveSameJobs : (before after : Lists) → Type 0
HaveSameJobs before after = IsPermutation (all_jobs before) (all_jobs after)
