-- The jobs of an end, and what becomes of them in a session (this project's profile). A job's place in these lists is
-- all that tells jobs apart.
use Rattle.std.specs.Prelude.{List, [], ◌∷◌, ◌++◌}
use Rattle.uug_conversation.specs.declared.job.Job.{Job}

-- the jobs of an end, each list in the order in which its jobs came to it
pub record Lists : Type 0 where
  -- pending, and not to be offered again in this session
  pub passed : List Job
  -- pending, and not yet offered in this session
  pub ahead : List Job
  -- done
  pub struck : List Job
  -- given up for ever
  pub failed : List Job

-- all pending jobs, in the order in which they were added
abbrev pub pending : Lists → List Job
pending l = l.passed ++ l.ahead

-- at a session's start all pending jobs are to be offered
abbrev pub at_start : (jobs struck failed : List Job) → Lists
at_start jobs struck failed = record { passed = []; ahead = jobs; struck = struck; failed = failed }

-- a job more, behind all that are pending
abbrev pub added : Job → Lists → Lists
added job l = record l { ahead = l.ahead ++ job ∷ [] }

-- what becomes of the first job that is ahead: it stays pending, is struck, or fails
pub data Move : Type 0 where
  pass : Move
  strike : Move
  fail : Move

-- that job goes to the end of the list that the move names; where no job is ahead, nothing is changed
abbrev pub move_first : Move → List Job → Lists → Lists
move_first move [] l = l
move_first pass (job ∷ jobs) l = record l { passed = l.passed ++ job ∷ []; ahead = jobs }
move_first strike (job ∷ jobs) l = record l { struck = l.struck ++ job ∷ []; ahead = jobs }
move_first fail (job ∷ jobs) l = record l { failed = l.failed ++ job ∷ []; ahead = jobs }

abbrev pub moved_once : Move → Lists → Lists
moved_once move l = move_first move l.ahead l

-- one move after another
abbrev pub moved : List Move → Lists → Lists
moved [] l = l
moved (move ∷ moves) l = moved moves (moved_once move l)
