-- What a list of waiting jobs shows.
use Rattle.std.specs.Prelude.{ℕ, List}
use Rattle.uug_conversation.specs.declared.job.Job.{Job}

pub record Waiting : Type 0 where
  -- the jobs, in order
  pub jobs : List Job
  -- how many more find room without memory
  pub room : ℕ
