-- What became of an end's jobs in earlier sessions (this project's profile).
use Rattle.std.specs.Prelude.{List, ◌++◌}
use Rattle.uug_conversation.specs.declared.job.Job.{Job}
use Rattle.uug_conversation.specs.Jobs.{Lists}
use Rattle.uug_conversation.specs.Machine.{State, Reply}

-- the lists, where these jobs were struck and failed before
abbrev pub behind : (struck failed : List Job) → Lists → Lists
behind struck failed l = record l { struck = struck ++ l.struck; failed = failed ++ l.failed }

abbrev pub state_behind : (struck failed : List Job) → State → State
state_behind struck failed s = record s { lists = behind struck failed s.lists }

abbrev pub reply_behind : (struck failed : List Job) → Reply → Reply
reply_behind struck failed r = record r { state = state_behind struck failed r.state }
