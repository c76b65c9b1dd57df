-- How an end in a session is described by two numbers, whatever it has brought from earlier ones (this project's profile).
use Rattle.std.specs.Prelude.{true, List, ◌++◌, length}
use Rattle.uug_talk.specs.Chunks.{Measure}
use Rattle.uug_conversation.specs.declared.job.Job.{Job}
use Rattle.uug_conversation.specs.Count.{Count}
use Rattle.uug_conversation.specs.EarlierJobs.{state_behind}
use Rattle.uug_conversation.specs.Holdings.{Kept}
use Rattle.uug_conversation.specs.DialogueState.{DialogueState}
use Rattle.uug_session.specs.TwoEnds.{Talker}

-- what it keeps once its link is up, where these jobs were struck and failed and these files kept before, and its messages
-- are cut so
abbrev pub talk_behind : (struck failed : List Job) → (kept : List Kept) → Measure → Talker → DialogueState
talk_behind struck failed kept measure t = record {
  opened = true;
  machine = state_behind struck failed t.state;
  measure = measure;
  waiting = t.waiting;
  kept = kept ++ t.kept;
}

-- how many messages it has sent and taken since then
abbrev pub count_of_talker : Talker → Count
count_of_talker t = record { opened = true; sent = length t.sent; taken = length t.taken }
