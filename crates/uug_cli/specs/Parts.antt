-- The first part of a task that is wrong (this project's profile).
use Rattle.std.specs.Prelude.{◌≢◌, ◌<◌, ◌≤◌, None, IfSome, IsTrue, ⊤}
use Rattle.uug_link.specs.Terms.{IsSize, IsWindow}
use Rattle.uug_conversation.specs.Holdings.{IsLimit}
use Rattle.uug_transfer.specs.Timers.{IsSpeed}
use Rattle.uug_config.specs.Tasks.{has_place, may_have}
use Rattle.uug_config.specs.declared.task.CallTask.{CallTask}
use Rattle.uug_config.specs.declared.task.TheConstants.{KEEP_MAX, MOST_MIN, SECONDS_MAX, SESSIONS_MAX, WAIT_MAX}
use Rattle.uug_talk.specs.Name.{IsName}
use Rattle.uug_transfer.specs.LineNames.{line_of}
use Rattle.uug_cli.specs.declared.part.Part.{Part}
use Rattle.uug_cli.specs.declared.part.Part.TheVariants.{Seconds, Speed, Wait, Sessions, Window, Size, Most, FileLimit, KeepDays, Line, Me, Peer, Place, Turns}

-- this part is as in a task that may be run
abbrev pub IsRight : CallTask → Part → Type 0
IsRight task Seconds = (0 < task.line.seconds) × (task.line.seconds ≤ SECONDS_MAX)
IsRight task Speed = IfSome task.line.speed IsSpeed
IsRight task Wait = IfSome task.line.wait (λ wait. (0 < wait) × (wait ≤ WAIT_MAX))
IsRight task Sessions = (0 < task.limits.sessions) × (task.limits.sessions ≤ SESSIONS_MAX)
IsRight task Window = IsWindow task.settings.window
IsRight task Size = IsSize task.settings.size
IsRight task Most = MOST_MIN ≤ task.limits.most
IsRight task FileLimit = IsLimit task.limits.file_limit
IsRight task KeepDays = (0 < task.limits.keep_days) × (task.limits.keep_days ≤ KEEP_MAX)
IsRight task Line = line_of task.line.name.now ≢ None
IsRight task Me = IsName task.me.now
IsRight task Peer = IsName task.peer.now
IsRight task Place = IsName task.peer.now → IsTrue (has_place task.is_spool task.peer.now)
IsRight task Turns = IfSome (line_of task.line.name.now) (λ line. IsTrue (may_have task.limits.sessions task.side line))

abbrev pub RightTimes : CallTask → Type 0
RightTimes task = IsRight task Seconds × IsRight task Speed × IsRight task Wait × IsRight task Sessions

abbrev pub RightNumbers : CallTask → Type 0
RightNumbers task = RightTimes task × IsRight task Window × IsRight task Size × IsRight task Most × IsRight task FileLimit × IsRight task KeepDays

-- all parts before it are right
abbrev pub RightBefore : CallTask → Part → Type 0
RightBefore task Seconds = ⊤
RightBefore task Speed = IsRight task Seconds
RightBefore task Wait = IsRight task Seconds × IsRight task Speed
RightBefore task Sessions = IsRight task Seconds × IsRight task Speed × IsRight task Wait
RightBefore task Window = RightTimes task
RightBefore task Size = RightTimes task × IsRight task Window
RightBefore task Most = RightTimes task × IsRight task Window × IsRight task Size
RightBefore task FileLimit = RightTimes task × IsRight task Window × IsRight task Size × IsRight task Most
RightBefore task KeepDays = RightTimes task × IsRight task Window × IsRight task Size × IsRight task Most × IsRight task FileLimit
RightBefore task Line = RightNumbers task
RightBefore task Me = RightNumbers task × IsRight task Line
RightBefore task Peer = RightNumbers task × IsRight task Line × IsRight task Me
RightBefore task Place = RightNumbers task × IsRight task Line × IsRight task Me × IsRight task Peer
RightBefore task Turns = RightNumbers task × IsRight task Line × IsRight task Me × IsRight task Peer × IsRight task Place

-- it is the first part that is wrong
pub record IsFirstWrong (task : CallTask) (part : Part) : Type 0 where
  pub wrong : IsRight task part → ⊥
  pub before : RightBefore task part
