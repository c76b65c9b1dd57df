-- What a task of one end says (this project's profile).
use Rattle.std.specs.Prelude.{◌≡◌, ◌==◌, ◌≢◌, ◌<◌, ◌≤◌, ◌||◌, not, ℕ, Bool, List, [], Option, Some, None, IfSome, IsTrue, true, false}
use Rattle.uug_link.specs.Announced.{Announced, announced}
use Rattle.uug_link.specs.Terms.{IsSize, IsWindow, size_of_code}
use Rattle.uug_talk.specs.Name.{IsName}
use Rattle.uug_conversation.specs.Holdings.{Holdings, IsLimit, Kept}
use Rattle.uug_conversation.specs.Jobs.{Lists}
use Rattle.uug_conversation.specs.declared.side.Side.{Side}
use Rattle.uug_conversation.specs.declared.side.Side.TheVariants as sides
use Rattle.uug_session.specs.Beginnings.{EndBeginning}
use Rattle.uug_session.specs.EndStep.{Identity}
use Rattle.uug_session.specs.Engine.{BeginsSession, all_ahead}
use Rattle.uug_session.specs.Node.{NodeState}
use Rattle.uug_session.specs.Sessions.{HoldsNothing}
use Rattle.uug_session.specs.declared.place.Place.{Place}
use Rattle.uug_taylor_text.specs.SpoolNames.{is_system_name}
use Rattle.uug_transfer.specs.BufferedNodes.{IsCleared}
use Rattle.uug_transfer.specs.LineNames.{LineShown, line_of, shown, tcp, unix}
use Rattle.uug_transfer.specs.declared.thinning.Thinning.{Thinning}
use Rattle.uug_transfer.specs.declared.thinning.Thinning.TheVariants.{Repeats, RepeatsAndAcks}
use Rattle.uug_config.specs.declared.task.CallTask.{CallTask}
use Rattle.uug_config.specs.declared.task.Terms.{Terms}
use Rattle.uug_config.specs.declared.end_parts.EndParts.{EndParts}
use Rattle.uug_transfer.specs.Timers.{IsSpeed, packets_of}
use Rattle.uug_config.specs.declared.task.TheConstants.{KEEP_MAX, MOST_MIN, SECONDS_MAX, SESSIONS_MAX, WAIT_MAX}

-- whether an end may have this many sessions: more than one only if it is called at a socket
abbrev pub may_have : (sessions : ℕ) → Side → LineShown → Bool
may_have sessions sides.Called (unix path) = true
may_have sessions sides.Called (tcp host port) = true
may_have sessions side line = sessions == 1

-- whether the other end may have this name: in a spool it is the name of a folder, with no slash and no dot in front
abbrev pub has_place : (is_spool : Bool) → (peer : List ℕ) → Bool
has_place is_spool peer = not is_spool || is_system_name peer

-- a task that may be run: its numbers are in their ranges, and its line and its names are valid
pub record IsTask (task : CallTask) : Type 0 where
  pub seconds : (0 < task.line.seconds) × (task.line.seconds ≤ SECONDS_MAX)
  pub speed : IfSome task.line.speed IsSpeed
  pub wait : IfSome task.line.wait (λ wait. (0 < wait) × (wait ≤ WAIT_MAX))
  pub sessions : (0 < task.limits.sessions) × (task.limits.sessions ≤ SESSIONS_MAX)
  pub window : IsWindow task.settings.window
  pub size : IsSize task.settings.size
  pub most : MOST_MIN ≤ task.limits.most
  pub file_limit : IsLimit task.limits.file_limit
  pub keep_days : (0 < task.limits.keep_days) × (task.limits.keep_days ≤ KEEP_MAX)
  pub line : line_of task.line.name.now ≢ None
  pub turns : IfSome (line_of task.line.name.now) (λ line. IsTrue (may_have task.limits.sessions task.side line))
  pub me : IsName task.me.now
  pub peer : IsName task.peer.now
  pub place : IsTrue (has_place task.is_spool task.peer.now)

-- An end announces this window and this packet size in bytes, whether it is quiet on repeats, and whether its commands
-- are short.
pub record Announces (window size : ℕ) (quiet short : Bool) (a : Announced) : Type 0 where
  pub of_window : a.window ≡ window
  pub of_size : size_of_code a.size_code ≡ size
  pub is_quiet : a.quiet ≡ quiet
  pub is_short : a.short ≡ short

-- The line, the names, the announcement and the waiting times are those of the task. The other end may have as much on
-- the way as this one allows it. No number is read yet.
pub record IsSaidBy (task : CallTask) (terms : Terms) : Type 0 where
  pub line : line_of task.line.name.now ≡ Some (shown terms.line)
  pub me : terms.station.place.me ≡ task.me.now
  pub peer : terms.station.place.peer ≡ task.peer.now
  pub announces : Announces task.settings.window task.settings.size task.settings.is_quiet task.settings.is_short (announced terms.station.place.announce)
  pub number : terms.station.place.number ≡ None
  pub timeout : terms.station.pace.timeout ≡ task.line.seconds
  pub speed : terms.station.pace.speed ≡ task.line.speed
  pub theirs : terms.station.pace.theirs ≡ packets_of task.settings.window task.settings.size
  pub wait : terms.station.wait ≡ task.line.wait
  pub sessions : terms.station.sessions ≡ task.limits.sessions
  pub within : (0 < task.line.seconds) × (task.line.seconds ≤ SECONDS_MAX)

-- what an end leaves out of what it emits, by whether it acknowledges each data packet on its own
abbrev pub thinning_with : (every_ack : Bool) → Thinning
thinning_with true = Repeats
thinning_with false = RepeatsAndAcks

-- the seconds for which an end on this side waits at a device for the first byte, in silence and without counting
-- timeouts: only a called end waits, if the seconds are given
abbrev pub wait_at_device : Side → (wait : Option ℕ) → Option ℕ
wait_at_device sides.Called wait = wait
wait_at_device sides.Caller wait = None

-- which end it is, by its place
abbrev pub identity_at : Side → Place → Identity
identity_at side place = record { side = side; me = place.me; peer = place.peer }

-- an end at the beginning of its session: its place, its jobs, all of which are still to be offered, what its spool
-- gives and accepts, and what that has kept
abbrev pub beginning_at : Place → Lists → Holdings → List Kept → EndBeginning
beginning_at place jobs holdings kept = record {
  me = place.me;
  peer = place.peer;
  own = announced place.announce;
  holdings = holdings;
  lists = all_ahead jobs;
  kept = kept;
  number = place.number;
}

-- the same for an end that is made of these parts
abbrev pub beginning_of : {S J N A : Type 0} → (holdings : S → Holdings) (kept : S → List Kept) → EndParts S J N A → EndBeginning
beginning_of holdings kept parts = beginning_at parts.place parts.queue (holdings parts.spool) (kept parts.spool)

-- An end on this side has begun its session, at this place and with these jobs. Its first bytes are still to be
-- written, and nothing else has happened.
pub record HasBegunAt (side : Side) (place : Place) (jobs : Lists) (now : NodeState) : Type 0 where
  pub first : NodeState
  pub begins : BeginsSession (identity_at side place) (announced place.announce) place.number (all_ahead jobs) [] first.engine
  pub held : HoldsNothing first
  pub cleared : IsCleared first now
