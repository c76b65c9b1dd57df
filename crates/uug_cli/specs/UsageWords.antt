-- What is wrong with the usage, in words (this project's profile).
use Rattle.std.specs.Borrow.{Bor}
use Rattle.std.specs.Fmt.{decimal}
use Rattle.std.specs.Prelude.{◌≡◌, ◌==◌, ℕ, Bool, true, false, List, [], ◌∷◌, ◌++◌, codes, is_some, length, nat_eq, Option, Some, None, Result, Ok, Err, MatchOption, if◌then◌else◌}
use Rattle.std.specs.List.{starts_with}
use Rattle.std.specs.Option.{option_map}
use Rattle.std.specs.Path.{rsplit_once}
use Rattle.uug_cli.specs.Parts.{IsFirstWrong}
use Rattle.uug_cli.specs.SpoolOptions.{lacks_spool, spool_option}
use Rattle.uug_cli.specs.declared.part.Part.{Part}
use Rattle.uug_cli.specs.declared.part.Part.TheVariants.{Seconds, Speed, Wait, Sessions, Window, Size, Most, FileLimit, KeepDays, Line, Me, Peer, Place, Turns}
use Rattle.uug_scan.specs.Detailed.{escaped}
use Rattle.uug_talk.specs.Name.{name_read}
use Rattle.uug_talk.specs.declared.error.BadText.{BadText}
use Rattle.uug_config.specs.Tasks.{IsTask, has_place}
use Rattle.uug_config.specs.declared.task.CallTask.{CallTask}
use Rattle.uug_transfer.specs.FaultInjection.{is_in_range}
use Rattle.uug_transfer.specs.LineNames.{colon, port_of}

-- the number of this option is out of range
abbrev pub range_words : (option : List ℕ) → (number : Option ℕ) → (range : List ℕ) → List ℕ
range_words option (Some number) range = option ++ (codes " " ++ (decimal number ++ (codes " is not " ++ range)))
range_words option None range = []

abbrev pub name_words : List ℕ → List ℕ
name_words name = codes "\"" ++ (escaped name ++ codes "\" is not a system name: 1 to 200 printable characters without spaces")

-- for the name of the other end, which may be missing
abbrev pub peer_words : List ℕ → List ℕ
peer_words name = if length name == 0 then codes "the name of the other end is missing: --peer" else name_words name

-- for a name that a system in a spool can't have
abbrev pub place_words : List ℕ → List ℕ
place_words name = codes "\"" ++ (escaped name ++ codes "\" is not a system name for a spool: no slash, no leading dot")

-- for the name of a system in a spool, by the result of reading it
abbrev pub system_words_by : Result (List ℕ) BadText → (name : List ℕ) → List ℕ
system_words_by (Ok system) name = if has_place true system then [] else place_words name
system_words_by (Err fault) name = peer_words name

abbrev pub system_words : List ℕ → List ℕ
system_words name = system_words_by (name_read name) name

-- for a status: a spool and the name of a system in it need each other
abbrev pub status_words : (is_spool : Bool) → (peer : Option (Bor (List ℕ))) → List ℕ
status_words false None = []
status_words false (Some peer) = codes "--peer names a system of a spool: add --spool"
status_words true None = peer_words []
status_words true (Some peer) = system_words peer.now

-- the text after the last colon is a port
abbrev pub is_port_behind : Option (List ℕ × List ℕ) → Bool
is_port_behind (Some parts) = is_some (port_of parts.1)
is_port_behind None = false

abbrev pub is_port : List ℕ → Bool
is_port line = is_port_behind (rsplit_once colon line)

-- what is missing in a line that is not a device
abbrev pub lack_words : List ℕ → List ℕ
lack_words line =
    if starts_with nat_eq line (codes "unix:") then codes " has no path" else
    (if is_port line then codes " has no host" else codes " has no port number (0 to 65535): give tcp:HOST:PORT")

abbrev pub line_words : List ℕ → List ℕ
line_words line = if length line == 0 then codes "LINE is empty" else (escaped line ++ lack_words line)

-- the words for each wrong part
abbrev pub part_words : CallTask → Part → List ℕ
part_words task Seconds = range_words (codes "timeout") (Some task.line.seconds) (codes "1 to 600")
part_words task Speed = range_words (codes "speed") task.line.speed (codes "300 to 10000000")
part_words task Wait = range_words (codes "wait") task.line.wait (codes "1 to 1000000000")
part_words task Sessions = range_words (codes "sessions") (Some task.limits.sessions) (codes "1 to 1000000")
part_words task Window = range_words (codes "window") (Some task.settings.window) (codes "1 to 7")
part_words task Size = range_words (codes "size") (Some task.settings.size) (codes "32, 64, 128, 256, 512, 1024, 2048 or 4096")
part_words task Most = range_words (codes "most") (Some task.limits.most) (codes "1048576 or more")
part_words task FileLimit = range_words (codes "file-limit") (Some task.limits.file_limit) (codes "1 to 268435456")
part_words task KeepDays = range_words (codes "keep-partials") (Some task.limits.keep_days) (codes "1 to 3650")
part_words task Line = line_words task.line.name.now
part_words task Me = name_words task.me.now
part_words task Peer = peer_words task.peer.now
part_words task Place = place_words task.peer.now
part_words task Turns = range_words (codes "sessions") (Some task.limits.sessions) (codes "1: only a socket allows more")

-- the option that is given without the spool that it needs, if one is
abbrev pub spool_words : CallTask → List ℕ
spool_words task =
    if lacks_spool task then spool_option task.spool ++ codes " is for a spool: give --spool too, or leave it out" else []

-- The remark on a task. If the task may be run, it says at most that an option lacks a spool. Else it names the first
-- wrong part.
pub record IsUsageOf (task : CallTask) (remark : List ℕ) : Type 0 where
  pub wrong : Option Part
  pub found : MatchOption wrong (IsTask task) (IsFirstWrong task)
  pub words : MatchOption wrong (remark ≡ spool_words task) (λ part. remark ≡ part_words task part)

-- The first N out of range: that of the packets to lose, or of those to change. If neither is, both folders are the
-- same.
abbrev pub pair_words : (drop_every flip_every : Option ℕ) → List ℕ
pair_words drop_every flip_every =
    if is_in_range drop_every
    then (if is_in_range flip_every then codes "DIR_A and DIR_B are one folder: give each end its own" else range_words (codes "flip-every") flip_every (codes "2 to 1000000"))
    else range_words (codes "drop-every") drop_every (codes "2 to 1000000")
