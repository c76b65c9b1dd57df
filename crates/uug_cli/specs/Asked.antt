-- What the words of a command line ask for (this project's profile).
use Rattle.std.specs.Prelude.{◌≡◌, ◌⊎◌, ◌&&◌, ◌^◌, ℕ, Bool, true, false, not, List, [], Option, Some, None, codes, if◌then◌else◌, length, nat_lt, option_and_then, option_map, unwrap_or}
use Rattle.std.specs.Borrow.{Bor}
use Rattle.std.specs.Char.{digit_value}
use Rattle.std.specs.List.{list_all}
use Rattle.std.specs.Option.{option_map_or}
use Rattle.std.specs.Str.{bytes_eq}
use Rattle.std.specs.Str.Parse.{digits_value, without_leading_plus}
use Rattle.clap.specs.Words.{Row, Text, first_of, found_of, one_of, rows_of, subcommand_of, takes}
use Rattle.clap.specs.declared.parser.matches.ArgMatches.{ArgMatches}
use Rattle.uug_cli.specs.Tools.{uucpair}
use Rattle.uug_conversation.specs.declared.side.Side.{Side}
use Rattle.uug_conversation.specs.declared.side.Side.TheVariants.{Caller, Called}
use Rattle.uug_config.specs.declared.limits.Limits.{Limits}
use Rattle.uug_config.specs.declared.line_options.LineOptions.{LineOptions}
use Rattle.uug_config.specs.declared.outputs.Outputs.{Outputs}
use Rattle.uug_config.specs.declared.session_settings.SessionSettings.{SessionSettings}
use Rattle.uug_config.specs.declared.spool_options.SpoolOptions.{SpoolOptions}
use Rattle.uug_config.specs.declared.task.CallTask.{CallTask}
use Rattle.uug_io_disk.specs.declared.queue.QueueTask.{QueueTask}
use Rattle.uug_io_pending.specs.declared.cancel.CancelTask.{CancelTask}
use Rattle.uug_io_pending.specs.declared.status.StatusTask.{StatusTask}
use Rattle.uug_cli.specs.declared.command_line.PairTask.{PairTask}
use Rattle.uug_cli.specs.declared.command_line.Task.{Task}
use Rattle.uug_cli.specs.declared.command_line.Task.TheVariants.{Version, Scan, ScanVerbose, Play, PlayVerbose, PlaySettled, PlayDrawn, Pair, Call, Queue, Cancel, Status}

-- ---- the words after the name of a tool: an entry for each argument that has a value

abbrev pub Entries : Type 0
Entries = List Row

abbrev pub entries_of : ArgMatches → Entries
entries_of matches = rows_of (found_of matches)

-- the value of an argument, or an empty text if it has none
abbrev pub text_in : Entries → (name : Text) → Text
text_in entries name = unwrap_or (first_of name entries) []

-- whether an option without a value is given
abbrev pub is_given : Entries → (name : Text) → Bool
is_given entries name = option_map_or (λ text. bytes_eq text (codes "true")) (one_of name entries) false

-- whether these are decimal digits, at least one, of a number that fits 32 bits
abbrev pub is_number : (digits : Text) → Bool
is_number digits = nat_lt 0 (length digits) && (list_all (λ d. nat_lt (digit_value d) 10) digits
    && nat_lt (digits_value 10 digits) (2 ^ 32))

abbrev pub number_of : Text → Option ℕ
number_of text = let digits = without_leading_plus text in
    if is_number digits then Some (digits_value 10 digits) else None

-- the number of an option, if it has one
abbrev pub number_in : Entries → (name : Text) → Option ℕ
number_in entries name = option_and_then number_of (one_of name entries)

-- the same, or 0 if it has none: an option with a default always has one
abbrev pub number_or_zero : Entries → (name : Text) → ℕ
number_or_zero entries name = unwrap_or (number_in entries name) 0

-- the same, or 1 if it has none
abbrev pub number_or_one : Entries → (name : Text) → ℕ
number_or_one entries name = unwrap_or (number_in entries name) 1

-- ---- what the tools are asked for

-- The packet size of an end that is given none, by the speed of its line in bits a second, if that is given: the
-- smaller one below 1,200.
abbrev pub usual_size : (speed : Option ℕ) → ℕ
usual_size None = 1024
usual_size (Some speed) = if nat_lt speed 1200 then 256 else 1024

-- the packet size that an end announces: the given one, else the usual one
abbrev pub size_in : Entries → ℕ
size_in entries = unwrap_or (number_in entries (codes "size")) (usual_size (number_in entries (codes "speed")))

-- how a script is played
pub data Manner : Type 0 where
  plainly : Manner
  verbosely : Manner
  settled : Manner
  drawn : Manner

-- the manner by the options: the first that is given counts
abbrev pub manner_by : (verbose settle ladder : Bool) → Manner
manner_by true settle ladder = verbosely
manner_by false true ladder = settled
manner_by false false true = drawn
manner_by false false false = plainly

abbrev pub manner_in : Entries → Manner
manner_in entries = manner_by (is_given entries (codes "verbose")) (is_given entries (codes "settle"))
    (is_given entries (codes "ladder"))

-- The tool that lists packets. `help` is not a tool: the parser answers it with a text, but none of its clauses says
-- that.
abbrev pub NamesScan : (tool : Text) → Type 0
NamesScan tool = (tool ≡ codes "scan") ⊎ (tool ≡ codes "help")

-- a word is the value of an argument, if it has one
abbrev pub IsWordIn : Entries → (name : Text) → Option (Bor Text) → Type 0
IsWordIn entries name word = option_map (λ text. text.now) word ≡ first_of name entries

abbrev pub IsFileIn : Entries → Option (Bor Text) → Type 0
IsFileIn entries file = IsWordIn entries (codes "FILE") file

pub record AsksToScan (tool : Text) (entries : Entries) (is_verbose : Bool) (file : Option (Bor Text)) : Type 0 where
  pub scans : NamesScan tool
  pub verbose : is_given entries (codes "verbose") ≡ is_verbose
  pub path : IsFileIn entries file

pub record AsksToPlay (tool : Text) (entries : Entries) (manner : Manner) (file : Option (Bor Text)) : Type 0 where
  pub plays : tool ≡ codes "play"
  pub options : manner_in entries ≡ manner
  pub path : IsFileIn entries file

-- the task of two ends has the values of these entries
pub record IsPairIn (entries : Entries) (task : PairTask) : Type 0 where
  pub socket : task.socket.now ≡ text_in entries (codes "SOCKET")
  pub dir_a : task.dir_a.now ≡ text_in entries (codes "DIR_A")
  pub dir_b : task.dir_b.now ≡ text_in entries (codes "DIR_B")
  pub drop_every : task.drop_every ≡ number_in entries (codes "drop-every")
  pub flip_every : task.flip_every ≡ number_in entries (codes "flip-every")
  pub is_loud : task.is_loud ≡ is_given entries (codes "verbose")

abbrev pub tool_at : Side → Text
tool_at Caller = codes "call"
tool_at Called = codes "answer"

-- the name in place of a system's where any system that the spool knows may call
abbrev pub any_name : Text
any_name = codes "*"

-- The name of the other end, by the one that is given. If a called end over a spool is given none, any system that the
-- spool knows may call.
abbrev pub peer_by : Side → (is_spool : Bool) → (given : Option Text) → Text
peer_by side is_spool (Some name) = name
peer_by Called true None = any_name
peer_by Called false None = []
peer_by Caller is_spool None = []

abbrev pub peer_in : Side → Entries → Text
peer_in side entries = peer_by side (is_given entries (codes "spool")) (first_of (codes "peer") entries)

-- what one end is told of its line
pub record IsLineIn (entries : Entries) (line : LineOptions) : Type 0 where
  pub name : line.name.now ≡ text_in entries (codes "LINE")
  pub seconds : line.seconds ≡ number_or_zero entries (codes "timeout")
  pub speed : line.speed ≡ number_in entries (codes "speed")
  pub wait : line.wait ≡ number_in entries (codes "wait")
  pub locks : line.locks.now ≡ text_in entries (codes "locks")

-- what it is told of its sessions
pub record AreSettingsIn (entries : Entries) (settings : SessionSettings) : Type 0 where
  pub window : settings.window ≡ number_or_zero entries (codes "window")
  pub size : settings.size ≡ size_in entries
  pub is_quiet : settings.is_quiet ≡ not (is_given entries (codes "no-quiet"))
  pub is_short : settings.is_short ≡ not (is_given entries (codes "fill-commands"))
  pub is_lenient : settings.is_lenient ≡ not (is_given entries (codes "strict"))
  pub tells_digests : settings.tells_digests ≡ not (is_given entries (codes "no-digest"))
  pub is_resuming : settings.is_resuming ≡ not (is_given entries (codes "no-resume"))
  pub is_every_ack : settings.is_every_ack ≡ is_given entries (codes "every-ack")
  pub is_numbered : settings.is_numbered ≡ is_given entries (codes "number")

-- what it is told of its limits
pub record AreLimitsIn (entries : Entries) (limits : Limits) : Type 0 where
  pub sessions : limits.sessions ≡ number_or_one entries (codes "sessions")
  pub most : limits.most ≡ number_or_zero entries (codes "most")
  pub file_limit : limits.file_limit ≡ number_or_zero entries (codes "file-limit")
  pub keep_days : limits.keep_days ≡ number_or_zero entries (codes "keep-partials")

-- what it is told of its outputs
pub record AreOutputsIn (entries : Entries) (outputs : Outputs) : Type 0 where
  pub is_loud : outputs.is_loud ≡ is_given entries (codes "verbose")
  pub report : IsWordIn entries (codes "report") outputs.report
  pub log : IsWordIn entries (codes "log") outputs.log

-- what it is told of a spool
pub record IsSpoolIn (entries : Entries) (spool : SpoolOptions) : Type 0 where
  pub public : IsWordIn entries (codes "public") spool.public
  pub stats : IsWordIn entries (codes "stats") spool.stats
  pub grade : IsWordIn entries (codes "grade") spool.grade
  pub port : IsWordIn entries (codes "port-name") spool.port
  pub gives : spool.rules.gives.now ≡ text_in entries (codes "give")
  pub takes : spool.rules.takes.now ≡ text_in entries (codes "take")

-- what one end is run over
pub record IsEndIn (entries : Entries) (task : CallTask) : Type 0 where
  pub dir : task.dir.now ≡ text_in entries (codes "DIR")
  pub me : task.me.now ≡ text_in entries (codes "me")
  pub peer : task.peer.now ≡ peer_in task.side entries
  pub line : IsLineIn entries task.line
  pub settings : AreSettingsIn entries task.settings
  pub limits : AreLimitsIn entries task.limits
  pub outputs : AreOutputsIn entries task.outputs
  pub is_spool : task.is_spool ≡ is_given entries (codes "spool")
  pub spool : IsSpoolIn entries task.spool
  pub is_fail_status : task.is_fail_status ≡ is_given entries (codes "fail-status")

pub record AsksForPair (tool : Text) (entries : Entries) (task : PairTask) : Type 0 where
  pub pairs : tool ≡ codes "pair"
  pub says : IsPairIn entries task

pub record AsksForEnd (tool : Text) (entries : Entries) (task : CallTask) : Type 0 where
  pub calls : tool ≡ tool_at task.side
  pub says : IsEndIn entries task

-- the task of queueing has the values of these entries
pub record IsQueueIn (entries : Entries) (task : QueueTask) : Type 0 where
  pub dir : task.dir.now ≡ text_in entries (codes "DIR")
  pub order : IsWordIn entries (codes "ORDER") task.order
  pub file : IsWordIn entries (codes "FILE") task.file
  pub target : IsWordIn entries (codes "TARGET") task.target
  pub user : IsWordIn entries (codes "user") task.user

pub record AsksToQueue (tool : Text) (entries : Entries) (task : QueueTask) : Type 0 where
  pub queues : tool ≡ codes "queue"
  pub none_cancelled : first_of (codes "cancel") entries ≡ None
  pub says : IsQueueIn entries task

-- which job is cancelled
pub record AsksToCancel (tool : Text) (entries : Entries) (task : CancelTask) : Type 0 where
  pub queues : tool ≡ codes "queue"
  pub dir : task.dir.now ≡ text_in entries (codes "DIR")
  pub job : first_of (codes "cancel") entries ≡ Some task.job.now
  pub order : IsWordIn entries (codes "ORDER") task.order

-- the task of showing a status has the values of these entries
pub record IsStatusIn (entries : Entries) (task : StatusTask) : Type 0 where
  pub dir : task.dir.now ≡ text_in entries (codes "DIR")
  pub log : IsWordIn entries (codes "log") task.log
  pub is_json : task.is_json ≡ is_given entries (codes "json")
  pub is_spool : task.is_spool ≡ is_given entries (codes "spool")
  pub peer : IsWordIn entries (codes "peer") task.peer
  pub locks : task.locks.now ≡ text_in entries (codes "locks")

pub record AsksForStatus (tool : Text) (entries : Entries) (task : StatusTask) : Type 0 where
  pub shows : tool ≡ codes "status"
  pub says : IsStatusIn entries task

-- ---- the words of a command line

-- a name that a parse gives for a tool
abbrev pub IsToolName : Text → Type 0
IsToolName tool = NamesScan tool ⊎ ((tool ≡ codes "play") ⊎ ((tool ≡ codes "pair") ⊎ ((tool ≡ codes "call") ⊎ ((tool ≡ codes "answer") ⊎ ((tool ≡ codes "queue") ⊎ (tool ≡ codes "status"))))))

-- a tool of this name, with these entries, asks for the task
abbrev pub AsksIn : (tool : Text) → Entries → Task → Type 0
AsksIn tool entries Version = ⊥
AsksIn tool entries (Scan file) = AsksToScan tool entries false file
AsksIn tool entries (ScanVerbose file) = AsksToScan tool entries true file
AsksIn tool entries (Play file) = AsksToPlay tool entries plainly file
AsksIn tool entries (PlayVerbose file) = AsksToPlay tool entries verbosely file
AsksIn tool entries (PlaySettled file) = AsksToPlay tool entries settled file
AsksIn tool entries (PlayDrawn file) = AsksToPlay tool entries drawn file
AsksIn tool entries (Pair pair) = AsksForPair tool entries pair
AsksIn tool entries (Call call) = AsksForEnd tool entries call
AsksIn tool entries (Queue queue) = AsksToQueue tool entries queue
AsksIn tool entries (Cancel cancel) = AsksToCancel tool entries cancel
AsksIn tool entries (Status status) = AsksForStatus tool entries status

-- The words, the program's name first, name this tool, with these entries after its name.
pub record AsksByTool (words : List Text) (task : Task) : Type 0 where
  pub tool : Text
  pub entries : Entries
  pub read : subcommand_of uucpair words ≡ Some (tool, entries)
  pub asks : AsksIn tool entries task

-- The words of a command line, the program's name first, ask for the task. For `--version` this says only that no tool
-- takes the words.
abbrev pub Asks : (words : List Text) → Task → Type 0
Asks words Version = takes uucpair words ≡ false
Asks words task = AsksByTool words task
