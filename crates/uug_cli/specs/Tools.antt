-- The tools of the program, and the arguments that the parser takes after the name of each (this project's profile).
use Rattle.std.specs.Prelude.{◌≡◌, ◌++◌, true, false, List, [], ◌∷◌, Some, codes, pos}
use Rattle.clap.specs.Words.{App, Rule, Shape, Text, new_rule, rule_of, shape_of}
use Rattle.clap.specs.declared.builder.arg.Arg.{Arg}
use Rattle.clap.specs.declared.builder.command.Command.{Command}
use Rattle.clap.specs.declared.builder.command.Command.TheViews.{out-Command}
use Rattle.clap.specs.Simple.{new_shape}
use Rattle.clap.specs.declared.builder.action.ArgAction.TheVariants.{Set, SetTrue}
use Rattle.clap.specs.declared.builder.value_parser.ValueParser.TheVariants.{Signed}

-- ---- what a builder makes

-- an argument with this rule, for its own command only
pub record IsArg (rule : Rule) (made : Arg) : Type 0 where
  pub rule_is : rule_of made ≡ rule
  pub local : made.global ≡ false

-- a command with this tool and no tools below it
pub record IsTool (tool : Shape) (made : Command) : Type 0 where
  pub tool_is : shape_of made ≡ tool
  pub local : (out-Command made).has_globals ≡ false

-- ---- arguments

-- an argument that may be left out
abbrev pub optional_rule : Text → Rule
optional_rule name = record (new_rule name) { action = Some Set }

-- the file to read, if one is given
abbrev pub file_rule : Rule
file_rule = optional_rule (codes "FILE")

-- a required argument
abbrev pub path_rule : Text → Rule
path_rule name = record (new_rule name) { required = true; action = Some Set }

-- an option without a value
abbrev pub flag_rule : Text → Rule
flag_rule name = record (new_rule name) { long = Some name; action = Some SetTrue }

-- `--verbose` or `-v` (118)
abbrev pub verbose_rule : Rule
verbose_rule = record (flag_rule (codes "verbose")) { short = Some 118 }

-- the same option, which excludes others
abbrev pub excluding : Rule → Rule
excluding option = record option { is_free = false }

-- an option that takes a word
abbrev pub word_rule : Text → Rule
word_rule name = record (new_rule name) { long = Some name; value_names = 1; action = Some Set }

-- the same, with a default
abbrev pub folder_rule : (name default : Text) → Rule
folder_rule name default = record (word_rule name) { defaults = default ∷ [] }

-- a required option that takes a word
abbrev pub name_rule : Text → Rule
name_rule name = record (word_rule name) { required = true }

-- an option that takes a number of 32 bits
abbrev pub every_rule : Text → Rule
every_rule name = record (word_rule name) { parser = Some (Signed (pos 0) (pos 4294967295)) }

-- the same, with a default
abbrev pub number_rule : (name default : Text) → Rule
number_rule name default = record (every_rule name) { defaults = default ∷ [] }

-- ---- tools

abbrev pub tool : (name : Text) → List Rule → Shape
tool name arguments = record (new_shape name) { rules = arguments }

abbrev pub scan_tool : Shape
scan_tool = tool (codes "scan") (file_rule ∷ verbose_rule ∷ [])

abbrev pub play_tool : Shape
play_tool = tool (codes "play")
    (file_rule ∷ verbose_rule
    ∷ excluding (flag_rule (codes "settle"))
    ∷ excluding (flag_rule (codes "ladder")) ∷ [])

abbrev pub pair_tool : Shape
pair_tool = tool (codes "pair")
    (path_rule (codes "SOCKET") ∷ path_rule (codes "DIR_A") ∷ path_rule (codes "DIR_B")
    ∷ every_rule (codes "drop-every") ∷ every_rule (codes "flip-every") ∷ verbose_rule ∷ [])

-- a tool with these arguments after its own
abbrev pub with_arguments : Shape → List Rule → Shape
with_arguments before arguments = record before { rules = before.rules ++ arguments }

-- the arguments of an end at a line: its line, its folder and its name
abbrev pub end_rules : List Rule
end_rules = path_rule (codes "LINE") ∷ path_rule (codes "DIR") ∷ name_rule (codes "me") ∷ []

-- the options for how it talks
abbrev pub talk_rules : List Rule
talk_rules =
    number_rule (codes "window") (codes "7")
    ∷ every_rule (codes "size")
    ∷ number_rule (codes "timeout") (codes "10")
    ∷ every_rule (codes "speed")
    ∷ flag_rule (codes "no-quiet") ∷ flag_rule (codes "fill-commands")
    ∷ flag_rule (codes "strict") ∷ flag_rule (codes "no-digest") ∷ flag_rule (codes "no-resume")
    ∷ flag_rule (codes "every-ack") ∷ []

-- the options for its files, its reports and its spool
abbrev pub file_rules : List Rule
file_rules =
    flag_rule (codes "number")
    ∷ folder_rule (codes "locks") (codes "/var/lock")
    ∷ word_rule (codes "report") ∷ word_rule (codes "log")
    ∷ number_rule (codes "most") (codes "67108864")
    ∷ number_rule (codes "file-limit") (codes "67108864")
    ∷ number_rule (codes "keep-partials") (codes "30")
    ∷ flag_rule (codes "spool") ∷ word_rule (codes "public")
    ∷ word_rule (codes "stats") ∷ word_rule (codes "grade") ∷ word_rule (codes "port-name")
    ∷ folder_rule (codes "give") (codes "~") ∷ folder_rule (codes "take") (codes "~")
    ∷ verbose_rule ∷ []

-- one end at a line: its line, its folder, the names of both ends, and the options
abbrev pub end_tool : (name : Text) → (peer : Rule) → Shape
end_tool name peer = with_arguments (with_arguments (tool name (end_rules ++ peer ∷ [])) talk_rules) file_rules

-- A calling end also takes `--fail-status`.
abbrev pub call_tool : Shape
call_tool = with_arguments (end_tool (codes "call") (name_rule (codes "peer"))) (flag_rule (codes "fail-status") ∷ [])

-- A called end may be given no name of the other end. It also takes how long it waits to be called, and how many
-- sessions it has.
abbrev pub answer_tool : Shape
answer_tool = with_arguments (end_tool (codes "answer") (word_rule (codes "peer")))
    (every_rule (codes "wait") ∷ number_rule (codes "sessions") (codes "1") ∷ [])

abbrev pub queue_tool : Shape
queue_tool = tool (codes "queue")
    (path_rule (codes "DIR") ∷ optional_rule (codes "ORDER") ∷ optional_rule (codes "FILE") ∷ optional_rule (codes "TARGET")
    ∷ word_rule (codes "user") ∷ word_rule (codes "cancel") ∷ [])

abbrev pub status_tool : Shape
status_tool = tool (codes "status")
    (path_rule (codes "DIR") ∷ word_rule (codes "log") ∷ flag_rule (codes "json")
    ∷ flag_rule (codes "spool") ∷ word_rule (codes "peer") ∷ folder_rule (codes "locks") (codes "/var/lock") ∷ [])

abbrev pub tools : List Shape
tools = scan_tool ∷ play_tool ∷ pair_tool ∷ call_tool ∷ answer_tool ∷ queue_tool ∷ status_tool ∷ []

-- ---- the program

-- the program itself: one of its tools has to be named
abbrev pub program : Shape
program = record (new_shape (codes "uucpair")) { has_version = true; subcommand_required = true }

-- a command without tools below it
abbrev pub alone : Shape → App
alone above = record { top = above; subs = [] }

abbrev pub uucpair : App
uucpair = record { top = record program { is_leaf = false }; subs = tools }
