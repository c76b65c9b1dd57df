-- What some command lines ask for, worked out.
use Rattle.std.proofs.Common.{◌≡◌, true, false, List, [], ◌∷◌, Option, Some, None, refl, codes}
use Rattle.std.specs.Option.{option_map, option_map_or}
use Rattle.clap.specs.Words.{Text, first_of, is_simple, subcommand_of, takes}
use Rattle.clap.proofs.OnLiterals.{clap_on_literals}
use Rattle.uug_cli.specs.Asked.{Entries, drawn, is_given, manner_in, number_in, number_or_one, number_or_zero, peer_in, size_in, text_in, usual_size}
use Rattle.uug_cli.specs.Tools.{uucpair}
use Rattle.uug_conversation.specs.declared.side.Side.TheVariants.{Called}

-- the parser gives the matches of these tools exactly
exact : is_simple uucpair ≡ true
exact = refl

abbrev tool_of : List Text → Option Text
tool_of words = option_map (λ p. p.0) (subcommand_of uucpair words)

abbrev entries_of : List Text → Entries
entries_of words = option_map_or (λ p. p.1) (subcommand_of uucpair words) []

-- ---- uucpair scan -v noise

abbrev scan_words : List Text
scan_words = codes "uucpair" ∷ codes "scan" ∷ codes "-v" ∷ codes "noise" ∷ []

scan_is_named : tool_of scan_words ≡ Some (codes "scan")
unfolding clap_on_literals
scan_is_named = refl

scan_is_verbose : is_given (entries_of scan_words) (codes "verbose") ≡ true
unfolding clap_on_literals
scan_is_verbose = refl

scan_has_file : first_of (codes "FILE") (entries_of scan_words) ≡ Some (codes "noise")
unfolding clap_on_literals
scan_has_file = refl

scan_is_taken : takes uucpair scan_words ≡ true
unfolding clap_on_literals
scan_is_taken = refl

-- ---- uucpair play --ladder

abbrev play_words : List Text
play_words = codes "uucpair" ∷ codes "play" ∷ codes "--ladder" ∷ []

play_is_drawn : manner_in (entries_of play_words) ≡ drawn
unfolding clap_on_literals
play_is_drawn = refl

play_has_no_file : first_of (codes "FILE") (entries_of play_words) ≡ None
unfolding clap_on_literals
play_has_no_file = refl

-- ---- uucpair answer tcp:h:540 dir --me a --peer=b --window 3 --no-quiet --wait 60

abbrev answer_words : List Text
answer_words = codes "uucpair" ∷ codes "answer" ∷ codes "tcp:h:540" ∷ codes "dir" ∷ codes "--me" ∷ codes "a"
    ∷ codes "--peer=b" ∷ codes "--window" ∷ codes "3" ∷ codes "--no-quiet" ∷ codes "--wait" ∷ codes "60" ∷ []

answer_is_named : tool_of answer_words ≡ Some (codes "answer")
unfolding clap_on_literals
answer_is_named = refl

answer_has_line : text_in (entries_of answer_words) (codes "LINE") ≡ codes "tcp:h:540"
unfolding clap_on_literals
answer_has_line = refl

answer_has_folder : text_in (entries_of answer_words) (codes "DIR") ≡ codes "dir"
unfolding clap_on_literals
answer_has_folder = refl

answer_has_peer : peer_in Called (entries_of answer_words) ≡ codes "b"
unfolding clap_on_literals
answer_has_peer = refl

answer_has_window : number_or_zero (entries_of answer_words) (codes "window") ≡ 3
unfolding clap_on_literals
answer_has_window = refl

answer_has_size : size_in (entries_of answer_words) ≡ 1024
unfolding clap_on_literals
answer_has_size = refl

answer_is_not_quiet : is_given (entries_of answer_words) (codes "no-quiet") ≡ true
unfolding clap_on_literals
answer_is_not_quiet = refl

answer_is_lenient : is_given (entries_of answer_words) (codes "strict") ≡ false
unfolding clap_on_literals
answer_is_lenient = refl

answer_tells_digests : is_given (entries_of answer_words) (codes "no-digest") ≡ false
unfolding clap_on_literals
answer_tells_digests = refl

answer_resumes : is_given (entries_of answer_words) (codes "no-resume") ≡ false
unfolding clap_on_literals
answer_resumes = refl

answer_has_wait : number_in (entries_of answer_words) (codes "wait") ≡ Some 60
unfolding clap_on_literals
answer_has_wait = refl

answer_has_one_session : number_or_one (entries_of answer_words) (codes "sessions") ≡ 1
unfolding clap_on_literals
answer_has_one_session = refl

answer_has_no_speed : number_in (entries_of answer_words) (codes "speed") ≡ None
unfolding clap_on_literals
answer_has_no_speed = refl

answer_has_locks : text_in (entries_of answer_words) (codes "locks") ≡ codes "/var/lock"
unfolding clap_on_literals
answer_has_locks = refl

answer_gives_all : text_in (entries_of answer_words) (codes "give") ≡ codes "~"
unfolding clap_on_literals
answer_gives_all = refl

answer_is_taken : takes uucpair answer_words ≡ true
unfolding clap_on_literals
answer_is_taken = refl

-- ---- uucpair call /dev/ttyS0 dir --me a --peer b --speed 1200 --every-ack

abbrev slow_words : List Text
slow_words = codes "uucpair" ∷ codes "call" ∷ codes "/dev/ttyS0" ∷ codes "dir" ∷ codes "--me" ∷ codes "a"
    ∷ codes "--peer" ∷ codes "b" ∷ codes "--speed" ∷ codes "1200" ∷ codes "--every-ack" ∷ []

slow_has_speed : number_in (entries_of slow_words) (codes "speed") ≡ Some 1200
unfolding clap_on_literals
slow_has_speed = refl

slow_has_size : size_in (entries_of slow_words) ≡ 1024
unfolding clap_on_literals
slow_has_size = refl

slow_acknowledges_each : is_given (entries_of slow_words) (codes "every-ack") ≡ true
unfolding clap_on_literals
slow_acknowledges_each = refl

slow_has_no_wait : number_in (entries_of slow_words) (codes "wait") ≡ None
unfolding clap_on_literals
slow_has_no_wait = refl

-- ---- uucpair answer - dir --me a --peer b --speed 300 --size 64

abbrev sized_words : List Text
sized_words = codes "uucpair" ∷ codes "answer" ∷ codes "-" ∷ codes "dir" ∷ codes "--me" ∷ codes "a"
    ∷ codes "--peer" ∷ codes "b" ∷ codes "--speed" ∷ codes "300" ∷ codes "--size" ∷ codes "64" ∷ []

sized_has_size : size_in (entries_of sized_words) ≡ 64
unfolding clap_on_literals
sized_has_size = refl

-- ---- uucpair answer - spool --spool --me a

abbrev hub_words : List Text
hub_words = codes "uucpair" ∷ codes "answer" ∷ codes "-" ∷ codes "spool" ∷ codes "--spool" ∷ codes "--me" ∷ codes "a" ∷ []

hub_is_taken : takes uucpair hub_words ≡ true
unfolding clap_on_literals
hub_is_taken = refl

hub_lets_in_any : peer_in Called (entries_of hub_words) ≡ codes "*"
unfolding clap_on_literals
hub_lets_in_any = refl

-- ---- uucpair answer - dir --me a

abbrev alone_words : List Text
alone_words = codes "uucpair" ∷ codes "answer" ∷ codes "-" ∷ codes "dir" ∷ codes "--me" ∷ codes "a" ∷ []

alone_has_no_peer : peer_in Called (entries_of alone_words) ≡ []
unfolding clap_on_literals
alone_has_no_peer = refl

-- ---- uucpair call - spool --spool --me a

call_wants_a_peer : takes uucpair (codes "uucpair" ∷ codes "call" ∷ codes "-" ∷ codes "spool" ∷ codes "--spool" ∷ codes "--me" ∷ codes "a" ∷ []) ≡ false
unfolding clap_on_literals
call_wants_a_peer = refl

-- ---- the packet size of an end that is told none

record AreUsual : Type 0 where
  no_speed : usual_size None ≡ 1024
  slowest : usual_size (Some 300) ≡ 256
  below : usual_size (Some 1199) ≡ 256
  at : usual_size (Some 1200) ≡ 1024
  fast : usual_size (Some 57600) ≡ 1024

usual : AreUsual
usual = record { no_speed = refl; slowest = refl; below = refl; at = refl; fast = refl }

-- ---- uucpair queue dir send /tmp/x --user me

abbrev queue_words : List Text
queue_words = codes "uucpair" ∷ codes "queue" ∷ codes "dir" ∷ codes "send" ∷ codes "/tmp/x" ∷ codes "--user" ∷ codes "me" ∷ []

queue_is_named : tool_of queue_words ≡ Some (codes "queue")
unfolding clap_on_literals
queue_is_named = refl

queue_has_order : first_of (codes "ORDER") (entries_of queue_words) ≡ Some (codes "send")
unfolding clap_on_literals
queue_has_order = refl

queue_has_file : first_of (codes "FILE") (entries_of queue_words) ≡ Some (codes "/tmp/x")
unfolding clap_on_literals
queue_has_file = refl

queue_has_no_target : first_of (codes "TARGET") (entries_of queue_words) ≡ None
unfolding clap_on_literals
queue_has_no_target = refl

queue_has_user : first_of (codes "user") (entries_of queue_words) ≡ Some (codes "me")
unfolding clap_on_literals
queue_has_user = refl

queue_is_taken : takes uucpair queue_words ≡ true
unfolding clap_on_literals
queue_is_taken = refl

queue_cancels_none : first_of (codes "cancel") (entries_of queue_words) ≡ None
unfolding clap_on_literals
queue_cancels_none = refl

-- ---- uucpair queue dir --cancel 3

abbrev cancel_words : List Text
cancel_words = codes "uucpair" ∷ codes "queue" ∷ codes "dir" ∷ codes "--cancel" ∷ codes "3" ∷ []

cancel_is_named : tool_of cancel_words ≡ Some (codes "queue")
unfolding clap_on_literals
cancel_is_named = refl

cancel_has_job : first_of (codes "cancel") (entries_of cancel_words) ≡ Some (codes "3")
unfolding clap_on_literals
cancel_has_job = refl

cancel_is_taken : takes uucpair cancel_words ≡ true
unfolding clap_on_literals
cancel_is_taken = refl

-- ---- uucpair status dir --json

abbrev status_words : List Text
status_words = codes "uucpair" ∷ codes "status" ∷ codes "dir" ∷ codes "--json" ∷ []

status_is_named : tool_of status_words ≡ Some (codes "status")
unfolding clap_on_literals
status_is_named = refl

status_has_folder : text_in (entries_of status_words) (codes "DIR") ≡ codes "dir"
unfolding clap_on_literals
status_has_folder = refl

status_is_json : is_given (entries_of status_words) (codes "json") ≡ true
unfolding clap_on_literals
status_is_json = refl

status_is_taken : takes uucpair status_words ≡ true
unfolding clap_on_literals
status_is_taken = refl

-- ---- uucpair status dir --spool --peer b

abbrev spool_words : List Text
spool_words = codes "uucpair" ∷ codes "status" ∷ codes "dir" ∷ codes "--spool" ∷ codes "--peer" ∷ codes "b" ∷ []

spool_is_given : is_given (entries_of spool_words) (codes "spool") ≡ true
unfolding clap_on_literals
spool_is_given = refl

spool_has_peer : first_of (codes "peer") (entries_of spool_words) ≡ Some (codes "b")
unfolding clap_on_literals
spool_has_peer = refl

spool_has_locks : text_in (entries_of spool_words) (codes "locks") ≡ codes "/var/lock"
unfolding clap_on_literals
spool_has_locks = refl

spool_is_taken : takes uucpair spool_words ≡ true
unfolding clap_on_literals
spool_is_taken = refl

-- ---- uucpair --version

version_is_no_tool : takes uucpair (codes "uucpair" ∷ codes "--version" ∷ []) ≡ false
unfolding clap_on_literals
version_is_no_tool = refl
