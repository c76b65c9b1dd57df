-- What is said of bad usage, so that a wrong definition does not check.
use Rattle.std.proofs.Common.{◌≡◌, [], ◌∷◌, ◌++◌, codes, false, true, Some, None, refl}
use Rattle.std.specs.Fmt.{digits}
use Rattle.std.specs.Path.{rsplit_once}
use Rattle.uug_cli.specs.Hints.{hint_words}
use Rattle.uug_cli.specs.OrderWords.{full_remark, order_words}
use Rattle.uug_cli.specs.SpoolOptions.{folder_option}
use Rattle.uug_cli.specs.TargetWords.{dotted_remark}
use Rattle.uug_cli.specs.UsageWords.{line_words, name_words, pair_words, peer_words, place_words, range_words, status_words, system_words}

record AreSaid : Type 0 where
  range : range_words (codes "window") (Some 8) (codes "1 to 7") ≡ codes "window 8 is not 1 to 7"
  name : name_words (codes "Foo bar") ≡ codes "\"Foo bar\" is not a system name: 1 to 200 printable characters without spaces"
  no_peer : peer_words [] ≡ codes "the name of the other end is missing: --peer"
  peer : peer_words (codes "a b") ≡ name_words (codes "a b")
  port : line_words (codes "tcp:h:x") ≡ codes "tcp:h:x has no port number (0 to 65535): give tcp:HOST:PORT"
  alone : line_words (codes "tcp:h") ≡ codes "tcp:h has no port number (0 to 65535): give tcp:HOST:PORT"
  host : line_words (codes "tcp::5") ≡ codes "tcp::5 has no host"
  system : system_words (codes "a.b") ≡ []
  no_system : system_words (codes "a b") ≡ peer_words (codes "a b")
  no_place : system_words (codes "../a") ≡ place_words (codes "../a")
  folder : status_words false None ≡ []
  lacks : status_words true None ≡ codes "the name of the other end is missing: --peer"
  path : line_words (codes "unix:") ≡ codes "unix: has no path"
  empty : line_words [] ≡ codes "LINE is empty"
  lost : pair_words (Some 1) (Some 1) ≡ codes "drop-every 1 is not 2 to 1000000"
  no_file : order_words (codes "a") (codes "send") false ≡ codes "FILE is missing: uucpair queue DIR send FILE"
  ordered : order_words (codes "a") (codes "send") true ≡ []
  no_order : order_words (codes "a") (codes "get") false ≡ codes "\"get\" is neither send nor request: uucpair queue DIR send FILE, or uucpair queue DIR request FILE"
  no_dir : order_words (codes "send") (codes "a") true ≡ codes "DIR goes first: uucpair queue DIR send FILE"
  full : full_remark (codes "a") ≡ codes "uucpair: a/jobs: the limit of 1024 jobs is reached: call, or cancel one" ++ 10 ∷ []
  one_folder : pair_words None None ≡ codes "DIR_A and DIR_B are one folder: give each end its own"
  give : folder_option (codes "none") (codes "~/in") ≡ codes "--give"
  take : folder_option (codes "~") (codes "~/in") ≡ codes "--take"
  open_folder : folder_option (codes "~") (codes "~") ≡ []
  dotted : dotted_remark (codes "send") (codes "~/.y") ≡ codes "uucpair: ~/.y has a leading dot: uucpair at the other end refuses such a target, Taylor UUCP takes it" ++ 10 ∷ []
  dotted_here : dotted_remark (codes "request") (codes ".y") ≡ codes "uucpair: .y has a leading dot: this end takes no such target, so the job will be given up" ++ 10 ∷ []
  undotted : dotted_remark (codes "send") (codes "y.z") ≡ []
  called_wait : hint_words (codes "call") false (codes "--wait=5") ≡ codes "--wait is for answer: a call waits as long as --timeout says"
  waits : hint_words (codes "answer") false (codes "--wait") ≡ []
  changed : pair_words None (Some 1) ≡ codes "flip-every 1 is not 2 to 1000000"

said : AreSaid
unfolding digits rsplit_once
said = record { range = refl; name = refl; no_peer = refl; peer = refl; port = refl; alone = refl; host = refl; system = refl; no_system = refl; no_place = refl; folder = refl; lacks = refl; path = refl; empty = refl; lost = refl; no_file = refl; ordered = refl; no_order = refl; no_dir = refl; full = refl; changed = refl; give = refl; take = refl; open_folder = refl; one_folder = refl; dotted = refl; dotted_here = refl; undotted = refl; called_wait = refl; waits = refl }
