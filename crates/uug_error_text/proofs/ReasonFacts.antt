-- What is said of calls that failed, so that a wrong definition does not check.
use Rattle.std.proofs.Common.{◌≡◌, [], ◌∷◌, ◌++◌, codes, replicate, Some, None, refl, pos}
use Rattle.std.specs.Fmt.{digits}
use Rattle.std.specs.declared.io.ErrorKind.TheVariants as kinds
use Rattle.uug_error.specs.declared.failure.Cause.TheVariants as causes
use Rattle.uug_error.specs.declared.failure.EndText.TheVariants.{Jobs}
use Rattle.uug_error.specs.declared.failure.Resource.TheVariants as on
use Rattle.uug_error_text.specs.Reasons.{Places, locks_line, places, reason_line}

-- two ends over a socket
abbrev pair_places : Places
pair_places = places [] (codes "s") (codes "a") (codes "b")

-- one end, of which a control byte stands in the folder's name
abbrev end_places : Places
end_places = places [] (codes "tcp:127.0.0.1:5999") (27 ∷ codes "a") (27 ∷ codes "a")

-- one end whose line and folder are exchanged
abbrev exchanged_places : Places
exchanged_places = places [] (codes "a") (codes "tcp:4000") (codes "tcp:4000")

-- ends whose lines lack their fronts
abbrev pub device_places : Places
device_places = places [] (codes "ttyS0") [] []

abbrev pub host_places : Places
host_places = places [] (codes "h:540") [] []

abbrev pub capital_places : Places
capital_places = places [] (codes "TCP:h:1") [] []

abbrev pub word_places : Places
word_places = places [] (codes "h") [] []

abbrev pub bracketed_places : Places
bracketed_places = places [] (codes "tcp:[::1]:5") [] []

abbrev pub zero_places : Places
zero_places = places [] (codes "tcp:h:0") [] []

abbrev pub long_places : Places
long_places = places [] (replicate 108 115) [] []

-- one end in a folder below that of the devices
abbrev shared_places : Places
shared_places = places [] (codes "unix:s") (codes "/dev/shm/a") (codes "/dev/shm/a")

-- what is written is called so
abbrev output_places : Places
output_places = places (codes "standard output") [] [] []

record AreSaid : Type 0 where
  line : reason_line end_places (record { end = 0; resource = on.Line; cause = causes.Refused kinds.ConnectionRefused (Some (pos 111)) }) ≡ codes "uucpair: tcp:127.0.0.1:5999: connection refused" ++ 10 ∷ []
  host : reason_line end_places (record { end = 0; resource = on.Line; cause = causes.Refused kinds.Uncategorized None }) ≡ codes "uucpair: tcp:127.0.0.1:5999: unknown host" ++ 10 ∷ []
  numbered : reason_line end_places (record { end = 0; resource = on.Line; cause = causes.Refused kinds.Uncategorized (Some (pos 5)) }) ≡ codes "uucpair: tcp:127.0.0.1:5999: error 5" ++ 10 ∷ []
  escaped : reason_line end_places (record { end = 0; resource = on.Text Jobs; cause = causes.Refused kinds.PermissionDenied (Some (pos 13)) }) ≡ codes "uucpair: \\x1ba/jobs: permission denied" ++ 10 ∷ []
  given : reason_line pair_places (record { end = 0; resource = on.Given (codes "x"); cause = causes.Refused kinds.IsADirectory (Some (pos 21)) }) ≡ codes "uucpair: a/send/x: is a directory" ++ 10 ∷ []
  got : reason_line pair_places (record { end = 1; resource = on.Got (codes "y"); cause = causes.Refused kinds.StorageFull (Some (pos 28)) }) ≡ codes "uucpair: b/got/y: no space left" ++ 10 ∷ []
  files : reason_line pair_places (record { end = 1; resource = on.Send; cause = causes.TooMuch }) ≡ codes "uucpair: b/send: over the limit of 256 files" ++ 10 ∷ []
  spool : reason_line pair_places (record { end = 0; resource = on.Dir; cause = causes.IsSpool }) ≡ codes "uucpair: a: it is a spool of Taylor UUCP: give --spool" ++ 10 ∷ []
  exchanged : reason_line exchanged_places (record { end = 0; resource = on.Dir; cause = causes.Refused kinds.NotFound (Some (pos 2)) }) ≡ codes "uucpair: tcp:4000: no such file or directory (LINE and DIR look swapped: give LINE first)" ++ 10 ∷ []
  shared : reason_line shared_places (record { end = 0; resource = on.Dir; cause = causes.Refused kinds.NotFound (Some (pos 2)) }) ≡ codes "uucpair: /dev/shm/a: no such file or directory" ++ 10 ∷ []
  lacks : reason_line pair_places (record { end = 0; resource = on.GotFolder; cause = causes.Refused kinds.NotFound (Some (pos 2)) }) ≡ codes "uucpair: a/got: no such file or directory (make it; only a spool, with --spool, has none)" ++ 10 ∷ []
  plain : reason_line end_places (record { end = 0; resource = on.Line; cause = causes.NoTerminal }) ≡ codes "uucpair: tcp:127.0.0.1:5999: not a terminal (LINE is a terminal device, tcp:HOST:PORT, unix:PATH or -)" ++ 10 ∷ []
  device : reason_line device_places (record { end = 0; resource = on.Line; cause = causes.Refused kinds.NotFound (Some (pos 2)) }) ≡ codes "uucpair: ttyS0: no such file or directory (LINE is a terminal device, tcp:HOST:PORT, unix:PATH or -: give /dev/ttyS0)" ++ 10 ∷ []
  named : reason_line host_places (record { end = 0; resource = on.Line; cause = causes.Refused kinds.NotFound (Some (pos 2)) }) ≡ codes "uucpair: h:540: no such file or directory (LINE is a terminal device, tcp:HOST:PORT, unix:PATH or -: give tcp:h:540)" ++ 10 ∷ []
  capital : reason_line capital_places (record { end = 0; resource = on.Line; cause = causes.Refused kinds.NotFound (Some (pos 2)) }) ≡ codes "uucpair: TCP:h:1: no such file or directory (LINE is a terminal device, tcp:HOST:PORT, unix:PATH or -: give tcp:h:1)" ++ 10 ∷ []
  bare : reason_line word_places (record { end = 0; resource = on.Line; cause = causes.Refused kinds.NotFound (Some (pos 2)) }) ≡ codes "uucpair: h: no such file or directory (LINE is a terminal device, tcp:HOST:PORT, unix:PATH or -)" ++ 10 ∷ []
  long : reason_line long_places (record { end = 0; resource = on.Line; cause = causes.Refused kinds.InvalidInput None }) ≡ codes "uucpair: " ++ (replicate 108 115 ++ (codes ": invalid argument (the path of a socket has at most 107 bytes)" ++ 10 ∷ []))
  bracketed : reason_line bracketed_places (record { end = 0; resource = on.Line; cause = causes.Refused kinds.Uncategorized None }) ≡ codes "uucpair: tcp:[::1]:5: unknown host (an IPv6 address has no brackets: tcp:::1:540)" ++ 10 ∷ []
  zero : reason_line zero_places (record { end = 0; resource = on.Line; cause = causes.Refused kinds.ConnectionRefused (Some (pos 111)) }) ≡ codes "uucpair: tcp:h:0: connection refused (0 is not a port: give 1 to 65535)" ++ 10 ∷ []
  bare_socket : reason_line device_places (record { end = 0; resource = on.Line; cause = causes.Refused kinds.Uncategorized (Some (pos 6)) }) ≡ codes "uucpair: ttyS0: error 6 (for a socket give unix:PATH)" ++ 10 ∷ []
  port : reason_line zero_places (record { end = 0; resource = on.Line; cause = causes.Refused kinds.PermissionDenied (Some (pos 13)) }) ≡ codes "uucpair: tcp:h:0: permission denied (a port below 1024 needs root, or CAP_NET_BIND_SERVICE)" ++ 10 ∷ []
  locks : locks_line (codes "l") (record { end = 1; resource = on.Dir; cause = causes.Refused kinds.NotFound (Some (pos 2)) }) ≡ codes "uucpair: no lock file can be created (--locks): l: no such file or directory" ++ 10 ∷ []
  socket : reason_line pair_places (record { end = 0; resource = on.Line; cause = causes.Refused kinds.AddrInUse (Some (pos 98)) }) ≡ codes "uucpair: s: address in use" ++ 10 ∷ []
  pipe : reason_line output_places (record { end = 1; resource = on.Output; cause = causes.NotAFile }) ≡ codes "uucpair: standard output: a named pipe may have no reader: name a file, /dev/stdout or /dev/stderr" ++ 10 ∷ []
  told : reason_line pair_places (record { end = 0; resource = on.Text Jobs; cause = causes.NotAFile }) ≡ codes "uucpair: a/jobs: not a regular file" ++ 10 ∷ []
  output : reason_line output_places (record { end = 0; resource = on.Output; cause = causes.MovedNothing }) ≡ codes "uucpair: standard output: it takes no bytes" ++ 10 ∷ []

said : AreSaid
unfolding digits
said = record { line = refl; host = refl; numbered = refl; escaped = refl; given = refl; got = refl; files = refl; spool = refl; exchanged = refl; shared = refl; lacks = refl; plain = refl; device = refl; named = refl; capital = refl; bare = refl; long = refl; bracketed = refl; zero = refl; bare_socket = refl; port = refl; locks = refl; socket = refl; pipe = refl; told = refl; output = refl }
