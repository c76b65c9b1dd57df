-- Hints about what to do when a known mistake makes a system call fail (this project's profile).
use Rattle.std.specs.Prelude.{◌==◌, ◌&&◌, ◌||◌, ℕ, Bool, not, List, [], ◌++◌, codes, drop, eqb, is_some, length, nat_eq, nat_le, Some, None, if◌then◌else◌}
use Rattle.std.specs.Char.{is_ascii_digit}
use Rattle.std.specs.List.{ends_with, list_any, starts_with}
use Rattle.std.specs.Str.{bytes_eq}
use Rattle.std.specs.declared.io.ErrorKind.{ErrorKind}
use Rattle.std.specs.declared.io.ErrorKind.TheVariants as kinds
use Rattle.uug_error.specs.declared.failure.Cause.{Cause}
use Rattle.uug_error.specs.declared.failure.Cause.TheVariants.{Refused, NoTerminal}
use Rattle.uug_error.specs.declared.failure.Resource.{Resource}
use Rattle.uug_error.specs.declared.failure.Resource.TheVariants.{Dir, GotFolder, Line, Send}
use Rattle.uug_error_text.specs.KindWords.{kind_words}
use Rattle.uug_scan.specs.Detailed.{escaped}

-- A word looks like the name of a line. The path of a device outside `/dev` does not.
abbrev pub names_line : (word : List ℕ) → Bool
names_line word = bytes_eq word (codes "-") || (starts_with nat_eq word (codes "tcp:")
    || (starts_with nat_eq word (codes "unix:") || starts_with nat_eq word (codes "/dev/")))

-- the folder looks like the name of a line, and the line does not
abbrev pub are_exchanged : (line dir : List ℕ) → Bool
are_exchanged line dir = not (length line == 0) && (not (names_line line) && names_line dir)

abbrev pub exchanged_hint : (line dir : List ℕ) → List ℕ
exchanged_hint line dir = if are_exchanged line dir then codes " (LINE and DIR look swapped: give LINE first)" else []

-- the hint about the folder `got`, for files that arrive
abbrev pub got_hint : Cause → List ℕ
got_hint (Refused kinds.NotFound number) = codes " (make it; only a spool, with --spool, has none)"
got_hint _ = []

-- the hint about the folder `send`, for files that are sent
abbrev pub send_hint : Cause → List ℕ
send_hint (Refused kinds.NotFound number) = codes " (make it: the files of jobs go there)"
send_hint _ = []

-- a word has this byte
abbrev pub has_byte : (word : List ℕ) → (byte : ℕ) → Bool
has_byte word byte = list_any (λ b. eqb b byte) word

abbrev pub has_digit : (word : List ℕ) → Bool
has_digit word = list_any is_ascii_digit word

-- a word that has no slash (47), and does not look like the name of a line
abbrev pub is_bare : (word : List ℕ) → Bool
is_bare word = not (names_line word) && not (has_byte word 47)

-- a word without the prefix `TCP:` or `Tcp:`
abbrev pub address_of : (word : List ℕ) → List ℕ
address_of word =
    if starts_with nat_eq word (codes "TCP:") then drop 4 word else
    (if starts_with nat_eq word (codes "Tcp:") then drop 4 word else word)

abbrev pub port_words : (address : List ℕ) → List ℕ
port_words address = codes ": give tcp:" ++ escaped address

-- the port of a host, if the word has a colon (58) and a digit
abbrev pub port_guess : (line : List ℕ) → List ℕ
port_guess line = if has_byte line 58 && has_digit line then port_words (address_of line) else []

abbrev pub device_words : (name : List ℕ) → List ℕ
device_words name = codes ": give /dev/" ++ escaped name

-- the line that a bare word probably means: a device, or a port of a host
abbrev pub guess_words : (line : List ℕ) → List ℕ
guess_words line = if starts_with nat_eq line (codes "tty") then device_words line else port_guess line

-- what a line may be, and the line that a bare word probably means
abbrev pub forms_words : (forms line : List ℕ) → List ℕ
forms_words forms line = forms ++ (guess_words line ++ codes ")")

-- the hint about a line that does not exist
abbrev pub absent_hint : (line : List ℕ) → List ℕ
absent_hint line =
    if is_bare line then forms_words (codes " (LINE is a terminal device, tcp:HOST:PORT, unix:PATH or -") line else []

-- the hint about a socket whose path is too long
abbrev pub long_hint : (line : List ℕ) → List ℕ
long_hint line = if nat_le (length line) 107 then [] else codes " (the path of a socket has at most 107 bytes)"

-- the hint about a port or a device that this user is not allowed to use
abbrev pub right_hint : (line : List ℕ) → List ℕ
right_hint line =
    if starts_with nat_eq line (codes "tcp:") then codes " (a port below 1024 needs root, or CAP_NET_BIND_SERVICE)" else
    (if starts_with nat_eq line (codes "/dev/") then codes " (only its group may use it; usually: adduser USER dialout)" else [])

-- the hint about a refused connection to port 0
abbrev pub zero_hint : (line : List ℕ) → List ℕ
zero_hint line = if ends_with nat_eq line (codes ":0") then codes " (0 is not a port: give 1 to 65535)" else []

-- the hint about a host without an address
abbrev pub host_hint : (line : List ℕ) → List ℕ
host_hint line =
    if starts_with nat_eq line (codes "tcp:[") then codes " (an IPv6 address has no brackets: tcp:::1:540)" else
    (if starts_with nat_eq line (codes "tcp://") then codes " (give tcp:HOST:PORT, without slashes)" else [])

-- the hint about a path that can't be opened because of an error without a name, such as a socket's
abbrev pub socket_hint : (line : List ℕ) → ErrorKind → List ℕ
socket_hint line kind = if names_line line || is_some (kind_words kind) then [] else codes " (for a socket give unix:PATH)"

-- the hint about a failed call on the line
abbrev pub line_hint : (line : List ℕ) → Cause → List ℕ
line_hint line (Refused kinds.NotFound number) = absent_hint line
line_hint line (Refused kinds.IsADirectory number) = codes " (LINE is a terminal device, tcp:HOST:PORT, unix:PATH or -)"
line_hint line NoTerminal = codes " (LINE is a terminal device, tcp:HOST:PORT, unix:PATH or -)"
line_hint line (Refused kinds.InvalidInput number) = long_hint line
line_hint line (Refused kinds.ConnectionRefused number) = zero_hint line
line_hint line (Refused kinds.PermissionDenied number) = right_hint line
line_hint line (Refused kinds.AddrNotAvailable number) = codes " (not an address of this machine; 0.0.0.0 is all of them)"
line_hint line (Refused kind None) = host_hint line
line_hint line (Refused kind (Some number)) = socket_hint line kind
line_hint line _ = []

abbrev pub hint_words : (line dir : List ℕ) → Resource → Cause → List ℕ
hint_words line dir Dir cause = exchanged_hint line dir
hint_words line dir GotFolder cause = got_hint cause
hint_words line dir Send cause = send_hint cause
hint_words line dir Line cause = line_hint line cause
hint_words line dir _ cause = []
