-- Spells the place at which an end waits to be called (this project's profile).
use Rattle.std.specs.Fmt.{decimal}
use Rattle.std.specs.Prelude.{ℕ, ◌==◌, Bool, false, not, List, [], ◌++◌, codes, eqb, Option, Some, None, if◌then◌else◌}
use Rattle.std.specs.List.{list_any}
use Rattle.std.specs.Str.{bytes_eq}
use Rattle.uug_scan.specs.Detailed.{escaped}
use Rattle.uug_transfer.specs.LineNames.{LineShown, behind, line_of, standard, unix, tcp, device}

-- who can call a port of this host: only this machine at 127.0.0.1, else nothing is said
abbrev pub host_words : (host : List ℕ) → (port : ℕ) → List ℕ
host_words host port =
    if bytes_eq host (codes "127.0.0.1")
    then codes " (this machine only; tcp:0.0.0.0:" ++ (decimal port ++ codes " for all)") else []

-- the same, and for port 0 that no caller knows it: the system picks a port
abbrev pub reach_words : (host : List ℕ) → (port : ℕ) → List ℕ
reach_words host port =
    if port == 0 then codes " (any free port, which no caller knows: give 1 to 65535)" else host_words host port

abbrev pub is_port_zero : Option LineShown → Bool
is_port_zero (Some (tcp host port)) = port == 0
is_port_zero _ = false

-- a line is port 0 of a host
abbrev pub has_no_port : (line : List ℕ) → Bool
has_no_port line = is_port_zero (line_of line)

abbrev pub tcp_words : (host : List ℕ) → (port : ℕ) → List ℕ
tcp_words host port = escaped host ++ (codes ":" ++ (decimal port ++ reach_words host port))

-- an address has a colon, which separates its host from its port
abbrev pub has_colon : (address : List ℕ) → Bool
has_colon address = list_any (λ b. eqb b 58) address

abbrev pub is_hostless : Option (List ℕ) → Bool
is_hostless (Some address) = not (has_colon address)
is_hostless None = false

-- a line is a port without a host
abbrev pub has_no_host : (line : List ℕ) → Bool
has_no_host line = is_hostless (behind (codes "tcp:") line)

abbrev pub name_words : LineShown → (line : List ℕ) → List ℕ
name_words (tcp host port) line = tcp_words host port
name_words standard line = escaped line
name_words (unix path) line = escaped line
name_words (device path) line = escaped line

abbrev pub words_at : Option LineShown → (line : List ℕ) → List ℕ
words_at (Some name) line = name_words name line
words_at None line = escaped line

abbrev pub waiting_words : (line : List ℕ) → List ℕ
waiting_words line = words_at (line_of line) line
