-- The names of lines (this project's profile).
use Rattle.std.specs.Prelude.{ℕ, List, [], ◌∷◌, drop, length, codes, nat_eq, Option, Some, None, unwrap_or, if◌then◌else◌}
use Rattle.std.specs.List.{starts_with}
use Rattle.std.specs.Option.{option_map}
use Rattle.std.specs.Path.{rsplit_once}
use Rattle.std.specs.Str.{bytes_eq}
use Rattle.std.specs.Str.Parse.{without_leading_plus}
use Rattle.uug_talk.specs.Number.{number_of}
use Rattle.uug_transfer.specs.declared.line_name.LineName.{LineName}
use Rattle.uug_transfer.specs.declared.line_name.LineName.TheVariants as lines

-- a line, as data
pub data LineShown : Type 0 where
  standard : LineShown
  unix : (path : List ℕ) → LineShown
  tcp : (host : List ℕ) (port : ℕ) → LineShown
  device : (path : List ℕ) → LineShown

-- the data of a `LineName`
abbrev pub shown : LineName → LineShown
shown lines.Standard = standard
shown (lines.Unix path) = unix path.now
shown (lines.Tcp host port) = tcp host.now port
shown (lines.Device path) = device path.now

-- this machine, at an address that no other machine can reach
abbrev pub loopback : List ℕ
loopback = codes "127.0.0.1"

abbrev pub colon : ℕ
colon = 58

-- the text after this word, if the text begins with the word
abbrev pub behind : (word text : List ℕ) → Option (List ℕ)
behind word text = if starts_with nat_eq text word then Some (drop (length word) text) else None

-- the text, if it is not empty
abbrev pub not_empty : List ℕ → Option (List ℕ)
not_empty [] = None
not_empty (c ∷ text) = Some (c ∷ text)

-- a port is decimal digits, with an optional plus in front, and at most 65,535
abbrev pub port_of : List ℕ → Option ℕ
port_of text = number_of 65535 (without_leading_plus text)

-- The last colon of an address separates its host from its port. An address without a colon is a port of this machine.
abbrev pub host_and_port : List ℕ → List ℕ × List ℕ
host_and_port address = unwrap_or (rsplit_once colon address) (loopback, address)

abbrev pub tcp_at : Option (List ℕ) → Option ℕ → Option LineShown
tcp_at (Some host) (Some port) = Some (tcp host port)
tcp_at _ _ = None

abbrev pub tcp_of : List ℕ × List ℕ → Option LineShown
tcp_of parts = tcp_at (not_empty parts.0) (port_of parts.1)

-- the line of a name that doesn't begin with `unix:`; `address` is the text after `tcp:`, if it begins with that
abbrev pub tcp_or_device : (name : List ℕ) → (address : Option (List ℕ)) → Option LineShown
tcp_or_device name None = option_map device (not_empty name)
tcp_or_device name (Some address) = tcp_of (host_and_port address)

abbrev pub line_by : (name : List ℕ) → (path : Option (List ℕ)) → Option LineShown
line_by name (Some path) = option_map unix (not_empty path)
line_by name None = tcp_or_device name (behind (codes "tcp:") name)

-- the line of a name: `-`, `unix:PATH`, `tcp:HOST:PORT`, `tcp:PORT`, or else the path of a device
abbrev pub line_of : (name : List ℕ) → Option LineShown
line_of name = if bytes_eq name (codes "-") then Some standard else line_by name (behind (codes "unix:") name)
