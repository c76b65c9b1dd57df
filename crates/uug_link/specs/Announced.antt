-- What the ends of a link announce to each other. Taylor UUCP manual, UUCP 'g' Protocol.
use Rattle.std.specs.Prelude.{ℕ, Bool}
use Rattle.uug_packet.specs.Number.{number_of}
use Rattle.uug_link.specs.declared.announce.Announce.{Announce}

-- The window that the other end shall use, and the code of the packet size. The last two are not told to the other end:
-- whether this end is quiet on repeats, and whether its commands are short (this project's profile).
pub record Announced : Type 0 where
  pub window : ℕ
  pub size_code : ℕ
  pub quiet : Bool
  pub short : Bool

-- what an announcement of the program says
abbrev pub announced : Announce → Announced
announced a = record { window = number_of a.window; size_code = number_of a.size_code; quiet = a.quiet; short = a.short }

-- the same, quiet on repeats or not
abbrev pub quiet_as : Bool → Announced → Announced
quiet_as quiet a = record a { quiet = quiet }

-- the same, with short commands or not
abbrev pub short_as : Bool → Announced → Announced
short_as short a = record a { short = short }
