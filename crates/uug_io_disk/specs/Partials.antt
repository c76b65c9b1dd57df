-- The partial files of an end, which hold the first bytes of others (this project's profile).
use Rattle.std.specs.Char.{is_ascii_hexdigit}
use Rattle.std.specs.List.{list_all}
use Rattle.std.specs.Prelude.{◌&&◌, ℕ, Bool, List, length, nat_eq}

-- the name of one: a digest in hexadecimal digits
abbrev pub is_partial : (name : List ℕ) → Bool
is_partial name = nat_eq (length name) 64 && list_all is_ascii_hexdigit name
