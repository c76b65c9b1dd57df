-- Paths of files that a process holds open (this project's profile).
use Rattle.std.specs.Prelude.{ℕ, ◌||◌, Bool, List, codes, nat_eq}
use Rattle.std.specs.List.{starts_with}

-- `/dev/stdout` is a link to the first
abbrev pub is_of_process : (path : List ℕ) → Bool
is_of_process path = starts_with nat_eq path (codes "/proc/") || starts_with nat_eq path (codes "/dev/fd/")
